use Rattle.std.proofs.Common.{[], ap, ◌∙◌}
use Rattle.std.specs.Prelude.{unwrap_or}
use Rattle.zi_universe.proofs.LookupLemmas.{adds_limit}
use Rattle.zi_universe.proofs.wanted.add_limit.Goals as goal

pub returns : goal.returns
returns c =
    adds_limit c.args.limit c.as_str-interface.result c.args.limits.now.entries c.remove.new.self.entries c.insert.new.self.entries c.unwrap_or-those.result c.push.new.self
    c.as_str-interface.ensures (c.unwrap_or-those.ensures ∙ ap (unwrap_or c.remove.result) c.new.ensures ∙ ap (λ o. unwrap_or o []) c.remove.ensures.value) c.in_ok-push.ensures.ok
    c.remove.ensures.updates.0 c.in_ok-insert.ensures.updates.0
