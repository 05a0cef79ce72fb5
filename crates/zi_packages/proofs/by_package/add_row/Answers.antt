use Rattle.std.proofs.Common.{[], ◌∷◌, ◌++◌, ap, ◌∙◌}
use Rattle.std.specs.Prelude.{unwrap_or}
use Rattle.zi_packages.proofs.PickLaws.{adds_row}
use Rattle.zi_packages.proofs.by_package.add_row.Goals as goal

pub returns : goal.returns
returns c =
    adds_row c.args.row.now c.as_str-name.result c.args.rows.now.entries c.remove.new.self.entries c.insert.new.self.entries c.unwrap_or-those.result c.push.new.self
    c.as_str-name.ensures (c.unwrap_or-those.ensures ∙ ap (unwrap_or c.remove.result) c.new-2.ensures ∙ ap (λ o. unwrap_or o []) c.remove.ensures.value)
    (c.in_ok-push.ensures.ok ∙ ap (λ q. c.unwrap_or-those.result ++ q ∷ []) c.in_ok-named.ensures)
    c.remove.ensures.updates.0 c.in_ok-insert.ensures.updates.0
