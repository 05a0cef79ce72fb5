use Rattle.std.proofs.Common.{ap, ◌∙◌}
use Rattle.std.specs.Prelude.{unwrap_or}
use Rattle.zi_universe.specs.Candidates.{stability_of}
use Rattle.zi_universe.specs.Lookups.{stability_in}
use Rattle.zi_universe.proofs.wanted.Wanted.stability.Goals as goal

pub returns : goal.returns
unfolding stability_of
returns c = rw (← c.self.view_is)
    (c.unwrap_or.ensures ∙ ap (λ o. unwrap_or o c.args.imp.now.stability)
    (c.copied-given.ensures ∙ c.get.ensures.value ∙ ap (λ i. stability_in c.self.inside.stabilities.entries i c.as_str-id.result.now) c.as_str-interface.ensures
    ∙ ap (stability_in c.self.inside.stabilities.entries c.args.interface.now) c.as_str-id.ensures ∙ c.self.invariant.0 c.args.interface.now c.args.imp.now.id))
