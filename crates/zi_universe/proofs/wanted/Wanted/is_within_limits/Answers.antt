use Rattle.std.proofs.Common.{[], ap, sym, ◌∙◌}
use Rattle.std.specs.Prelude.{unwrap_or, option_copied}
use Rattle.zi_universe.specs.Lookups.{all_admit, limits_in}
use Rattle.zi_universe.proofs.wanted.Wanted.is_within_limits.Goals as goal

pub returns-in-None : goal.returns-in-None
returns-in-None c = rw (← c.self.view_is)
    (ap (λ o. all_admit (unwrap_or o []) c.args.version.now) (ap option_copied (sym c.in-None.is) ∙ c.get.ensures.value)
    ∙ ap (λ i. all_admit (limits_in c.self.inside.limits.entries i) c.args.version.now) c.as_str-interface.ensures ∙ c.self.invariant.1 c.args.interface.now c.args.version.now)

pub returns-in-Some : goal.returns-in-Some
returns-in-Some c = rw (← c.self.view_is)
    (c.all_admit.ensures ∙ ap (λ ls. all_admit ls c.args.version.now) c.as_slice.ensures
    ∙ ap (λ o. all_admit (unwrap_or o []) c.args.version.now) (ap option_copied (sym c.in-Some.is) ∙ c.get.ensures.value)
    ∙ ap (λ i. all_admit (limits_in c.self.inside.limits.entries i) c.args.version.now) c.as_str-interface.ensures ∙ c.self.invariant.1 c.args.interface.now c.args.version.now)
