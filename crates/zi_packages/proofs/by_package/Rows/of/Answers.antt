use Rattle.std.proofs.Common.{List, ℕ, [], ap, sym, ◌∙◌}
use Rattle.std.specs.Prelude.{unwrap_or, option_copied}
use Rattle.zi_packages.specs.Picks.{rows_in}
use Rattle.zi_packages.proofs.by_package.Rows.of.Goals as goal

pub returns-in-None : goal.returns-in-None
returns-in-None c = rw (← c.self.view_is)
    (sym (ap (λ o. unwrap_or o []) (ap option_copied (sym c.in-None.is) ∙ c.get.ensures.value)
    ∙ ap (λ (q : List ℕ). rows_in c.self.inside.by_package.entries q) c.as_str-name.ensures ∙ c.self.invariant c.args.name.now))

pub returns-in-Some : goal.returns-in-Some
returns-in-Some c = rw (← c.self.view_is)
    (c.as_slice.ensures ∙ ap (λ o. unwrap_or o []) (ap option_copied (sym c.in-Some.is) ∙ c.get.ensures.value)
    ∙ ap (λ (q : List ℕ). rows_in c.self.inside.by_package.entries q) c.as_str-name.ensures ∙ c.self.invariant c.args.name.now)
