-- What a constraint whose items are lent is.
use Rattle.zi_formula.specs.declared.constraints.Lent.{Lent}
use Rattle.zi_formula.specs.declared.constraints.Lent.TheVariants as lent
use Rattle.zi_formula.specs.declared.formula.Constraint.{Constraint}
use Rattle.zi_formula.specs.declared.formula.Constraint.TheVariants.{Clause, AtMostOne}

-- the constraint that it shows
abbrev pub shows : Lent → Constraint
shows (lent.Clause ls) = Clause ls.now
shows (lent.AtMostOne xs) = AtMostOne xs.now
