-- How constraints are held flat: the literals of all clauses, the variables of all groups, where each group stands, and where
-- each constraint ends.
use Rattle.std.specs.Prelude.{◌≡◌, ℕ, ◌<◌, ◌≤◌, List, [], ◌∷◌, length, slice_range}
use Rattle.zi_formula.specs.declared.formula.Lit.{Lit}
use Rattle.zi_formula.specs.declared.formula.Constraint.{Constraint}
use Rattle.zi_formula.specs.declared.formula.Constraint.TheVariants.{Clause, AtMostOne}
use Rattle.zi_formula.specs.declared.constraints.End.{End}
use Rattle.zi_formula.specs.declared.constraints.End.TheVariants as end
use Rattle.zi_formula.specs.declared.constraints.Group.{Group}
use Rattle.zi_formula.specs.declared.constraints.Constraints.TheInside.{Inside}
use Rattle.zi_formula.specs.Places.{group_at, lits_to, lits_after}

-- the constraint of an end, where so many literals are before it
abbrev pub constraint_at : List Lit → List ℕ → List Group → ℕ → End → Constraint
constraint_at ls xs gs a (end.Clause n) = Clause (slice_range ls a n)
constraint_at ls xs gs a (end.AtMostOne g) = AtMostOne (slice_range xs (group_at gs g).start (group_at gs g).end)

-- those of these ends
abbrev pub constraints_from : List Lit → List ℕ → List Group → ℕ → List End → List Constraint
constraints_from ls xs gs a [] = []
constraints_from ls xs gs a (e ∷ es) = constraint_at ls xs gs a e ∷ constraints_from ls xs gs (lits_to gs e) es

-- what an end says stands there
abbrev pub Stands : ℕ → ℕ → List Group → ℕ → End → Type 0
Stands literals variables gs a (end.Clause n) = (a ≤ n) × (n ≤ literals)
Stands literals variables gs a (end.AtMostOne g) =
    (g < length gs) × ((group_at gs g).lits ≡ a) × ((group_at gs g).start ≤ (group_at gs g).end) × ((group_at gs g).end ≤ variables)

abbrev pub AllStand : ℕ → ℕ → List Group → ℕ → List End → Type 0
AllStand literals variables gs a [] = Unit {0}
AllStand literals variables gs a (e ∷ es) =
    Stands literals variables gs a e × AllStand literals variables gs (lits_to gs e) es

abbrev pub constraints_of : Inside → List Constraint
constraints_of a = constraints_from a.lits.items a.variables.items a.groups.items 0 a.ends.items

-- each constraint stands behind the earlier ones, and no literal is behind the last
pub record IsFlat (a : Inside) : Type 0 where
  pub stand : AllStand (length a.lits.items) (length a.variables.items) a.groups.items 0 a.ends.items
  pub last : lits_after a.groups.items 0 a.ends.items ≡ length a.lits.items
