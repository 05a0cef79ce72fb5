-- How the code's answers say what a step makes.
use Rattle.std.specs.Prelude.{ℕ, ◌<◌, ◌≤◌, List, [], ◌∷◌}
use Rattle.std.specs.List.{All}
use Rattle.zi_formula.specs.declared.formula.Lit.{Lit}
use Rattle.zi_formula.specs.declared.formula.Constraint.{Constraint}
use Rattle.zi_formula.specs.declared.formula.Constraint.TheVariants.{Clause, AtMostOne}
use Rattle.zi_proof.specs.declared.steps.Taken.{Taken}
use Rattle.zi_proof.specs.declared.steps.Taken.TheVariants as taken
use Rattle.zi_proof.specs.declared.steps.Scan.{Scan}
use Rattle.zi_proof.specs.declared.steps.Scan.TheVariants as scan
use Rattle.zi_proof.specs.declared.steps.Many.{Many}
use Rattle.zi_proof.specs.declared.steps.Many.TheVariants as many
use Rattle.zi_proof.specs.Known.{Known, put, Outcome, Fails, Contradiction, Goes}

abbrev pub outcome_of : Known → Scan → Outcome
outcome_of k scan.AllFalse = Contradiction
outcome_of k (scan.One l) = Goes (put k l)
outcome_of k scan.Other = Fails

abbrev pub taken_as : Outcome → Taken
taken_as Fails = taken.Fails
taken_as Contradiction = taken.Contradiction
taken_as (Goes k) = taken.Goes

abbrev pub known_after : Known → Outcome → Known
known_after k Fails = k
known_after k Contradiction = k
known_after k (Goes after) = after

abbrev pub many_of : List ℕ → Many
many_of [] = many.None
many_of (x ∷ []) = many.One
many_of (x ∷ y ∷ xs) = many.More

abbrev pub Held : ℕ → Constraint → Type 0
Held n (Clause ls) = All (λ l. (1 ≤ l.variable) × (l.variable < n)) ls
Held n (AtMostOne xs) = All (λ x. x < n) xs

abbrev pub AtOne : Scan → (Lit → Type 0) → Type 0
AtOne scan.AllFalse P = Unit {0}
AtOne (scan.One l) P = P l
AtOne scan.Other P = Unit {0}
