-- Which constraints leave no choice, by their numbers, the first being 0.
use Rattle.std.specs.Prelude.{◌≡◌, ℕ, suc, ◌<◌, Bool, true, false, ◌||◌, List, [], ◌∷◌, length, map, get_or}
use Rattle.std.specs.List.{All}
use Rattle.zi_formula.specs.declared.formula.Constraint.{Constraint}
use Rattle.zi_formula.specs.declared.formula.Constraint.TheVariants.{AtMostOne}
use Rattle.zi_formula.specs.declared.formula.Formula.{Formula}
use Rattle.zi_formula.specs.Truth.{Models}
use Rattle.zi_formula.specs.Form.{has_variable}
use Rattle.zi_proof.specs.declared.proof.Lemma.{Lemma}
use Rattle.zi_proof.specs.declared.proof.Proof.{Proof}
use Rattle.zi_universe.specs.declared.types.Requirement.{Requirement}
use Rattle.zi_universe.specs.declared.types.Interface.{Interface}
use Rattle.zi_build.specs.Clauses.{rules, formula}

-- the constraint of a number, which is there
abbrev pub constraint_at : List Constraint → ℕ → Constraint
constraint_at cs n = get_or cs n (AtMostOne [])

-- the same variables with these constraints alone
abbrev pub only : Formula → List ℕ → Formula
only f ns = record { variables = f.variables; constraints = map (constraint_at f.constraints) ns }

-- no assignment makes all of them true
abbrev pub HasNoModel : Formula → Type 0
HasNoModel f = (v : ℕ → Bool) → ¬ Models v f

-- each number is below those behind it
abbrev pub Ascending : List ℕ → Type 0
Ascending [] = Unit {0}
Ascending (n ∷ ns) = All (λ m. n < m) ns × Ascending ns

-- some lemma of a proof has the hint
abbrev pub is_hint : List Lemma → ℕ → Bool
is_hint [] h = false
is_hint (m ∷ ms) h = has_variable m.hints h || is_hint ms h

-- These are constraints of the universe and the requirement, each once and in their order, and no assignment makes just these
-- true.
pub record IsCore (u : List Interface) (req : Requirement) (ns : List ℕ) : Type 0 where
  pub own : All (λ n. n < length (rules u req)) ns
  pub order : Ascending ns
  pub none : HasNoModel (only (formula u req) ns)

-- each of them is used by a proof, in which the constraint of number 0 has the hint 1
abbrev pub AreUsed : Proof → List ℕ → Type 0
AreUsed p ns = All (λ n. is_hint p.lemmas (suc n) ≡ true) ns
