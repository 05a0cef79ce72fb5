-- When a lemma is accepted, and when a list of lemmas follows from a formula: reverse unit propagation by hints, as the LRAT
-- proof format for DIMACS CNF has it, with groups as hints too.
use Rattle.std.specs.Prelude.{ℕ, zero, suc, nat_le, Bool, true, false, cond, ◌&&◌, List, [], ◌∷◌, ◌++◌, map, Option, Some, None}
use Rattle.std.specs.List.{slice_get}
use Rattle.zi_formula.specs.declared.formula.Lit.{Lit}
use Rattle.zi_formula.specs.declared.formula.Constraint.{Constraint}
use Rattle.zi_formula.specs.declared.formula.Constraint.TheVariants.{Clause}
use Rattle.zi_formula.specs.declared.formula.Formula.{Formula}
use Rattle.zi_formula.specs.Truth.{opposite}
use Rattle.zi_formula.specs.Form.{has_all}
use Rattle.zi_proof.specs.declared.proof.Lemma.{Lemma}
use Rattle.zi_proof.specs.Known.{Known, nothing, put, is_false, Outcome, Fails, Contradiction, Goes, step}

-- Hints number the constraints from 1, and after them the lemmas in order.
abbrev pub lemma_clause : Lemma → Constraint
lemma_clause m = Clause m.lits

abbrev pub citable : List Constraint → List Lemma → List Constraint
citable cs ms = cs ++ map lemma_clause ms

abbrev pub cited : List Constraint → ℕ → Option Constraint
cited all zero = None
cited all (suc h) = slice_get all h

abbrev pub step_cited : Known → Option Constraint → Outcome
step_cited k None = Fails
step_cited k (Some c) = step k c

-- how the walk goes on after one hint
abbrev pub after_hint : Outcome → (Known → Bool) → Bool → Bool
after_hint Fails rest last = false
after_hint Contradiction rest last = last
after_hint (Goes k) rest last = rest k

abbrev pub no_more : List ℕ → Bool
no_more [] = true
no_more (h ∷ hs) = false

-- the contradiction comes at the last hint, and no hint fails
abbrev pub walk : List Constraint → Known → List ℕ → Bool
walk all k [] = false
walk all k (h ∷ hs) = after_hint (step_cited k (cited all h)) (λ after. walk all after hs) (no_more hs)

-- the literals taken as true one after another, unless one of them is already false
abbrev pub assume : Known → List Lit → Option Known
assume k [] = Some k
assume k (l ∷ ls) = cond (is_false k l) None (assume (put k l) ls)

abbrev pub walk_from : List Constraint → Option Known → List ℕ → Bool
walk_from all None hints = false
walk_from all (Some k) hints = walk all k hints

-- the variables are among 1 to n
abbrev pub lits_within : ℕ → List Lit → Bool
lits_within n [] = true
lits_within n (l ∷ ls) = nat_le 1 l.variable && (nat_le l.variable n && lits_within n ls)

abbrev pub accepted : Formula → List Lemma → List Lit → List ℕ → Bool
accepted f earlier assumed hints =
    lits_within f.variables assumed && walk_from (citable f.constraints earlier) (assume nothing assumed) hints

-- a lemma is accepted from the opposites of its literals
abbrev pub lemma_accepted : Formula → List Lemma → Lemma → Bool
lemma_accepted f earlier m = accepted f earlier (map opposite m.lits) m.hints

-- each lemma is accepted, with hints to constraints and earlier lemmas
abbrev pub follows_after : Formula → List Lemma → List Lemma → Bool
follows_after f earlier [] = true
follows_after f earlier (m ∷ ms) = lemma_accepted f earlier m && follows_after f (earlier ++ m ∷ []) ms

abbrev pub follows : Formula → List Lemma → Bool
follows f ms = follows_after f [] ms

-- the last lemma has just the goal's literals
abbrev pub proves : List Lit → List Lemma → Bool
proves goal [] = false
proves goal (m ∷ []) = has_all m.lits goal && has_all goal m.lits
proves goal (m ∷ n ∷ ms) = proves goal (n ∷ ms)

-- the variables of every lemma are among 1 to n
abbrev pub lemmas_within : ℕ → List Lemma → Bool
lemmas_within n [] = true
lemmas_within n (m ∷ ms) = lits_within n m.lits && lemmas_within n ms
