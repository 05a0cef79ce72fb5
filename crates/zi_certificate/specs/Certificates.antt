-- When a certificate shows that a choice is the best, and a proof that there is none.
use Rattle.std.specs.Prelude.{◌≡◌, ℕ, suc, Bool, true, false, nat_lt, List, [], ◌∷◌, ◌++◌, Option, Some, None}
use Rattle.zi_formula.specs.declared.formula.Lit.{Lit}
use Rattle.zi_formula.specs.declared.formula.Formula.{Formula}
use Rattle.zi_proof.specs.declared.proof.Lemma.{Lemma}
use Rattle.zi_proof.specs.declared.proof.Proof.{Proof}
use Rattle.zi_proof.specs.declared.proof.Block.{Block}
use Rattle.zi_proof.specs.declared.proof.Certificate.{Certificate}
use Rattle.zi_proof.specs.Accepted.{follows, accepted, proves}
use Rattle.zi_universe.specs.declared.types.Requirement.{Requirement}
use Rattle.zi_universe.specs.declared.types.Candidate.{Candidate}
use Rattle.zi_universe.specs.declared.types.Interface.{Interface}
use Rattle.zi_choice.specs.Choice.{Choice}
use Rattle.zi_choice.specs.Walk.{Place, Walk, Walks}
use Rattle.zi_choice.specs.Vars.{Var, Cand, candidates_of, var_number}
use Rattle.zi_build.specs.Clauses.{each, keep, yes, no, lit_of, formula}

-- A block that a certificate has to have: its place, from 1, its candidate's variable, and what is taken as true.
pub record Asked : Type 0 where
  pub place : ℕ
  pub candidate : ℕ
  pub assumed : List Lit

-- it stands before the choice; where none is chosen, each does
abbrev pub is_passed : Option ℕ → ℕ → Bool
is_passed None c = true
is_passed (Some d) c = nat_lt c d

abbrev pub is_so : List Interface → ℕ → ℕ → Lit
is_so u i c = lit_of u (yes (Cand i c))

abbrev pub is_not : List Interface → ℕ → ℕ → Candidate → List Lit
is_not u i c k = lit_of u (no (Cand i c)) ∷ []

-- what a place says: its choice, or that none of its candidates is chosen
abbrev pub said_at : List Interface → ℕ → Option ℕ → List Lit
said_at u i (Some c) = is_so u i c ∷ []
said_at u i None = each 0 (is_not u i) (candidates_of u i)

abbrev pub asked_one : List Interface → ℕ → List Lit → Place → ℕ → Candidate → List Asked
asked_one u n before p c k =
    keep (is_passed p.pick c) (record { place = n; candidate = var_number u (Cand p.interface c); assumed = before ++ is_so u p.interface c ∷ [] })

-- the blocks for the places of a walk, the first with this number, behind others that say this
abbrev pub asked_from : List Interface → ℕ → List Lit → List Place → List Asked
asked_from u n before [] = []
asked_from u n before (p ∷ ps) =
    each 0 (asked_one u n before p) (candidates_of u p.interface) ++ asked_from u (suc n) (before ++ said_at u p.interface p.pick) ps

-- the blocks are exactly these, in order, and each is accepted
abbrev pub AreBlocks : Formula → List Lemma → List Asked → List Block → Type 0
AreBlocks f ms [] [] = Unit {0}
AreBlocks f ms [] (b ∷ bs) = ⊥
AreBlocks f ms (a ∷ as') [] = ⊥
AreBlocks f ms (a ∷ as') (b ∷ bs) =
    (b.place ≡ a.place) × (b.candidate ≡ a.candidate) × (accepted f ms a.assumed b.hints ≡ true) × AreBlocks f ms as' bs

-- The lemmas of a certificate follow, and its blocks say of each candidate that the choice passes over why it can't be chosen
-- there.
pub record Excludes (u : List Interface) (req : Requirement) (s : Choice) (c : Certificate) : Type 0 where
  pub follow : follows (formula u req) c.proof.lemmas ≡ true
  pub walk : Walk
  pub walks : Walks u req s walk
  pub blocks : AreBlocks (formula u req) c.proof.lemmas (asked_from u 1 [] walk.places) c.blocks

-- the lemmas follow, and the last one has no literal
abbrev pub Refutes : List Interface → Requirement → Proof → Type 0
Refutes u req p = (follows (formula u req) p.lemmas ≡ true) × (proves [] p.lemmas ≡ true)
