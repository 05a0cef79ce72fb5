-- How blocks are made, one after another.
use Rattle.std.specs.Prelude.{◌≡◌, ℕ, ◌<◌, Bool, true, cond, List, [], ◌∷◌, ◌++◌, length, Option, None, IfSome}
use Rattle.zi_formula.specs.declared.formula.Lit.{Lit}
use Rattle.zi_formula.specs.declared.formula.Formula.{Formula}
use Rattle.zi_formula.specs.Form.{WellFormed}
use Rattle.zi_proof.specs.declared.proof.Lemma.{Lemma}
use Rattle.zi_proof.specs.declared.proof.Block.{Block}
use Rattle.zi_proof.specs.Known.{nothing}
use Rattle.zi_proof.specs.Accepted.{citable, accepted, follows}
use Rattle.zi_sat.specs.declared.entry.Entry.{Entry}
use Rattle.zi_sat.specs.Trail.{learn}
use Rattle.zi_universe.specs.declared.types.Interface.{Interface}
use Rattle.zi_choice.specs.Choice.{Choice, pick}
use Rattle.zi_choice.specs.Walk.{Place}
use Rattle.zi_choice.specs.Vars.{Cand, candidates_of, var_number}
use Rattle.zi_build.specs.Clauses.{keep}
use Rattle.zi_numbering.specs.Listing.{comes_to}
use Rattle.zi_walk.proofs.Replay.{replay}
use Rattle.zi_certificate.specs.Certificates.{Asked, is_passed, is_so, AreBlocks}
use Rattle.zi_solve.specs.declared.blocks.Making.{Making}
use Rattle.zi_solve.specs.Replays.{Knows}
use Rattle.zi_solve.specs.Laws.{AreGiven}

-- what is picked where the places come to, and nothing elsewhere
pub record IsCut (s : Choice) (ps : List Place) (t : Choice) : Type 0 where
  pub each : length t ≡ length s
  pub are : (i : ℕ) → pick t i ≡ cond (comes_to ps i) (pick s i) None

abbrev pub universe_of : Making → List Interface
universe_of on = on.numbering.now

abbrev pub formula_of : Making → Formula
formula_of on = on.formula.now

abbrev pub lemmas_of : Making → List Lemma
lemmas_of on = on.proof.now.lemmas

abbrev pub entries_of : Making → List Entry
entries_of on = on.trail.now.entries

-- hints may be walked there
pub record May (on : Making) (marks : List (Option Bool)) : Type 0 where
  pub formed : WellFormed (formula_of on)
  pub follow : follows (formula_of on) (lemmas_of on) ≡ true
  pub knows : Knows (formula_of on) (lemmas_of on) marks
  pub room : on.trail.now.variables ≡ (formula_of on).variables

-- the trail, walked again from what is assumed, is accepted
abbrev pub IsGiven : Making → List Lit → Type 0
IsGiven on assumed =
    accepted (formula_of on) (lemmas_of on) assumed (replay (citable (formula_of on).constraints (lemmas_of on)) (learn nothing assumed) (entries_of on)) ≡ true

-- the block of a place and a candidate is given by the trail
abbrev pub AsksOne : Making → ℕ → ℕ → List Lit → Type 0
AsksOne on n x assumed =
    AreGiven (formula_of on) (lemmas_of on) (entries_of on) (record { place = n; candidate = x; assumed = assumed } ∷ [])

-- behind the blocks there were stand those that are asked for
abbrev pub Adds : Making → List Asked → List Block → List Block → Type 0
Adds on xs bs cs = (ys : List Block) × (cs ≡ bs ++ ys) × AreBlocks (formula_of on) (lemmas_of on) xs ys

-- the block that a candidate asks for, where it is passed over
abbrev pub asked_at : List Interface → ℕ → List Lit → Place → ℕ → List Asked
asked_at u n before p c =
    keep (is_passed p.pick c) (record { place = n; candidate = var_number u (Cand p.interface c); assumed = before ++ is_so u p.interface c ∷ [] })

-- what is picked at a place is a candidate
abbrev pub IsWithin : List Interface → Place → Type 0
IsWithin u p = IfSome p.pick (λ c. c < length (candidates_of u p.interface))
