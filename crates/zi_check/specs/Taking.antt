-- How blocks are passed one after another.
use Rattle.std.specs.Prelude.{◌≡◌, ℕ, ◌<◌, Bool, true, false, List, [], ◌∷◌, ◌++◌, drop, length, Option, IfSome}
use Rattle.zi_formula.specs.declared.formula.Lit.{Lit}
use Rattle.zi_formula.specs.declared.formula.Formula.{Formula}
use Rattle.zi_formula.specs.Form.{WellFormed}
use Rattle.zi_proof.specs.declared.proof.Lemma.{Lemma}
use Rattle.zi_proof.specs.declared.proof.Block.{Block}
use Rattle.zi_proof.specs.Accepted.{follows}
use Rattle.zi_proof.specs.Cells.{MadeFor}
use Rattle.zi_universe.specs.declared.types.Interface.{Interface}
use Rattle.zi_choice.specs.Walk.{Place}
use Rattle.zi_choice.specs.Vars.{Cand, candidates_of, var_number}
use Rattle.zi_build.specs.Clauses.{keep}
use Rattle.zi_certificate.specs.Certificates.{Asked, is_passed, is_so, AreBlocks}
use Rattle.zi_check.specs.declared.blocks.Certified.{Certified}

abbrev pub interfaces_of : Certified → List Interface
interfaces_of on = on.numbering.now

abbrev pub formula_of : Certified → Formula
formula_of on = on.formula.now

abbrev pub lemmas_of : Certified → List Lemma
lemmas_of on = on.proof.now.lemmas

abbrev pub blocks_of : Certified → List Block
blocks_of on = on.blocks.now

-- hints may be walked there
pub record IsFollowed (on : Certified) (marks : List (Option Bool)) : Type 0 where
  pub formed : WellFormed (formula_of on)
  pub follow : follows (formula_of on) (lemmas_of on) ≡ true
  pub made : MadeFor (formula_of on) marks

-- the block that a candidate asks for, where it is passed over
abbrev pub asked_at : List Interface → ℕ → List Lit → Place → ℕ → List Asked
asked_at u n before p c =
    keep (is_passed p.pick c) (record { place = n; candidate = var_number u (Cand p.interface c); assumed = before ++ is_so u p.interface c ∷ [] })

-- what is picked at a place is a candidate
abbrev pub Within : List Interface → Place → Type 0
Within u p = IfSome p.pick (λ c. c < length (candidates_of u p.interface))

-- the blocks from one on are those for the first list, just where those from the other on are those for the second
abbrev pub Alike : Certified → List Asked → ℕ → List Asked → ℕ → Type 0
Alike on xs i ys j =
    (zs : List Asked) → (AreBlocks (formula_of on) (lemmas_of on) (xs ++ zs) (drop i (blocks_of on)) → AreBlocks (formula_of on) (lemmas_of on) (ys ++ zs) (drop j (blocks_of on))) × (AreBlocks (formula_of on) (lemmas_of on) (ys ++ zs) (drop j (blocks_of on)) → AreBlocks (formula_of on) (lemmas_of on) (xs ++ zs) (drop i (blocks_of on)))

-- the blocks from one on are those for a list, up to the other; or they aren't, whatever comes behind
abbrev pub Took : Certified → List Asked → ℕ → Bool → ℕ → Type 0
Took on xs i true j = Alike on xs i [] j
Took on xs i false j = (zs : List Asked) → AreBlocks (formula_of on) (lemmas_of on) (xs ++ zs) (drop i (blocks_of on)) → ⊥
