-- Which facts are told where no choice is valid.
use Rattle.std.specs.Prelude.{◌≡◌, ℕ, List, map}
use Rattle.zi_proof.specs.declared.proof.Proof.{Proof}
use Rattle.zi_universe.specs.declared.types.Requirement.{Requirement}
use Rattle.zi_universe.specs.declared.types.Interface.{Interface}
use Rattle.zi_facts.specs.Facts.{Told, told, told_at}
use Rattle.zi_facts.specs.Lines.{facts_text}
use Rattle.zi_conflict.specs.Core.{IsCore, AreUsed}

-- These are the facts of constraints that leave no choice, in their order, each of which a proof uses.
pub record IsConflict (u : List Interface) (req : Requirement) (p : Proof) (facts : List Told) : Type 0 where
  pub numbers : List ℕ
  pub core : IsCore u req numbers
  pub used : AreUsed p numbers
  pub are : facts ≡ map (told_at (told u req)) numbers

-- the text of such facts
pub record IsConflictText (u : List Interface) (req : Requirement) (p : Proof) (text : List ℕ) : Type 0 where
  pub facts : List Told
  pub conflict : IsConflict u req p facts
  pub is : text ≡ facts_text u req facts
