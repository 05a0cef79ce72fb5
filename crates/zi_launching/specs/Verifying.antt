-- Whether the trees that are to be exposed are what their names say, each in the store where it stands, whose number a function gives. What is
-- said of them is what the store holds at the end of the call, which only reads the stores.
use Rattle.std.specs.Prelude.{◌≡◌, ◌⊎◌, ℕ, List, take, slice_get, Some, All, Result, Ok, Err}
use Rattle.zi_digest.specs.declared.DigestName.{DigestName}
use Rattle.zi_digest.specs.Name.{spelling}
use Rattle.zi_tree.specs.Dir.{Dir}
use Rattle.zi_shelf.specs.Shelved.{Shelved}
use Rattle.zi_shelf.specs.Shelving.{Shelving}
use Rattle.zi_store.specs.Stores.{Each, IsCalm, Fails, SomeFails}
use Rattle.zi_store.specs.declared.verdicts.Verdict.{Verdict}
use Rattle.zi_store.specs.declared.verdicts.Verdict.TheVariants as verdict
use Rattle.zi_store.specs.Verdicts.{Verifies}
use Rattle.zi_store.specs.Kept.{HoldsSound}
use Rattle.zi_store.specs.KeptNames.{IsKept}
use Rattle.zi_store.specs.declared.checked.Checked.{Checked}
use Rattle.zi_outcome.specs.declared.outcome.Outcome.{Outcome}
use Rattle.zi_outcome.specs.declared.outcome.Outcome.TheVariants.{MissingTree, DamagedTree, BadName, TreeTooLarge, StoreFault, Memory}
use Rattle.zi_world.specs.Shelves.{HeldThen}
use Rattle.zi_world.specs.Places.{InStore}

-- the tree under a name is there, and its digest is the name
abbrev pub IsSound : Shelved Dir → DigestName → Type 0
IsSound s name = Verifies name (Ok verdict.Sound) s

-- so it is at the end in the store where it stands
abbrev pub SoundAt : (DigestName → ℕ) → List Shelving → List Shelving → DigestName → Type 0
SoundAt number before after name = InStore (number name) before after (λ b a. HeldThen b a (λ s. IsSound s name))

abbrev pub AreSound : (DigestName → ℕ) → List Shelving → List Shelving → List DigestName → Type 0
AreSound number before after names = All (SoundAt number before after) names

-- what is said of a tree condemns it, and the outcome tells that
abbrev pub Condemns : DigestName → Verdict → Outcome → Type 0
Condemns d verdict.Sound outcome = ⊥
Condemns d verdict.Missing outcome = outcome ≡ MissingTree (spelling d)
Condemns d (verdict.Damaged found) outcome = outcome ≡ DamagedTree (spelling d) (spelling found)
Condemns d (verdict.BadName path) outcome = outcome ≡ BadName path
Condemns d (verdict.TooLarge what limit) outcome = outcome ≡ TreeTooLarge what limit

-- A tree isn't found sound: what is said of it condemns it; or the shelf failed at it; or memory was refused.
abbrev pub FailsToVerify : DigestName → Shelving → Outcome → Shelving → Type 0
FailsToVerify d before outcome after =
    ((v : Verdict) × Condemns d v outcome × IsCalm before after × HeldThen before after (λ s. Verifies d (Ok v) s))
    ⊎ (((outcome ≡ StoreFault (spelling d)) × Fails before after) ⊎ ((outcome ≡ Memory) × IsCalm before after))

-- Those before one are sound, and that one isn't found so, in the store where it stands; no call of a store failed but one of that store, at that tree.
pub record StopsVerifying (number : DigestName → ℕ) (names : List DigestName) (before : List Shelving) (outcome : Outcome) (after : List Shelving) : Type 0 where
  pub place : ℕ
  pub name : DigestName
  pub here : slice_get names place ≡ Some name
  pub sound : AreSound number before after (take place names)
  pub fails : InStore (number name) before after (λ b a. FailsToVerify name b outcome a)
  pub calm : Each IsCalm before after ⊎ ((outcome ≡ StoreFault (spelling name)) × SomeFails before after)

abbrev pub VerifiesAll : (DigestName → ℕ) → List DigestName → List Shelving → Result (Unit {0}) Outcome → List Shelving → Type 0
VerifiesAll number names before (Ok x) after = Each IsCalm before after × AreSound number before after names
VerifiesAll number names before (Err outcome) after = StopsVerifying number names before outcome after

-- Parts of the work.

-- The same of one tree where its name may be kept: what is said of it holds where a kept name has such a tree.
abbrev pub WhereKept : Type 0 → DigestName → (Shelved Dir → Type 0) → Shelved Dir → Type 0
WhereKept kept d P s = (kept → HoldsSound d s) → P s

abbrev pub FailsKept : Type 0 → DigestName → Shelving → Outcome → Shelving → Type 0
FailsKept kept d before outcome after =
    ((v : Verdict) × Condemns d v outcome × IsCalm before after × HeldThen before after (WhereKept kept d (λ s. Verifies d (Ok v) s)))
    ⊎ (((outcome ≡ StoreFault (spelling d)) × Fails before after) ⊎ ((outcome ≡ Memory) × IsCalm before after))

abbrev pub VerifiesKept : Type 0 → DigestName → Shelving → Result (Unit {0}) Outcome → Shelving → Type 0
VerifiesKept kept d before (Ok x) after = IsCalm before after × HeldThen before after (WhereKept kept d (λ s. IsSound s d))
VerifiesKept kept d before (Err outcome) after = FailsKept kept d before outcome after

-- no call of a store failed, or one did at this tree
abbrev pub IsCalmBut : DigestName → Result (Unit {0}) Outcome → List Shelving → List Shelving → Type 0
IsCalmBut d result before after = Each IsCalm before after ⊎ ((result ≡ Err (StoreFault (spelling d))) × SomeFails before after)

-- each name that is kept has such a tree in the store where it stands
abbrev pub KeepSound : (DigestName → ℕ) → Checked → List Shelving → List Shelving → Type 0
KeepSound number c before after = (n : DigestName) → IsKept c n → InStore (number n) before after (λ b a. HeldThen b a (λ s. HoldsSound n s))

-- the outcome of a tree with another digest
abbrev pub IsDamaged : List ℕ → DigestName → Outcome → Type 0
IsDamaged name found outcome = (outcome ≡ DamagedTree name (spelling found)) ⊎ (outcome ≡ Memory)
