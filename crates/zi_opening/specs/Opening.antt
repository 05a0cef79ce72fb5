-- One document of selections: what is got of its file, and what that says.
use Rattle.std.specs.Prelude.{◌≡◌, ◌⊎◌, ℕ, ◌≤◌, ◌<◌, List, ◌∷◌, [], length, Some, None, IfSome, IsSomeAnd, Result, Ok, Err}
use Rattle.zi_text.specs.Count.{Rose}
use Rattle.zi_outside.specs.Views.{Feeding, holding}
use Rattle.zi_outside.specs.Outside.{Asks}
use Rattle.zi_sels.specs.declared.types.Selections.{Selections}
use Rattle.zi_sels.specs.Reading.{Says, HasFault}
use Rattle.zi_outcome.specs.declared.outcome.Outcome.{Outcome}
use Rattle.zi_outcome.specs.declared.outcome.Outcome.TheVariants.{FeedRead, NoFile, FeedTooLong, BadSels, Memory}

-- so many bytes a document of selections may have: 4 MiB
abbrev pub document_limit : ℕ
document_limit = 4194304

-- files were asked for, in their order, and no call failed
pub record AsksCalmly (files : List (List ℕ)) (before after : Feeding) : Type 0 where
  pub asked : Asks files before after
  pub calm : after.faults ≡ before.faults

-- a file was
abbrev pub AsksFor : List ℕ → Feeding → Feeding → Type 0
AsksFor file before after = AsksCalmly (file ∷ []) before after

-- the file has these bytes, no more than the limit
pub record Gets (file : List ℕ) (before after : Feeding) (bytes : List ℕ) : Type 0 where
  pub asked : AsksFor file before after
  pub small : length bytes ≤ document_limit
  pub held : IfSome (holding before) (λ holds. holds file ≡ Some bytes)

-- the file isn't got, or it is no document of selections, and this is why
abbrev pub GetsNot : List ℕ → Feeding → Outcome → Feeding → Type 0
GetsNot file before (FeedRead uri) after = (uri ≡ file) × Asks (file ∷ []) before after × Rose before.faults after.faults
GetsNot file before (NoFile name) after = (name ≡ file) × AsksFor file before after × IfSome (holding before) (λ holds. holds file ≡ None)
GetsNot file before (FeedTooLong uri limit) after =
    (uri ≡ file) × AsksFor file before after × (limit ≡ document_limit)
    × IfSome (holding before) (λ holds. IsSomeAnd (holds file) (λ bytes. document_limit < length bytes))
GetsNot file before (BadSels fault) after = (bytes : List ℕ) × Gets file before after bytes × HasFault bytes fault
GetsNot file before Memory after = (after ≡ before) ⊎ AsksFor file before after
GetsNot file before other after = ⊥

abbrev pub GetsSelections : List ℕ → Feeding → Result Selections Outcome → Feeding → Type 0
GetsSelections file before (Ok sels) after = (bytes : List ℕ) × Gets file before after bytes × Says bytes sels
GetsSelections file before (Err outcome) after = GetsNot file before outcome after

-- Parts of the work.

-- the bytes are no document of selections, or memory was refused
abbrev pub IsUnread : List ℕ → Outcome → Type 0
IsUnread bytes (BadSels fault) = HasFault bytes fault
IsUnread bytes Memory = Unit {0}
IsUnread bytes other = ⊥
