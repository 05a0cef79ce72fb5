-- Several documents of selections, in the order of their files.
use Rattle.std.specs.Prelude.{◌≡◌, ◌+◌, ℕ, ◌≤◌, ◌<◌, List, ◌∷◌, [], length, take, slice_get, Option, Some, None, IfSome, IsSomeAnd, Result, Ok, Err}
use Rattle.std.specs.List.{flat_map}
use Rattle.zi_text.specs.Count.{Rose}
use Rattle.zi_digest.specs.declared.DigestName.{DigestName}
use Rattle.zi_outside.specs.Views.{Holding, Feeding, holding}
use Rattle.zi_outside.specs.Outside.{Asks}
use Rattle.zi_sels.specs.declared.fault.SelsFault.{SelsFault}
use Rattle.zi_sels.specs.declared.types.Selections.{Selections}
use Rattle.zi_sels.specs.declared.types.Selection.{Selection}
use Rattle.zi_sels.specs.Reading.{Says, HasFault}
use Rattle.zi_outcome.specs.declared.outcome.Outcome.{Outcome}
use Rattle.zi_outcome.specs.declared.outcome.Outcome.TheVariants.{FeedRead, NoFile, FeedTooLong, BadSels, Memory}
use Rattle.zi_opening.specs.Opening.{document_limit, AsksCalmly}

-- the digests of each selection
abbrev pub digests_in : Selections → List DigestName
digests_in sels = flat_map (λ (x : Selection). x.digests) sels.items

abbrev pub digests_of : List Selections → List DigestName
digests_of all = flat_map digests_in all

-- The bytes held under a file are a document of no more bytes than its limit, and say these selections.
pub record IsRead (told : Option Holding) (file : List ℕ) (sels : Selections) : Type 0 where
  pub bytes : List ℕ
  pub small : length bytes ≤ document_limit
  pub held : IfSome told (λ holds. holds file ≡ Some bytes)
  pub says : Says bytes sels

-- those of each file, in their order
abbrev pub AreRead : Option Holding → List (List ℕ) → List Selections → Type 0
AreRead told [] [] = Unit {0}
AreRead told (f ∷ fs) (s ∷ ss) = IsRead told f s × AreRead told fs ss
AreRead told files all = ⊥

-- all files were got, in their order, and these are the selections that they say
pub record ReadsAll (files : List (List ℕ)) (before : Feeding) (all : List Selections) (after : Feeding) : Type 0 where
  pub are : AreRead (holding before) files all
  pub asked : AsksCalmly files before after

-- The file is one of these, all before it are right, and it was the last that was asked for.
pub record Reaches (files : List (List ℕ)) (before after : Feeding) (file : List ℕ) : Type 0 where
  pub place : ℕ
  pub here : slice_get files place ≡ Some file
  pub all : List Selections
  pub are : AreRead (holding before) (take place files) all
  pub asked : Asks (take (place + 1) files) before after

-- and no call failed
pub record ReachesCalmly (files : List (List ℕ)) (before after : Feeding) (file : List ℕ) : Type 0 where
  pub reaches : Reaches files before after file
  pub calm : after.faults ≡ before.faults

-- the bytes held under a file, no more than its limit, have this fault
pub record IsBad (told : Option Holding) (file : List ℕ) (fault : SelsFault) : Type 0 where
  pub bytes : List ℕ
  pub small : length bytes ≤ document_limit
  pub held : IfSome told (λ holds. holds file ≡ Some bytes)
  pub has : HasFault bytes fault

-- The files are read up to the first that isn't got or isn't right, and this is why, or memory was refused.
abbrev pub ReadsNot : List (List ℕ) → Feeding → Outcome → Feeding → Type 0
ReadsNot files before (FeedRead uri) after = Reaches files before after uri × Rose before.faults after.faults
ReadsNot files before (NoFile name) after = ReachesCalmly files before after name × IfSome (holding before) (λ holds. holds name ≡ None)
ReadsNot files before (FeedTooLong uri limit) after =
    ReachesCalmly files before after uri × (limit ≡ document_limit)
    × IfSome (holding before) (λ holds. IsSomeAnd (holds uri) (λ bytes. document_limit < length bytes))
ReadsNot files before (BadSels fault) after = (file : List ℕ) × ReachesCalmly files before after file × IsBad (holding before) file fault
ReadsNot files before Memory after = (n : ℕ) × AsksCalmly (take n files) before after
ReadsNot files before other after = ⊥

abbrev pub ReadsFiles : List (List ℕ) → Feeding → Result (List DigestName) Outcome → Feeding → Type 0
ReadsFiles files before (Ok digests) after = (all : List Selections) × ReadsAll files before all after × (digests ≡ digests_of all)
ReadsFiles files before (Err outcome) after = ReadsNot files before outcome after
