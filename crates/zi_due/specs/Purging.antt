-- What is due of `store purge`.
use Rattle.std.specs.Prelude.{◌≡◌, ◌⊎◌, ℕ, List, [], ◌∷◌, map, Result, Ok, Err}
use Rattle.zi_digest.specs.declared.DigestName.{DigestName}
use Rattle.zi_digest.specs.Name.{spelling}
use Rattle.zi_outside.specs.Views.{Holding}
use Rattle.zi_shelf.specs.Names.{Name}
use Rattle.zi_shelf.specs.Told.{Told}
use Rattle.zi_store.specs.Stored.{NamesStored}
use Rattle.zi_purge.specs.Machine.{purged}
use Rattle.zi_words.specs.Forms.{Word}
use Rattle.zi_sels.specs.declared.types.Selections.{Selections}
use Rattle.zi_sels.specs.declared.fault.SelsFault.{SelsFault}
use Rattle.zi_sels.specs.Reading.{Says, HasFault}
use Rattle.zi_outcome.specs.declared.outcome.Outcome.{Outcome}
use Rattle.zi_outcome.specs.declared.outcome.Outcome.TheVariants.{Done, BadSels, Crowded}
use Rattle.zi_opening.specs.Opening.{document_limit}
use Rattle.zi_storing.specs.StorePurge.{kept_by}
use Rattle.zi_due.specs.Files.{got}
use Rattle.zi_due.specs.Adding.{AreTaken, IsFree, InFirst}

-- the selections of one more file before those of the rest
abbrev pub with_sels : Selections → Result (List Selections) Outcome → Result (List Selections) Outcome
with_sels sels (Err why) = Err why
with_sels sels (Ok all) = Ok (sels ∷ all)

-- a file isn't got, or says no selections, or says some, and the rest is so
abbrev pub FileThen : Result (List ℕ) Outcome → (Result (List Selections) Outcome → Type 0) → Result (List Selections) Outcome → Type 0
FileThen (Err why) Rest result = result ≡ Err why
FileThen (Ok bytes) Rest result =
    ((fault : SelsFault) × HasFault bytes fault × (result ≡ Err (BadSels fault)))
    ⊎ ((sels : Selections) × (rest : Result (List Selections) Outcome) × Says bytes sels × Rest rest × (result ≡ with_sels sels rest))

-- the selections of the files, in their order, or why those of the first that gives none aren't there
abbrev pub ReadsTo : Holding → List Word → Result (List Selections) Outcome → Type 0
ReadsTo holds [] result = result ≡ Ok []
ReadsTo holds (file ∷ files) result = FileThen (got document_limit file (holds file)) (ReadsTo holds files) result

-- by the names that go: there are none; or each temporary name is taken, or one is free
abbrev pub GoesTo : List Name → Told → Outcome → Type 0
GoesTo [] s outcome = outcome ≡ Done
GoesTo (n ∷ ns) s (Crowded tried) = (tried ≡ 10000) × AreTaken s
GoesTo (n ∷ ns) s Done = IsFree s
GoesTo (n ∷ ns) s other = ⊥

-- the digest names in the store go, but for those that are kept
abbrev pub EndsKept : List Name → Told → Outcome → Type 0
EndsKept kept s outcome = (names : List DigestName) × NamesStored (Ok names) s.shelf × GoesTo (purged kept (map spelling names)) s outcome

abbrev pub OfAll : Result (List Selections) Outcome → Told → Outcome → Type 0
OfAll (Err why) s outcome = outcome ≡ why
OfAll (Ok all) s outcome = EndsKept (kept_by all) s outcome

abbrev pub EndsPurge : List Word → Holding → List Told → Outcome → Type 0
EndsPurge files holds stores outcome = (result : Result (List Selections) Outcome) × ReadsTo holds files result × InFirst (λ s o. OfAll result s o) stores outcome
