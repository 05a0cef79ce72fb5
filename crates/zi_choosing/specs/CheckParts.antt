-- Parts of the work of `check`.
use Rattle.std.specs.Prelude.{◌≡◌, ℕ, Bool, true, false, ◌⊎◌, List}
use Rattle.zi_outside.specs.Views.{Feeding, Sinking}
use Rattle.zi_universe.specs.declared.types.Interface.{Interface}
use Rattle.zi_universe.specs.declared.types.Requirement.{Requirement}
use Rattle.zi_build.specs.declared.building.BuildFault.{BuildFault}
use Rattle.zi_build.specs.declared.building.BuildFault.TheVariants as build
use Rattle.zi_proof.specs.declared.proof.Certificate.{Certificate}
use Rattle.zi_proof.specs.ProofText.{IsProofText}
use Rattle.zi_sels.specs.declared.types.Selections.{Selections}
use Rattle.zi_sels.specs.Reading.{Says, HasFault}
use Rattle.zi_outcome.specs.declared.outcome.Outcome.{Outcome}
use Rattle.zi_outcome.specs.declared.outcome.Outcome.TheVariants.{TooLarge, BadSels, Rejected, Memory}
use Rattle.zi_outcome.specs.Writing.{Prints}
use Rattle.zi_world.specs.Files.{GetsWithin, IsMissing}
use Rattle.zi_choosing.specs.Loaded.{Lent}
use Rattle.zi_choosing.specs.Refute.{proof_limit, yes_line}
use Rattle.zi_choosing.specs.RefuteParts.{IsUnreadable}
use Rattle.zi_choosing.specs.Check.{sels_limit, AreRight, AreWrong, AreTooLarge}

-- the answer of the tests
abbrev pub Judges : List Interface → Requirement → Selections → Certificate → Bool → Type 0
Judges u req sels c true = AreRight u req sels c
Judges u req sels c false = AreWrong u req sels c

-- there is none
abbrev pub JudgesNot : List Interface → Requirement → Selections → BuildFault → Type 0
JudgesNot u req sels (build.TooLarge limit) = AreTooLarge u req sels limit
JudgesNot u req sels build.Memory = Unit {0}

-- nothing is written, and this is why
abbrev pub AreNot : List Interface → Requirement → Selections → Certificate → Outcome → Type 0
AreNot u req sels c Rejected = AreWrong u req sels c
AreNot u req sels c (TooLarge limit) = AreTooLarge u req sels limit
AreNot u req sels c Memory = Unit {0}
AreNot u req sels c other = ⊥

-- what the tests say
abbrev pub SaysOf : List Interface → Requirement → Selections → Certificate → Sinking → Sinking → Outcome → Type 0
SaysOf u req sels c old new outcome =
    (AreRight u req sels c × Prints yes_line old new outcome) ⊎ (AreNot u req sels c outcome × (new ≡ old))

-- what the check by bytes says
abbrev pub SaysBy : List Interface → Requirement → Selections → List ℕ → Sinking → Sinking → Outcome → Type 0
SaysBy u req sels bytes old new outcome =
    ((c : Certificate) × IsProofText bytes c × SaysOf u req sels c old new outcome) ⊎ (IsUnreadable bytes outcome × (new ≡ old))

-- what the check by a file says
abbrev pub ChecksBy : List Interface → Requirement → Selections → List ℕ → Lent → Lent → Outcome → Type 0
ChecksBy u req sels proof before after outcome =
    ((bytes : List ℕ) × GetsWithin proof_limit proof before.feeds after.feeds bytes × SaysBy u req sels bytes before.out after.out outcome)
    ⊎ (IsMissing proof_limit proof before.feeds after.feeds outcome × (after.out ≡ before.out))

-- the bytes are no document of selections, or memory was refused
abbrev pub AreUnsaid : List ℕ → Outcome → Type 0
AreUnsaid bytes (BadSels fault) = HasFault bytes fault
AreUnsaid bytes Memory = Unit {0}
AreUnsaid bytes other = ⊥

-- what the check of bytes says
abbrev pub ChecksText : List Interface → Requirement → List ℕ → List ℕ → Lent → Lent → Outcome → Type 0
ChecksText u req bytes proof before after outcome =
    ((sels : Selections) × Says bytes sels × ChecksBy u req sels proof before after outcome) ⊎ (AreUnsaid bytes outcome × (after ≡ before))

-- what the check of a file says
abbrev pub ChecksFile : List Interface → Requirement → List ℕ → List ℕ → Lent → Lent → Outcome → Type 0
ChecksFile u req sels proof before after outcome =
    ((mid : Feeding) × (bytes : List ℕ) × GetsWithin sels_limit sels before.feeds mid bytes
    × ChecksText u req bytes proof (record { feeds = mid; out = before.out }) after outcome)
    ⊎ (IsMissing sels_limit sels before.feeds after.feeds outcome × (after.out ≡ before.out))
