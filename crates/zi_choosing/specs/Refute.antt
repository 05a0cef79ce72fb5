-- `refute`: whether a proof shows that no choice is valid.
use Rattle.std.specs.Prelude.{◌≡◌, ◌≢◌, ℕ, ◌⊎◌, List, [], codes}
use Rattle.zi_outside.specs.Views.{Feeding}
use Rattle.zi_outside.specs.Outside.{Writes, WritesFront}
use Rattle.zi_words.specs.declared.request.Ask.{Ask}
use Rattle.zi_universe.specs.declared.types.Interface.{Interface}
use Rattle.zi_universe.specs.declared.types.Requirement.{Requirement}
use Rattle.zi_universe.specs.declared.fault.LoadFault.TheVariants as load
use Rattle.zi_choice.specs.Valid.{NoneIsValid}
use Rattle.zi_proof.specs.declared.proof.Certificate.{Certificate}
use Rattle.zi_proof.specs.declared.fault.ProofFault.TheVariants.{Bad}
use Rattle.zi_proof.specs.ProofText.{IsProofText, FaultMeans}
use Rattle.zi_certificate.specs.Certificates.{Refutes}
use Rattle.zi_outcome.specs.declared.outcome.Outcome.{Outcome}
use Rattle.zi_outcome.specs.declared.outcome.Outcome.TheVariants.{Done, FeedRead, FeedTooLong, TooLarge, NoFile, BadProof, Rejected, SinkFault, Memory}
use Rattle.zi_outcome.specs.Writing.{StopsShort}
use Rattle.zi_world.specs.World.{World}
use Rattle.zi_world.specs.Files.{AsksFor, GetsWithin, IsAbsent, IsLonger, IsUnread}
use Rattle.zi_choosing.specs.declared.asked.Asked.{Asked}
use Rattle.zi_choosing.specs.declared.known.Known.{Known}
use Rattle.zi_choosing.specs.Wanted.{requirement_of}
use Rattle.zi_choosing.specs.Loaded.{Lent, IsLoaded, Refused, AreFew, AreMany, DoesOver, IsUnloaded}

-- so many bytes a proof may have: 64 MiB
abbrev pub proof_limit : ℕ
proof_limit = 67108864

-- what is written where the proof refutes
abbrev pub yes_line : List ℕ
yes_line = codes "yes\n"

-- The universe that the words ask for is loaded, and then the feeds are as they are seen here.
pub record Loads (known : Known) (ask : Ask) (before : Feeding) : Type 0 where
  pub universe : List Interface
  pub feeds : Feeding
  pub loaded : IsLoaded known ask before feeds universe

-- what is read in the file is this
pub record Reads (name : List ℕ) (before after : Feeding) (c : Certificate) : Type 0 where
  pub bytes : List ℕ
  pub got : GetsWithin proof_limit name before after bytes
  pub text : IsProofText bytes c

-- what is read in the file is no proof: it stops being one at this line
pub record IsBad (name : List ℕ) (before after : Feeding) (line : ℕ) : Type 0 where
  pub bytes : List ℕ
  pub got : GetsWithin proof_limit name before after bytes
  pub bad : FaultMeans bytes (Bad line)

-- What is read has no block, and its lemmas refute: so no choice is valid.
pub record IsRight (universe : List Interface) (req : Requirement) (c : Certificate) : Type 0 where
  pub plain : c.blocks ≡ []
  pub few : AreFew universe req
  pub refutes : Refutes universe req c.proof
  pub none : NoneIsValid universe req

-- it has a block, or its lemmas don't refute
abbrev pub IsWrong : List Interface → Requirement → Certificate → Type 0
IsWrong universe req c = (c.blocks ≢ []) ⊎ ((c.blocks ≡ []) × AreFew universe req × ¬ Refutes universe req c.proof)

-- the constraints on a choice have more literals than this
abbrev pub IsTooLarge : List Interface → Requirement → Certificate → ℕ → Type 0
IsTooLarge universe req c limit = (c.blocks ≡ []) × AreMany universe req limit

-- the proof is read behind the loading, and this is so of it
pub record IsChecked (known : Known) (ask : Ask) (name : List ℕ) (before after : Feeding) (Is : List Interface → Requirement → Certificate → Type 0) : Type 0 where
  pub there : Loads known ask before
  pub certificate : Certificate
  pub reads : Reads name there.feeds after certificate
  pub is : Is there.universe (requirement_of ask) certificate

-- behind the loading this is so of the file
abbrev pub Then : Known → Ask → Feeding → (Feeding → Type 0) → Type 0
Then known ask before Is = (there : Loads known ask before) × Is there.feeds

-- over what is known
abbrev pub RefutesOver : Ask → List ℕ → Known → Lent → Lent → Outcome → Type 0
-- the proof refutes, and that was written
RefutesOver ask name known before after Done =
    IsChecked known ask name before.feeds after.feeds IsRight × Writes before.out yes_line after.out
RefutesOver ask name known before after (FeedRead uri) =
    Refused known ask before after (load.FeedRead uri)
    ⊎ ((uri ≡ name) × Then known ask before.feeds (λ feeds. IsUnread name feeds after.feeds) × (after.out ≡ before.out))
RefutesOver ask name known before after (FeedTooLong uri limit) =
    Refused known ask before after (load.FeedTooLong uri limit)
    ⊎ ((uri ≡ name) × Then known ask before.feeds (λ feeds. IsLonger proof_limit name feeds after.feeds limit) × (after.out ≡ before.out))
RefutesOver ask name known before after (NoFile absent) =
    (absent ≡ name) × Then known ask before.feeds (λ feeds. IsAbsent name feeds after.feeds) × (after.out ≡ before.out)
RefutesOver ask name known before after (BadProof line) =
    Then known ask before.feeds (λ feeds. IsBad name feeds after.feeds line) × (after.out ≡ before.out)
RefutesOver ask name known before after Rejected = IsChecked known ask name before.feeds after.feeds IsWrong × (after.out ≡ before.out)
RefutesOver ask name known before after (TooLarge limit) =
    IsChecked known ask name before.feeds after.feeds (λ universe req c. IsTooLarge universe req c limit) × (after.out ≡ before.out)
-- the output failed in the line
RefutesOver ask name known before after SinkFault =
    IsChecked known ask name before.feeds after.feeds IsRight × WritesFront before.out yes_line after.out
-- memory was refused before the loading, in it, behind it, or in the line
RefutesOver ask name known before after Memory =
    (after ≡ before)
    ⊎ (Refused known ask before after load.Memory
    ⊎ ((Then known ask before.feeds (λ feeds. (after.feeds ≡ feeds) ⊎ AsksFor name feeds after.feeds) × (after.out ≡ before.out))
    ⊎ (IsChecked known ask name before.feeds after.feeds IsRight × StopsShort before.out yes_line after.out)))
-- the loading was refused
RefutesOver ask name known before after other = IsUnloaded (Refused known ask before after) other

-- The universe that the words ask for is loaded, and the proof of this name is checked.
abbrev pub ChecksNone : Asked → List ℕ → World → World → Outcome → Type 0
ChecksNone asked name before after outcome = DoesOver asked.table (RefutesOver asked.ask name) before after outcome
