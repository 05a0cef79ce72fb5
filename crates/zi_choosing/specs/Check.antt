-- `check`: whether selections are those of the best choice, by a certificate.
use Rattle.std.specs.Prelude.{◌≡◌, ℕ, ◌⊎◌, List}
use Rattle.zi_outside.specs.Views.{Feeding}
use Rattle.zi_outside.specs.Outside.{Writes, WritesFront}
use Rattle.zi_words.specs.declared.request.Ask.{Ask}
use Rattle.zi_universe.specs.declared.types.Interface.{Interface}
use Rattle.zi_universe.specs.declared.types.Requirement.{Requirement}
use Rattle.zi_universe.specs.declared.fault.LoadFault.TheVariants as load
use Rattle.zi_choice.specs.Valid.{IsValid}
use Rattle.zi_choice.specs.Best.{IsBest}
use Rattle.zi_proof.specs.declared.proof.Certificate.{Certificate}
use Rattle.zi_certificate.specs.Certificates.{Excludes}
use Rattle.zi_sels.specs.declared.types.Selections.{Selections}
use Rattle.zi_sels.specs.declared.fault.SelsFault.{SelsFault}
use Rattle.zi_sels.specs.Reading.{Says, HasFault}
use Rattle.zi_outcome.specs.declared.outcome.Outcome.{Outcome}
use Rattle.zi_outcome.specs.declared.outcome.Outcome.TheVariants.{Done, FeedRead, FeedTooLong, TooLarge, NoFile, BadSels, BadProof, Rejected, SinkFault, Memory}
use Rattle.zi_outcome.specs.Writing.{StopsShort}
use Rattle.zi_world.specs.World.{World}
use Rattle.zi_world.specs.Files.{AsksFor, GetsWithin, IsAbsent, IsLonger, IsUnread}
use Rattle.zi_choosing.specs.declared.asked.Asked.{Asked}
use Rattle.zi_choosing.specs.declared.known.Known.{Known}
use Rattle.zi_choosing.specs.Wanted.{requirement_of}
use Rattle.zi_choosing.specs.Loaded.{Lent, Refused, AreFew, AreMany, DoesOver, IsUnloaded}
use Rattle.zi_choosing.specs.Refute.{proof_limit, yes_line, Loads, Reads, IsBad, Then}
use Rattle.zi_choosing.specs.Named.{AreCandidates, choice_of, AreAskedFor, AreOwn}

-- so many bytes selections may have: 4 MiB
abbrev pub sels_limit : ℕ
sels_limit = 4194304

-- The universe that the words ask for is loaded, the selections of this name are read, and then the feeds are as they are seen here.
pub record ReadsSels (known : Known) (ask : Ask) (name : List ℕ) (before : Feeding) : Type 0 where
  pub there : Loads known ask before
  pub sels : Selections
  pub bytes : List ℕ
  pub feeds : Feeding
  pub got : GetsWithin sels_limit name there.feeds feeds bytes
  pub says : Says bytes sels

-- what is read in the file is no document of selections, and this is its fault
pub record AreUnlike (name : List ℕ) (before after : Feeding) (fault : SelsFault) : Type 0 where
  pub bytes : List ℕ
  pub got : GetsWithin sels_limit name before after bytes
  pub bad : HasFault bytes fault

-- Each selection is a candidate, root and command are those asked for, the certificate shows their choice the best, and they are, with
-- their items in byte order of the interface, the selections of that choice.
pub record AreRight (universe : List Interface) (req : Requirement) (sels : Selections) (c : Certificate) : Type 0 where
  pub candidates : AreCandidates universe sels.items
  pub asked : AreAskedFor req sels
  pub few : AreFew universe req
  pub valid : IsValid universe req (choice_of universe sels.items)
  pub excludes : Excludes universe req (choice_of universe sels.items) c
  pub best : IsBest universe req (choice_of universe sels.items)
  pub own : AreOwn universe req (choice_of universe sels.items) sels

-- each selection is a candidate, and root and command are those asked for
abbrev pub AreFound : List Interface → Requirement → Selections → Type 0
AreFound universe req sels = AreCandidates universe sels.items × AreAskedFor req sels

-- the choice is valid, and the certificate excludes all that stands before it
abbrev pub IsCertified : List Interface → Requirement → Selections → Certificate → Type 0
IsCertified universe req sels c =
    IsValid universe req (choice_of universe sels.items) × Excludes universe req (choice_of universe sels.items) c

-- The first test that fails: a selection is no candidate; root or command are others; the certificate doesn't show the choice the best; or
-- what is said of it is another thing than the choice selects.
abbrev pub AreWrong : List Interface → Requirement → Selections → Certificate → Type 0
AreWrong universe req sels c =
    (¬ AreCandidates universe sels.items)
    ⊎ ((AreCandidates universe sels.items × ¬ AreAskedFor req sels)
    ⊎ ((AreFound universe req sels × AreFew universe req × ¬ IsCertified universe req sels c)
    ⊎ (AreFound universe req sels × AreFew universe req × IsCertified universe req sels c × ¬ AreOwn universe req (choice_of universe sels.items) sels)))

-- the constraints on a choice have more literals than this
abbrev pub AreTooLarge : List Interface → Requirement → Selections → ℕ → Type 0
AreTooLarge universe req sels limit = AreFound universe req sels × AreMany universe req limit

-- the certificate is read behind the selections, and this is so of both
pub record AreJudged (known : Known) (ask : Ask) (name proof : List ℕ) (before after : Feeding) (Are : List Interface → Requirement → Selections → Certificate → Type 0) : Type 0 where
  pub read : ReadsSels known ask name before
  pub certificate : Certificate
  pub reads : Reads proof read.feeds after certificate
  pub are : Are read.there.universe (requirement_of ask) read.sels certificate

-- behind the selections this is so of the file
abbrev pub Next : Known → Ask → List ℕ → Feeding → (Feeding → Type 0) → Type 0
Next known ask name before Is = (read : ReadsSels known ask name before) × Is read.feeds

-- one of the two files isn't to be had, and nothing is written: the selections behind the loading, or the certificate behind these
abbrev pub AtFile : Known → Ask → List ℕ → List ℕ → Lent → Lent → List ℕ → (ℕ → List ℕ → Feeding → Feeding → Type 0) → Type 0
AtFile known ask sels proof before after name Is =
    (((name ≡ sels) × Then known ask before.feeds (λ feeds. Is sels_limit sels feeds after.feeds))
    ⊎ ((name ≡ proof) × Next known ask sels before.feeds (λ feeds. Is proof_limit proof feeds after.feeds))) × (after.out ≡ before.out)

-- over what is known
abbrev pub ChecksOver : Ask → List ℕ → List ℕ → Known → Lent → Lent → Outcome → Type 0
-- all tests hold, and that was written
ChecksOver ask sels proof known before after Done =
    AreJudged known ask sels proof before.feeds after.feeds AreRight × Writes before.out yes_line after.out
ChecksOver ask sels proof known before after (FeedRead uri) =
    Refused known ask before after (load.FeedRead uri) ⊎ AtFile known ask sels proof before after uri (λ most name old new. IsUnread name old new)
ChecksOver ask sels proof known before after (FeedTooLong uri limit) =
    Refused known ask before after (load.FeedTooLong uri limit)
    ⊎ AtFile known ask sels proof before after uri (λ most name old new. IsLonger most name old new limit)
ChecksOver ask sels proof known before after (NoFile absent) = AtFile known ask sels proof before after absent (λ most name old new. IsAbsent name old new)
ChecksOver ask sels proof known before after (BadSels fault) =
    Then known ask before.feeds (λ feeds. AreUnlike sels feeds after.feeds fault) × (after.out ≡ before.out)
ChecksOver ask sels proof known before after (BadProof line) =
    Next known ask sels before.feeds (λ feeds. IsBad proof feeds after.feeds line) × (after.out ≡ before.out)
ChecksOver ask sels proof known before after (TooLarge limit) =
    AreJudged known ask sels proof before.feeds after.feeds (λ universe req s c. AreTooLarge universe req s limit) × (after.out ≡ before.out)
ChecksOver ask sels proof known before after Rejected =
    AreJudged known ask sels proof before.feeds after.feeds AreWrong × (after.out ≡ before.out)
-- the output failed in the line
ChecksOver ask sels proof known before after SinkFault =
    AreJudged known ask sels proof before.feeds after.feeds AreRight × WritesFront before.out yes_line after.out
-- memory was refused before the loading, in it, behind it, behind the selections, or in the line
ChecksOver ask sels proof known before after Memory =
    (after ≡ before)
    ⊎ (Refused known ask before after load.Memory
    ⊎ ((Then known ask before.feeds (λ feeds. (after.feeds ≡ feeds) ⊎ AsksFor sels feeds after.feeds) × (after.out ≡ before.out))
    ⊎ ((Next known ask sels before.feeds (λ feeds. AsksFor proof feeds after.feeds) × (after.out ≡ before.out))
    ⊎ (AreJudged known ask sels proof before.feeds after.feeds AreRight × StopsShort before.out yes_line after.out))))
-- the loading was refused
ChecksOver ask sels proof known before after other = IsUnloaded (Refused known ask before after) other

-- The universe that the words ask for is loaded, and the selections of the first name are checked by the certificate of the second.
abbrev pub ChecksBest : Asked → List ℕ → List ℕ → World → World → Outcome → Type 0
ChecksBest asked sels proof before after outcome = DoesOver asked.table (ChecksOver asked.ask sels proof) before after outcome
