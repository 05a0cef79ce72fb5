-- `select`, `why` and `conflict`: the best choice from what the words ask for, or why there is none.
use Rattle.std.specs.Prelude.{◌≡◌, ℕ, ◌⊎◌, Bool, true, false, List, [], Option, Some, None, IsSomeAnd}
use Rattle.zi_outside.specs.Views.{Feeding, Sinking}
use Rattle.zi_outside.specs.Outside.{Writes, WritesFront}
use Rattle.zi_words.specs.declared.request.Ask.{Ask}
use Rattle.zi_universe.specs.declared.types.Interface.{Interface}
use Rattle.zi_universe.specs.declared.types.Requirement.{Requirement}
use Rattle.zi_universe.specs.declared.fault.LoadFault.TheVariants as load
use Rattle.zi_choice.specs.Choice.{Choice}
use Rattle.zi_choice.specs.Valid.{NoneIsValid}
use Rattle.zi_choice.specs.Best.{IsBest}
use Rattle.zi_proof.specs.declared.proof.Proof.{Proof}
use Rattle.zi_proof.specs.declared.proof.Certificate.{Certificate}
use Rattle.zi_proof.specs.ProofText.{certificate_text}
use Rattle.zi_certificate.specs.Certificates.{Excludes, Refutes}
use Rattle.zi_solve.specs.Answers.{IsSpent}
use Rattle.zi_sels.specs.declared.types.Selections.{Selections}
use Rattle.zi_sels.specs.Chosen.{AreSelected}
use Rattle.zi_sels.specs.Written.{document}
use Rattle.zi_report.specs.Reported.{IsReported}
use Rattle.zi_conflict.specs.Conflict.{IsConflictText}
use Rattle.zi_outcome.specs.declared.outcome.Outcome.{Outcome}
use Rattle.zi_outcome.specs.declared.outcome.Outcome.TheVariants.{Done, TooLarge, NoSolution, Spent, SinkFault, Memory}
use Rattle.zi_outcome.specs.Writing.{StopsShort}
use Rattle.zi_world.specs.World.{World}
use Rattle.zi_choosing.specs.declared.asked.Asked.{Asked}
use Rattle.zi_choosing.specs.declared.known.Known.{Known}
use Rattle.zi_choosing.specs.declared.shows.Shows.{Shows}
use Rattle.zi_choosing.specs.declared.shows.Shows.TheVariants as form
use Rattle.zi_choosing.specs.Wanted.{requirement_of}
use Rattle.zi_choosing.specs.Loaded.{Lent, IsLoaded, Refused, AreFew, AreMany, DoesOver, IsUnloaded}

-- the universe that the words ask for is there, and the constraints on a choice from it are few enough
pub record IsThere (known : Known) (ask : Ask) (before after : Feeding) : Type 0 where
  pub universe : List Interface
  pub loaded : IsLoaded known ask before after universe
  pub few : AreFew universe (requirement_of ask)

-- What is written of a choice: the document of what it selects; a certificate, by which every other valid choice is worse; for such
-- a certificate, why each candidate that it passes over isn't chosen; or nothing.
abbrev pub IsShown : Shows → List Interface → Requirement → Choice → List ℕ → Type 0
IsShown form.Document universe req choice text = (sels : Selections) × AreSelected universe req choice sels × (text ≡ document sels)
IsShown form.Certificate universe req choice text = (c : Certificate) × Excludes universe req choice c × (text ≡ certificate_text c)
IsShown form.Reasons universe req choice text = (c : Certificate) × Excludes universe req choice c × IsReported universe req choice c text
IsShown form.Conflict universe req choice text = text ≡ []

-- `select` writes the document, or with `--proof` a certificate
abbrev pub shown_by : Bool → Shows
shown_by false = form.Document
shown_by true = form.Certificate

-- The universe is there, a choice is the best one from it, and this is what is written of it.
pub record Chooses (known : Known) (ask : Ask) (shows : Shows) (before after : Feeding) (text : List ℕ) : Type 0 where
  pub there : IsThere known ask before after
  pub choice : Choice
  pub best : IsBest there.universe (requirement_of ask) choice
  pub shown : IsShown shows there.universe (requirement_of ask) choice text

-- The universe is there, no choice from it is valid, and the proof refutes.
pub record HasNone (known : Known) (ask : Ask) (before after : Feeding) (p : Proof) : Type 0 where
  pub there : IsThere known ask before after
  pub refutes : Refutes there.universe (requirement_of ask) p
  pub none : NoneIsValid there.universe (requirement_of ask)

-- the text of a refutation, which has no block
abbrev pub refutation_text : Proof → List ℕ
refutation_text p = certificate_text (record { proof = p; blocks = [] })

-- What is written where no choice is valid: the refutation; nothing; or the facts that leave none.
abbrev pub IsNoneShown : Shows → List Interface → Requirement → Proof → Option (List ℕ) → Type 0
IsNoneShown form.Document universe req p o = o ≡ Some (refutation_text p)
IsNoneShown form.Certificate universe req p o = o ≡ Some (refutation_text p)
IsNoneShown form.Reasons universe req p o = o ≡ None
IsNoneShown form.Conflict universe req p o = IsSomeAnd o (IsConflictText universe req p)

-- The universe is there, no choice from it is valid, and this is what is written of that.
pub record ShowsNone (known : Known) (ask : Ask) (shows : Shows) (before after : Feeding) (p : Proof) (o : Option (List ℕ)) : Type 0 where
  pub has : HasNone known ask before after p
  pub shown : IsNoneShown shows has.there.universe (requirement_of ask) p o

-- a text is written, or there is none, and nothing is
abbrev pub WritesSome : Sinking → Option (List ℕ) → Sinking → Type 0
WritesSome old None new = new ≡ old
WritesSome old (Some text) new = Writes old text new

-- the universe is there, and the search was spent on so many lemmas
pub record WasSpent (known : Known) (ask : Ask) (before after : Feeding) (p : Proof) (count : ℕ) : Type 0 where
  pub there : IsThere known ask before after
  pub count_is : count ≡ ask.search
  pub spent : IsSpent there.universe (requirement_of ask) ask.search p

-- the universe that the words ask for is loaded, and this is so of it
abbrev pub OfLoaded : Known → Ask → Feeding → Feeding → (List Interface → Type 0) → Type 0
OfLoaded known ask before after Is = (universe : List Interface) × IsLoaded known ask before after universe × Is universe

-- over what is known
abbrev pub SelectsOver : Ask → Shows → Known → Lent → Lent → Outcome → Type 0
-- the best choice was found, and what shows it was written
SelectsOver ask shows known before after Done =
    (text : List ℕ) × Chooses known ask shows before.feeds after.feeds text × Writes before.out text after.out
SelectsOver ask shows known before after (TooLarge limit) =
    OfLoaded known ask before.feeds after.feeds (λ universe. AreMany universe (requirement_of ask) limit) × (after.out ≡ before.out)
-- no choice is valid, and what is shown of that was written
SelectsOver ask shows known before after (NoSolution p) =
    (o : Option (List ℕ)) × ShowsNone known ask shows before.feeds after.feeds p o × WritesSome before.out o after.out
SelectsOver ask shows known before after (Spent p count) = WasSpent known ask before.feeds after.feeds p count × (after.out ≡ before.out)
-- the output failed in the text
SelectsOver ask shows known before after SinkFault =
    ((text : List ℕ) × Chooses known ask shows before.feeds after.feeds text × WritesFront before.out text after.out)
    ⊎ ((p : Proof) × (text : List ℕ) × ShowsNone known ask shows before.feeds after.feeds p (Some text) × WritesFront before.out text after.out)
-- memory was refused before the loading, in it, behind it, or in the text
SelectsOver ask shows known before after Memory =
    (after ≡ before)
    ⊎ (Refused known ask before after load.Memory
    ⊎ ((OfLoaded known ask before.feeds after.feeds (λ universe. Unit {0}) × (after.out ≡ before.out))
    ⊎ (((text : List ℕ) × Chooses known ask shows before.feeds after.feeds text × StopsShort before.out text after.out)
    ⊎ ((p : Proof) × (text : List ℕ) × ShowsNone known ask shows before.feeds after.feeds p (Some text) × StopsShort before.out text after.out))))
-- the loading was refused
SelectsOver ask shows known before after other = IsUnloaded (Refused known ask before after) other

-- The universe that the words ask for is loaded, and the best choice from it is shown, or that there is none.
abbrev pub Selects : Asked → Bool → World → World → Outcome → Type 0
Selects asked proof before after outcome = DoesOver asked.table (SelectsOver asked.ask (shown_by proof)) before after outcome

-- The same, with reasons: where there is none nothing is written.
abbrev pub Explains : Asked → World → World → Outcome → Type 0
Explains asked before after outcome = DoesOver asked.table (SelectsOver asked.ask form.Reasons) before after outcome

-- The same, with what leaves no choice: where there is one nothing is written.
abbrev pub TellsConflict : Asked → World → World → Outcome → Type 0
TellsConflict asked before after outcome = DoesOver asked.table (SelectsOver asked.ask form.Conflict) before after outcome
