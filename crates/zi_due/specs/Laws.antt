-- That what is due comes, of the work over what is known, and what that takes.
use Rattle.std.specs.Prelude.{◌≡◌, ◌≢◌, ℕ, List, Some, Result, Ok}
use Rattle.zi_text.specs.Count.{Rose}
use Rattle.zi_digest.specs.declared.DigestName.{DigestName}
use Rattle.zi_outside.specs.Views.{Holding, Feeding, holding}
use Rattle.zi_tree.specs.Dir.{Dir}
use Rattle.zi_shelf.specs.Shelved.{Shelved}
use Rattle.zi_shelf.specs.Told.{Told}
use Rattle.zi_session.specs.Begun.{at_start}
use Rattle.zi_session.specs.Standing.{Standing}
use Rattle.zi_session.specs.Stepping.{CallsToEnd}
use Rattle.zi_session.specs.declared.step.Step.{Step}
use Rattle.zi_session.specs.declared.step.Step.TheVariants.{Stored, Present}
use Rattle.zi_store.specs.Stored.{NamesStored}
use Rattle.zi_parts.specs.declared.types.Method.{Method}
use Rattle.zi_recipe.specs.declared.fault.RecipeFault.{RecipeFault}
use Rattle.zi_recipe.specs.Making.{Makes, Refuses}
use Rattle.zi_recipe.specs.Made.{made, IsFirstFault}
use Rattle.zi_packages.specs.Laws.{TableIsOne, BadLineIsOne}
use Rattle.zi_words.specs.declared.request.Ask.{Ask}
use Rattle.zi_words.specs.declared.request.Request.{Request}
use Rattle.zi_words.specs.Words.{Right}
use Rattle.zi_sels.specs.Reading.{IsSettled}
use Rattle.zi_universe.specs.declared.types.Interface.{Interface}
use Rattle.zi_universe.specs.Laws.{HasOneUniverse, UniverseExcludes, HasOneRefusal}
use Rattle.zi_plan.specs.Laws.{PlanIsOne, ShimsAreOne}
use Rattle.zi_outcome.specs.declared.outcome.Outcome.{Outcome}
use Rattle.zi_choosing.specs.declared.known.Known.{Known}
use Rattle.zi_choosing.specs.declared.shows.Shows.{Shows}
use Rattle.zi_choosing.specs.Wanted.{requirement_of}
use Rattle.zi_choosing.specs.Loaded.{Lent}
use Rattle.zi_choosing.specs.Select.{SelectsOver}
use Rattle.zi_choosing.specs.Refute.{RefutesOver}
use Rattle.zi_choosing.specs.Check.{ChecksOver}
use Rattle.zi_due.specs.Due.{Due, plainly, Ends}
use Rattle.zi_due.specs.Adding.{AreTaken}
use Rattle.zi_due.specs.Knowing.{LoadsTo}
use Rattle.zi_due.specs.Choosing.{ChoosesBy, OfUniverse, RefutesBy, ChecksBy}

-- what a store holds has one list of digest names
abbrev pub NamesAreOne : Type 0
NamesAreOne = (s : Shelved Dir) (xs ys : List DigestName) → NamesStored (Ok xs) s → NamesStored (Ok ys) s → xs ≡ ys

-- Where each temporary name is taken, a session that nobody disturbs ends neither as Stored nor as Present.
abbrev pub TakenFindsNone : Type 0
TakenFindsNone =
    (name : DigestName) (tree : Dir) (s : Told) (step : Step) (y : Standing) (t : Told) → AreTaken s → CallsToEnd (at_start name tree) s step y t → (step ≢ Stored) × (step ≢ Present)

-- What a web holds makes one thing by a way to fetch: the tree that is made, or the fault that is told, but for a failed call and want of memory.
abbrev pub WaysMakeOne : Type 0
WaysMakeOne =
    (web : Holding) (m : Method) (old new : Feeding) → holding old ≡ Some web
    → ((t : Dir) → Makes m old t new → made web m ≡ Ok t) × ((e : RecipeFault) → Refuses m old e new → IsFirstFault (made web m) e)

-- what is read of the texts that users hand in is one thing: words make one request; a table says one
-- table, or is bad at one line; selections are one, or have one fault
pub record TextsAreOne : Type 0 where
  pub request : (words : List (List ℕ)) (a b : Request) → Right words a → Right words b → a ≡ b
  pub table : TableIsOne
  pub line : BadLineIsOne
  pub sels : (bytes : List ℕ) → IsSettled bytes

-- what a loading comes to over feeds that hold something is one thing
pub record LoadingsAreOne : Type 0 where
  pub universe : HasOneUniverse
  pub excludes : UniverseExcludes
  pub refusal : HasOneRefusal

-- a launch has one plan, and its shims have one list of calls
pub record LaunchesAreOne : Type 0 where
  pub plan : PlanIsOne
  pub shims : ShimsAreOne

-- the feeds hold this, and no call failed
pub record IsQuiet (holds : Holding) (before after : Lent) : Type 0 where
  pub told : holding before.feeds ≡ Some holds
  pub feeds : ¬ Rose before.feeds.faults after.feeds.faults
  pub out : ¬ Rose before.out.faults after.out.faults

abbrev pub SelectEndsAsDue : Type 0
SelectEndsAsDue =
    (ask : Ask) (shows : Shows) (known : Known) (holds : Holding) (before after : Lent) (outcome : Outcome) (result : Result (List Interface) Outcome) (due : Due) →
    IsQuiet holds before after → SelectsOver ask shows known before after outcome → LoadsTo ask holds known result → ChoosesBy (requirement_of ask) ask.search result due → Ends due outcome

abbrev pub RefuteEndsAsDue : Type 0
RefuteEndsAsDue =
    (ask : Ask) (proof : List ℕ) (known : Known) (holds : Holding) (before after : Lent) (outcome : Outcome) (result : Result (List Interface) Outcome) (due : Outcome) →
    IsQuiet holds before after → RefutesOver ask proof known before after outcome → LoadsTo ask holds known result → OfUniverse (RefutesBy ask proof holds) result due → Ends (plainly due) outcome

abbrev pub CheckEndsAsDue : Type 0
CheckEndsAsDue =
    (ask : Ask) (sels proof : List ℕ) (known : Known) (holds : Holding) (before after : Lent) (outcome : Outcome) (result : Result (List Interface) Outcome) (due : Outcome) →
    IsQuiet holds before after → ChecksOver ask sels proof known before after outcome → LoadsTo ask holds known result → OfUniverse (ChecksBy ask sels proof holds) result due
    → Ends (plainly due) outcome
