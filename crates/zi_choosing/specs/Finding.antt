-- The best choice from what the words ask for, and what it selects, before anything is done with it.
use Rattle.std.specs.Prelude.{◌≡◌, ℕ, ◌⊎◌, List, Result, Ok, Err}
use Rattle.zi_outside.specs.Views.{Feeding}
use Rattle.zi_store.specs.Keeping.{Keeps, is_names}
use Rattle.zi_store.specs.Stores.{Each}
use Rattle.zi_words.specs.declared.request.Ask.{Ask}
use Rattle.zi_universe.specs.declared.types.Requirement.{Requirement}
use Rattle.zi_universe.specs.declared.types.Interface.{Interface}
use Rattle.zi_universe.specs.declared.fault.LoadFault.TheVariants as load
use Rattle.zi_choice.specs.Valid.{NoneIsValid}
use Rattle.zi_choice.specs.Best.{IsBest}
use Rattle.zi_certificate.specs.Certificates.{Refutes}
use Rattle.zi_solve.specs.Answers.{IsSpent}
use Rattle.zi_sels.specs.Chosen.{AreSelected}
use Rattle.zi_outcome.specs.declared.outcome.Outcome.{Outcome}
use Rattle.zi_outcome.specs.declared.outcome.Outcome.TheVariants.{TooLarge, NoSolution, Spent, Memory}
use Rattle.zi_world.specs.Asking.{FeedsStay}
use Rattle.zi_choosing.specs.declared.asked.Asked.{Asked}
use Rattle.zi_choosing.specs.declared.known.Known.{Known}
use Rattle.zi_choosing.specs.declared.chosen.Chosen.{Chosen}
use Rattle.zi_choosing.specs.Knowing.{Sources, IsUnknown, IsKnown, Starts}
use Rattle.zi_choosing.specs.Wanted.{requirement_of}
use Rattle.zi_choosing.specs.Loaded.{IsLoaded, IsRefused, AreFew, AreMany, IsUnloaded}
use Rattle.zi_choosing.specs.Select.{HasNone, WasSpent, OfLoaded}

-- The universe that the words ask for was loaded over what is known, this is the best choice from it, and these are its selections.
pub record IsChosen (ask : Ask) (before : Feeding) (c : Chosen) (after : Feeding) : Type 0 where
  pub req : c.req ≡ requirement_of ask
  pub loaded : IsLoaded c.known ask before after c.universe
  pub few : AreFew c.universe (requirement_of ask)
  pub best : IsBest c.universe (requirement_of ask) c.choice.picks
  pub selected : AreSelected c.universe (requirement_of ask) c.choice.picks c.sels

-- Over what is known there is no choice, and this is why.
abbrev pub FindsNot : Known → Ask → Feeding → Feeding → Outcome → Type 0
FindsNot known ask before after (TooLarge limit) = OfLoaded known ask before after (λ universe. AreMany universe (requirement_of ask) limit)
-- no choice is valid
FindsNot known ask before after (NoSolution p) = HasNone known ask before after p
-- the search was spent
FindsNot known ask before after (Spent p count) = WasSpent known ask before after p count
-- memory was refused before the loading, in it, or behind it
FindsNot known ask before after Memory =
    (after ≡ before) ⊎ (IsRefused known ask before after load.Memory ⊎ OfLoaded known ask before after (λ universe. Unit {0}))
-- the loading was refused
FindsNot known ask before after other = IsUnloaded (IsRefused known ask before after) other

-- The names in the stores and the packages are found out, and over them the choice is made; or they aren't.
abbrev pub FindsOver : Asked → Sources → Sources → Result Chosen Outcome → Type 0
FindsOver asked before after (Ok c) =
    (feeds : Feeding) × IsKnown asked.table before (record { feeds = feeds; stores = after.stores }) (Ok c.known) × IsChosen asked.ask feeds c after.feeds
FindsOver asked before after (Err outcome) =
    IsUnknown asked.table before after outcome
    ⊎ ((start : Starts asked.table before after.stores) × FindsNot start.known asked.ask start.feeds after.feeds outcome)

-- The stores are asked for their names alone.
pub record FindsBest (asked : Asked) (before after : Sources) (result : Result Chosen Outcome) : Type 0 where
  pub feeds : FeedsStay before.feeds after.feeds
  pub stores : Each (Keeps is_names) before.stores after.stores
  pub answer : FindsOver asked before after result

-- Parts of the work.

-- no choice from a universe is given, and this is why
abbrev pub SolvesNot : Requirement → ℕ → List Interface → Outcome → Type 0
SolvesNot req budget universe (TooLarge limit) = AreMany universe req limit
SolvesNot req budget universe (NoSolution p) = AreFew universe req × Refutes universe req p × NoneIsValid universe req
SolvesNot req budget universe (Spent p count) = AreFew universe req × (count ≡ budget) × IsSpent universe req budget p
SolvesNot req budget universe Memory = Unit {0}
SolvesNot req budget universe other = ⊥
