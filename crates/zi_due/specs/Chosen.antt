-- What is due of `download` and `run`: of the choice, and then of what is done with the best one.
use Rattle.std.specs.Prelude.{◌≡◌, ℕ, List, Result}
use Rattle.zi_outside.specs.declared.var.Var.{Var}
use Rattle.zi_universe.specs.declared.types.Interface.{Interface}
use Rattle.zi_universe.specs.declared.types.Requirement.{Requirement}
use Rattle.zi_choice.specs.Choice.{Choice}
use Rattle.zi_choice.specs.Best.{IsBest}
use Rattle.zi_choice.specs.Valid.{IsValid, NoneIsValid}
use Rattle.zi_sels.specs.Chosen.{AreSelected}
use Rattle.zi_outcome.specs.declared.outcome.Outcome.{Outcome}
use Rattle.zi_choosing.specs.declared.asked.Asked.{Asked}
use Rattle.zi_choosing.specs.declared.chosen.Chosen.{Chosen}
use Rattle.zi_choosing.specs.Wanted.{requirement_of}
use Rattle.zi_due.specs.Due.{Due, End, Refutes}
use Rattle.zi_due.specs.Held.{Held}
use Rattle.zi_due.specs.Knowing.{IsKnown, IsLoaded, ComesTo}
use Rattle.zi_due.specs.Choosing.{SearchesBy}
use Rattle.zi_due.specs.Fetching.{EndsDocument, EndsProgram}

-- this is the best choice from what is loaded over what is known, and its selections
pub record IsPicked (asked : Asked) (held : Held) (c : Chosen) : Type 0 where
  pub req : c.req ≡ requirement_of asked.ask
  pub known : IsKnown asked held c.known
  pub loaded : IsLoaded asked.ask held.feeds c.known c.universe
  pub best : IsBest c.universe (requirement_of asked.ask) c.choice.picks
  pub selected : AreSelected c.universe (requirement_of asked.ask) c.choice.picks c.sels

-- so it is of whatever is picked
abbrev pub OfPicked : Asked → Held → (Chosen → End → Type 0) → End → Type 0
OfPicked asked held Then end = (c : Chosen) → IsPicked asked held c → Then c end

-- what a search comes to: none is valid; or some choice is, and then this is so
abbrev pub FindsThen : Requirement → (End → Type 0) → List Interface → End → Type 0
FindsThen req Then universe Refutes = NoneIsValid universe req
FindsThen req Then universe end = ((choice : Choice) × IsValid universe req choice) × Then end

-- a choice, and then this
abbrev pub EndsChosen : Asked → Held → (Chosen → End → Type 0) → Due → Type 0
EndsChosen asked held Then due =
    (result : Result (List Interface) Outcome) × ComesTo asked held result
    × SearchesBy (FindsThen (requirement_of asked.ask) (OfPicked asked held Then)) (requirement_of asked.ask) asked.ask.search result due

abbrev pub EndsDownload : Asked → Held → Due → Type 0
EndsDownload asked held due = EndsChosen asked held (EndsDocument held) due

abbrev pub EndsRun : Asked → List Var → List (List ℕ) → Held → Due → Type 0
EndsRun asked vars user held due = EndsChosen asked held (EndsProgram vars user held) due
