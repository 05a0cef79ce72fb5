-- What a core shows.
use Rattle.std.specs.Prelude.{ℕ, List}
use Rattle.zi_universe.specs.declared.types.Requirement.{Requirement}
use Rattle.zi_universe.specs.declared.types.Interface.{Interface}
use Rattle.zi_choice.specs.Valid.{NoneIsValid}
use Rattle.zi_conflict.specs.Core.{IsCore}

-- Where some constraints leave no choice, no choice is valid.
abbrev pub CoreIsNone : Type 0
CoreIsNone = (u : List Interface) (req : Requirement) (ns : List ℕ) → IsCore u req ns → NoneIsValid u req
