-- What is found where it is told is found where it isn't.
use Rattle.std.proofs.Common.{ℕ, List, Option, None}
use Rattle.zi_outside.specs.Outside.{Query, Finds}
use Rattle.zi_outside.specs.Views.{Holding}
use Rattle.zi_outside.specs.declared.feeds.Got.{Got}
use Rattle.zi_outside.specs.declared.feeds.Got.TheVariants.{Held, Absent, TooLong}

pub untold : (told : Option Holding) (query : Query) (got : Got) (buffer : List ℕ) → Finds told query got buffer → Finds None query got buffer
untold told query Held buffer (bytes, is, fits, so) = (bytes, is, fits, tt)
untold told query Absent buffer (is, so) = (is, tt)
untold told query TooLong buffer (is, so) = (is, tt)
