-- What was found in a file, within a limit.
use Rattle.std.specs.Prelude.{◌≡◌, ◌≢◌, ℕ, ◌<◌, ◌≤◌, List, ◌++◌, length, vec_len}
use Rattle.std.specs.Io.{StartsWith}
use Rattle.std.specs.IoError.{error_kind}
use Rattle.std.specs.declared.io.Error.{Error}
use Rattle.std.specs.declared.io.ErrorKind.TheVariants.{Interrupted}
use Rattle.zi_edge.specs.declared.trouble.Reason.TheVariants.{System}
use Rattle.zi_edge.specs.declared.trouble.Trouble.{Trouble}
use Rattle.zi_edge.specs.declared.trouble.Trouble.TheVariants.{Failed}
use Rattle.zi_outside.specs.declared.feeds.Got.{Got}
use Rattle.zi_outside.specs.declared.feeds.Got.TheVariants as outside
use Rattle.zi_edge.specs.declared.piecewise.Found.{Found}
use Rattle.zi_edge.specs.declared.piecewise.Found.TheVariants.{Bytes, Absent, TooLong}

-- the bytes, if any, are within the limit
abbrev pub FitsIn : ℕ → Found → Type 0
FitsIn limit (Bytes bytes) = vec_len bytes ≤ limit
FitsIn limit Absent = Unit {0}
FitsIn limit TooLong = Unit {0}

-- these bytes begin all that was to be read, and where they aren't all, they are as many as it was said to hold, which is something
pub record IsEnough (said : ℕ) (bytes : List ℕ) (all : List ℕ) : Type 0 where
  pub begins : StartsWith all bytes
  pub cut : bytes ≢ all → (0 < said) × (said ≤ length bytes)

-- what was found of a reader that was to give all this, and was said to hold so many bytes
abbrev pub IsReadOf : ℕ → ℕ → Found → List ℕ → Type 0
IsReadOf said limit (Bytes bytes) all = IsEnough said bytes.items all
IsReadOf said limit Absent all = ⊥
IsReadOf said limit TooLong all = limit < length all

-- no interrupted call, which is tried again
abbrev pub IsNotInterrupted : Trouble → Type 0
IsNotInterrupted trouble = (error : Error) → trouble ≡ Failed (System error) → error_kind error ≢ Interrupted

-- what is told of what was found, and what is then in the buffer
abbrev pub Delivers : Found → Got → List ℕ → List ℕ → Type 0
Delivers (Bytes bytes) got old new = (got ≡ outside.Held) × (new ≡ old ++ bytes.items)
Delivers Absent got old new = (got ≡ outside.Absent) × (new ≡ old)
Delivers TooLong got old new = (got ≡ outside.TooLong) × (new ≡ old)
