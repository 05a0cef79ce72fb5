-- What is due behind a file that the feeds hold.
use Rattle.std.specs.Prelude.{◌≡◌, ℕ, List, length, nat_lt, if◌then◌else◌, Option, Some, None, Result, Ok, Err}
use Rattle.zi_outcome.specs.declared.outcome.Outcome.{Outcome}
use Rattle.zi_outcome.specs.declared.outcome.Outcome.TheVariants.{NoFile, FeedTooLong}

-- the bytes of a file that may have so many, or why there are none
abbrev pub got : ℕ → List ℕ → Option (List ℕ) → Result (List ℕ) Outcome
got limit file None = Err (NoFile file)
got limit file (Some bytes) = if nat_lt limit (length bytes) then Err (FeedTooLong file limit) else Ok bytes

-- it isn't there, or has too many bytes, or this is so of what it has
abbrev pub OfFile : Result (List ℕ) Outcome → (List ℕ → Outcome → Type 0) → Outcome → Type 0
OfFile (Err why) Is outcome = outcome ≡ why
OfFile (Ok bytes) Is outcome = Is bytes outcome
