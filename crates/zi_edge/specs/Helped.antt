-- What a helper says by what it writes and by how it ends: 0 that its output is the bytes, 44 that there is nothing.
use Rattle.std.specs.Prelude.{◌≡◌, ℕ, ◌<◌, ◌≤◌, true, List, ◌++◌, length, Option, Some, None, IfSome, Result, Ok, Err, if◌then◌else◌}
use Rattle.std.specs.Process.{exit_code}
use Rattle.std.specs.declared.io.Error.{Error}
use Rattle.std.specs.declared.process.child.Child.{Child}
use Rattle.std.specs.declared.process.status.ExitStatus.{ExitStatus}
use Rattle.zi_outside.specs.declared.feeds.Got.{Got}
use Rattle.zi_outside.specs.declared.feeds.Got.TheVariants.{Held, Absent, TooLong}
use Rattle.zi_edge.specs.Ends.{is_code}
use Rattle.zi_edge.specs.Troubles.{IsTroubleOf}
use Rattle.zi_edge.specs.declared.reading.Taken.{Taken}
use Rattle.zi_edge.specs.declared.reading.Taken.TheVariants.{Whole, TooMuch}
use Rattle.zi_edge.specs.declared.trouble.Reason.TheVariants.{Ended}
use Rattle.zi_edge.specs.declared.trouble.Trouble.{Trouble}
use Rattle.zi_edge.specs.declared.trouble.Trouble.TheVariants.{Failed}

-- a helper that wrote no more than it was to has ended so
abbrev pub answer_by : ExitStatus → Result Got Trouble
answer_by ended = if is_code 0 (exit_code ended) then Ok Held else if is_code 44 (exit_code ended) then Ok Absent else Err (Failed (Ended ended))

-- what comes of what was taken in and of how it ended, where these are known
abbrev pub Answers : Result Taken Trouble → Result ExitStatus Error → Result Got Trouble → Type 0
Answers (Err trouble) ended result = result ≡ Err trouble
Answers (Ok taken) (Err error) result = (trouble : Trouble) × (result ≡ Err trouble) × IsTroubleOf error trouble
Answers (Ok TooMuch) (Ok ended) result = result ≡ Ok TooLong
Answers (Ok Whole) (Ok ended) result = result ≡ answer_by ended

-- what a stream that may be there is to give, where that is known
abbrev pub given_by : {O : Type 0} → (O → Option (List ℕ)) → Option O → Option (List ℕ)
given_by remaining None = None
given_by remaining (Some stream) = remaining stream

-- what a child's standard output is to give, where that is known
abbrev pub output : {P I O E : Type 0} → (O → Option (List ℕ)) → Child P I O E → Option (List ℕ)
output remaining child = given_by remaining child.stdout

-- A helper was waited for. It ended with the status 0 and its whole output, within the limit, stands behind what was in the buffer; or
-- with 44; or its output is more than the limit. But for the first the buffer is as before.
abbrev pub HasGiven : Option (List ℕ) → ℕ → List ℕ → Got → List ℕ → Option ExitStatus → Type 0
HasGiven given limit old got new None = ⊥
HasGiven given limit old Held new (Some ended) =
    (is_code 0 (exit_code ended) ≡ true) × (bytes : List ℕ) × (new ≡ old ++ bytes) × (length bytes ≤ limit) × IfSome given (λ all. bytes ≡ all)
HasGiven given limit old Absent new (Some ended) = (is_code 44 (exit_code ended) ≡ true) × (new ≡ old)
HasGiven given limit old TooLong new (Some ended) = (new ≡ old) × IfSome given (λ all. limit < length all)
