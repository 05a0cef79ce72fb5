-- How programs end. They have a status from 0 to 255, unless a signal ended them.
use Rattle.std.specs.Prelude.{◌≡◌, ℕ, Bool, false, ◌==◌, ℤ, pos, negsuc, Option, Some, None, Result, Ok, Err, unwrap_or}
use Rattle.std.specs.Process.{exit_code}
use Rattle.std.specs.declared.io.Error.{Error}
use Rattle.std.specs.declared.process.status.ExitStatus.{ExitStatus}

-- it ended with this status
abbrev pub is_code : ℕ → Option ℤ → Bool
is_code n None = false
is_code n (Some (pos m)) = m == n
is_code n (Some (negsuc m)) = false

-- the status that a program is said to have: its own, or 255 where a signal ended it
abbrev pub IsStatus : ExitStatus → ℕ → Type 0
IsStatus ended status = pos status ≡ unwrap_or (exit_code ended) (pos 255)

-- the same where it may not be known how it ended
abbrev pub IsStatusOf : Result ExitStatus Error → ℕ → Type 0
IsStatusOf (Ok ended) status = IsStatus ended status
IsStatusOf (Err error) status = status ≡ 255

-- the status of a program by what was learnt of its end
abbrev pub IsLearnt : Option ExitStatus → ℕ → Type 0
IsLearnt None status = ⊥
IsLearnt (Some ended) status = IsStatus ended status
