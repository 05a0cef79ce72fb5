-- How a call is to end, by what is held when it begins.
use Rattle.std.specs.Prelude.{◌≡◌, ◌⊎◌, Bool, true, false}
use Rattle.zi_outcome.specs.declared.outcome.Outcome.{Outcome}
use Rattle.zi_outcome.specs.declared.outcome.Outcome.TheVariants.{NoSolution, Spent, Memory, Child}

-- The end: this outcome; or a proof that no choice is valid; or the status of a program that was started.
pub data End : Type 0 where
  Comes : (outcome : Outcome) → End
  Refutes : End
  Starts : End

-- the end that is due, and whether a search that may be spent comes before it
pub record Due : Type 0 where
  pub searched : Bool
  pub end : End

-- no search is made, and this is the outcome
abbrev pub plainly : Outcome → Due
plainly outcome = record { searched = false; end = Comes outcome }

abbrev pub IsEnd : End → Outcome → Type 0
IsEnd (Comes due) outcome = outcome ≡ due
IsEnd Refutes (NoSolution proof) = Unit {0}
IsEnd Refutes other = ⊥
IsEnd Starts (Child status) = Unit {0}
IsEnd Starts other = ⊥

-- the search was spent
abbrev pub IsSpent : Bool → Outcome → Type 0
IsSpent true (Spent proof count) = Unit {0}
IsSpent searched other = ⊥

-- It ends as is due; or memory was refused; or a search was made and was spent.
abbrev pub Ends : Due → Outcome → Type 0
Ends due outcome = IsEnd due.end outcome ⊎ ((outcome ≡ Memory) ⊎ IsSpent due.searched outcome)
