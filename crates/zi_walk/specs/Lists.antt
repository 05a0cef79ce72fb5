-- Lists of tasks that share what comes later: each is known by its number.
use Rattle.std.specs.Prelude.{◌≡◌, ◌≤◌, ℕ, List, [], ◌∷◌, ◌++◌, length, slice_get, slice_index_or, Some}
use Rattle.zi_walk.specs.declared.tasks.Task.{Task}
use Rattle.zi_walk.specs.declared.tasks.Node.{Node}

-- the list of a number; the empty one where there is none
abbrev pub list_at : List (List Task) → ℕ → List Task
list_at lists n = slice_index_or lists n []

-- the lists with those that some nodes add: each is a task before a list that was there
abbrev pub lists_on : List (List Task) → List Node → List (List Task)
lists_on lists [] = lists
lists_on lists (x ∷ xs) = lists_on (lists ++ (x.task ∷ list_at lists x.later) ∷ []) xs

-- all lists, by their numbers: at first the empty one alone
abbrev pub lists_of : List Node → List (List Task)
lists_of xs = lists_on ([] ∷ []) xs

-- each list goes on with one that was there before it
abbrev pub AreEarlier : List Node → Type 0
AreEarlier xs = (n : ℕ) (x : Node) → slice_get xs n ≡ Some x → x.later ≤ n

-- a task was added before a list that was there, which gave the list of this number
pub record IsAdded (old : List (List Task)) (later : ℕ) (t : Task) (new : List (List Task)) (n : ℕ) : Type 0 where
  pub lists : new ≡ old ++ (t ∷ list_at old later) ∷ []
  pub number : n ≡ length old
