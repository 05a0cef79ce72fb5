-- The same over a web that tells what it holds, as one fold of the steps over the empty tree.
use Rattle.std.specs.Prelude.{◌≡◌, ℕ, ◌+◌, ◌==◌, nat_lt, min, Bool, List, [], ◌∷◌, length, Option, Some, None, IfSome, Result, Ok, Err, if◌then◌else◌}
use Rattle.zi_tree.specs.Dir.{Dir, Nothing}
use Rattle.zi_tree.specs.Paths.{found, inserted, removed}
use Rattle.zi_tree.specs.declared.tree.TreeNode.{TreeNode}
use Rattle.zi_tree.specs.declared.change.TreeLimit.{TreeLimit}
use Rattle.zi_tree.specs.declared.change.TreeLimit.TheVariants.{Size}
use Rattle.zi_outside.specs.Views.{Holding}
use Rattle.zi_parts.specs.declared.types.Method.{Method}
use Rattle.zi_parts.specs.declared.types.Step.{Step}
use Rattle.zi_parts.specs.declared.types.Step.TheVariants.{File, Rename, Remove}
use Rattle.zi_recipe.specs.declared.fault.RecipeFault.{RecipeFault}
use Rattle.zi_recipe.specs.declared.fault.RecipeFault.TheVariants as fault
use Rattle.zi_tree.specs.Limits.{size_limit, limit_of}
use Rattle.zi_recipe.specs.Limits.{said_size, passed}
use Rattle.zi_recipe.specs.Steps.{path_text, file}

-- a tree, or a fault
abbrev pub Trial : Type 0
Trial = Result Dir RecipeFault

-- the tree with a node at a path, if it has room
abbrev pub with_node : List (List ℕ) → Option Dir → Trial
with_node dest None = Err (fault.Overlap (path_text dest))
with_node dest (Some d) = Ok d

-- what is held at an address, placed as a file
abbrev pub with_file : List ℕ → ℕ → List (List ℕ) → Bool → Dir → Option (List ℕ) → Trial
with_file href size dest exec d None = Err (fault.NoRemote href)
with_file href size dest exec d (Some bytes) =
    if length bytes == size then with_node dest (inserted dest (file bytes exec) d)
    else Err (fault.WrongSize href size (min (length bytes) (size + 1)))

-- what stands at a path, taken out and placed
abbrev pub moved : List (List ℕ) → List (List ℕ) → Dir → Option TreeNode → Trial
moved source dest d None = Err (fault.NoPath (path_text source))
moved source dest d (Some x) = with_node dest (inserted dest x (removed source d))

-- the same, taken out alone
abbrev pub without : List (List ℕ) → Dir → Option TreeNode → Trial
without path d None = Err (fault.NoPath (path_text path))
without path d (Some x) = Ok (removed path d)

-- the tree after a step
abbrev pub after_step : Holding → Dir → Step → Trial
after_step holds d (File href size dest exec) = with_file href size dest exec d (holds href)
after_step holds d (Rename source dest) = moved source dest d (found source d)
after_step holds d (Remove path) = without path d (found path d)

-- the tree after steps, or the first fault
abbrev pub then_steps : Trial → (Dir → Trial) → Trial
then_steps (Err e) f = Err e
then_steps (Ok d) f = f d

abbrev pub after_steps : Holding → List Step → Dir → Trial
after_steps holds [] d = Ok d
after_steps holds (s ∷ ss) d = then_steps (after_step holds d s) (after_steps holds ss)

-- a tree, if it passes no limit
abbrev pub unless_passed : Option TreeLimit → Dir → Trial
unless_passed None d = Ok d
unless_passed (Some what) d = Err (fault.TooLarge what (limit_of what))

-- The tree that a way to fetch makes, or its first fault: the said sizes are summed first, then the steps go in their order, and
-- then the entries are counted, and the depth.
abbrev pub made : Holding → Method → Trial
made holds m =
    if nat_lt size_limit (said_size m.steps) then Err (fault.TooLarge Size size_limit)
    else then_steps (after_steps holds m.steps Nothing) (λ d. unless_passed (passed d) d)

-- this is the first fault; a failed call and want of memory may come in the place of every answer
abbrev pub IsFirstFault : Trial → RecipeFault → Type 0
IsFirstFault trial (fault.FetchRead href) = Unit {0}
IsFirstFault trial fault.Memory = Unit {0}
IsFirstFault trial e = trial ≡ Err e

-- What is made is answered, where the web tells what it holds.
abbrev pub AnswersMade : Option Holding → Method → Trial → Type 0
AnswersMade told m (Ok t) = IfSome told (λ holds. made holds m ≡ Ok t)
AnswersMade told m (Err e) = IfSome told (λ holds. IsFirstFault (made holds m) e)
