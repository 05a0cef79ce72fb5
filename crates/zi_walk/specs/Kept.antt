-- What the decider keeps of a walk, so that it can be taken up again where it stood.
use Rattle.std.specs.Prelude.{◌≡◌, ◌≤◌, ◌<◌, ◌+◌, ◌-◌, ◌⊎◌, ℕ, Bool, true, List, [], ◌∷◌, ◌++◌, map, length, take, slice_get, Option, Some, None, option_and_then}
use Rattle.zi_parts.specs.declared.types.Command.{Command}
use Rattle.zi_parts.specs.declared.types.Dep.{Dep}
use Rattle.zi_universe.specs.declared.types.Requirement.{Requirement}
use Rattle.zi_universe.specs.declared.types.Interface.{Interface}
use Rattle.zi_choice.specs.declared.traced.Used.{Used}
use Rattle.zi_choice.specs.Choice.{Choice, pick, candidate_at, chosen, deps_of, needs_of, command_of}
use Rattle.zi_choice.specs.Walk.{Walk, Walks, Follows, NeedsEach, is_listed}
use Rattle.zi_choice.specs.Left.{to_come}
use Rattle.zi_choice.specs.Traces.{as_use}
use Rattle.zi_choice.specs.Tasks.{place_at, dep_size, deps_size}
use Rattle.zi_walk.specs.declared.tasks.Task.{Task}
use Rattle.zi_walk.specs.declared.tasks.Task.TheVariants.{Follow, FollowOne, Need}
use Rattle.zi_walk.specs.declared.path.Stop.{Stop}
use Rattle.zi_walk.specs.declared.path.Path.{Path}
use Rattle.zi_walk.specs.Lists.{list_at}

-- 1. What tasks do.

-- commands are needed only of an interface that the walk has come to
abbrev pub Does : List Interface → Choice → Task → Walk → Walk → Type 0
Does u s (Follow ds) a b = Follows u s ds.now a b
Does u s (FollowOne d) a b = Follows u s (d.now ∷ []) a b
Does u s (Need i names) a b = (is_listed a i ≡ true) × NeedsEach u s i names.now a b

-- the tasks, done from the first to the last, go from the one walk to the other
abbrev pub Runs : List Interface → Choice → List Task → Walk → Walk → Type 0
Runs u s [] a w = a ≡ w
Runs u s (t ∷ ts) a w = (b : Walk) × Does u s t a b × Runs u s ts b w

-- how much of a task is left, where it lists and uses nothing new
abbrev pub size : Task → ℕ
size (Follow ds) = 1 + deps_size ds.now
size (FollowOne d) = dep_size d.now
size (Need i names) = 1 + length names.now

abbrev pub sizes : List Task → ℕ
sizes [] = 0
sizes (t ∷ ts) = size t + sizes ts

-- 2. How far a walk has come.

-- The interfaces that it has come to, what is kept of those that it followed, the commands that it used, the lists of tasks, and
-- the number of the list of what is left.
pub record Stand : Type 0 where
  pub order : List ℕ
  pub stops : List Stop
  pub used : List Used
  pub lists : List (List Task)
  pub left : ℕ

abbrev pub stand_of : Path → Stand
stand_of p = record { order = p.order.keys; stops = p.stops.items; used = p.used.keys; lists = p.tasks; left = p.left }

-- the tasks that are left
abbrev pub left_of : Stand → List Task
left_of z = list_at z.lists z.left

-- the walk so far, of a choice
abbrev pub walk_to : Choice → Stand → Walk
walk_to s z = record { places = map (place_at s) z.order; used = map as_use z.used }

-- the choice has at the followed places what is chosen there
abbrev pub Agrees : Choice → List Stop → Type 0
Agrees s [] = Unit {0}
Agrees s (x ∷ xs) = (pick s x.interface ≡ x.pick) × Agrees s xs

-- the interface that waits to be followed, where the walk has come to one
abbrev pub waiting : Stand → Option ℕ
waiting z = slice_get z.order (length z.stops)

-- what follows from a waiting interface, where there is one
abbrev pub Awaits : List Interface → Choice → Option ℕ → Walk → Walk → Type 0
Awaits u s None a b = a ≡ b
Awaits u s (Some i) a b = Follows u s (deps_of (chosen u s i)) a b

-- from here the choice's walk goes on to a walk: by what is waiting, and then the tasks that are left
abbrev pub GoesOn : List Interface → Choice → Stand → Walk → Type 0
GoesOn u s z w = (b : Walk) × Awaits u s (waiting z) (walk_to s z) b × Runs u s (left_of z) b w

abbrev pub interfaces_of : List Stop → List ℕ
interfaces_of xs = map (λ x. x.interface) xs

-- Whatever a choice has elsewhere: where it agrees with what is followed, its walk goes on from here. All places are followed,
-- but the last one may wait.
pub record Stands (u : List Interface) (req : Requirement) (z : Stand) : Type 0 where
  pub inside : z.left < length z.lists
  pub same : interfaces_of z.stops ≡ take (length z.stops) z.order
  pub within : length z.stops ≤ length z.order
  pub last : length z.order ≤ length z.stops + 1
  pub goes : (s : Choice) (w : Walk) → Agrees s z.stops → Walks u req s w → GoesOn u s z w

-- 3. A walk that can go back.

-- how things stood when the walk came to a place
abbrev pub back_at : Stand → ℕ → Stop → Stand
back_at z n x = record { order = take (n + 1) z.order; stops = take n z.stops; used = take x.used z.used; lists = take (x.tasks + 1) z.lists; left = x.left }

pub record StopIs (u : List Interface) (req : Requirement) (z : Stand) (n : ℕ) (x : Stop) : Type 0 where
  pub tasks : x.tasks < length z.lists
  pub used : x.used ≤ length z.used
  pub stands : Stands u req (back_at z n x)

-- the one was followed before the other
pub record IsBefore (x y : Stop) : Type 0 where
  pub known : x.known ≤ y.known
  pub tasks : x.tasks ≤ y.tasks
  pub used : x.used ≤ y.used

abbrev pub Rise : List Stop → Type 0
Rise xs = (m n : ℕ) (x y : Stop) → m ≤ n → slice_get xs m ≡ Some x → slice_get xs n ≡ Some y → IsBefore x y

-- it has come to the root at least, and can go back to each of its places
pub record PathIs (u : List Interface) (req : Requirement) (z : Stand) : Type 0 where
  pub begun : 0 < length z.order
  pub stands : Stands u req z
  pub rise : Rise z.stops
  pub stops : (n : ℕ) (x : Stop) → slice_get z.stops n ≡ Some x → StopIs u req z n x

-- it has come nowhere yet
pub record IsEmpty (z : Stand) : Type 0 where
  pub order : z.order ≡ []
  pub stops : z.stops ≡ []
  pub used : z.used ≡ []
  pub lists : z.lists ≡ [] ∷ []
  pub left : z.left ≡ 0

-- 4. What a step keeps.

abbrev pub Longer : {A : Type 0} → List A → List A → Type 0
Longer {A} xs ys = (more : List A) × (ys ≡ xs ++ more)

-- one place is new at most
abbrev pub Comes : Stand → Stand → Type 0
Comes y z = (z.order ≡ y.order) ⊎ ((i : ℕ) × (z.order ≡ y.order ++ i ∷ []))

pub record Grown (y z : Stand) : Type 0 where
  pub comes : Comes y z
  pub stops : z.stops ≡ y.stops
  pub used : Longer y.used z.used
  pub lists : Longer y.lists z.lists
  pub inside : z.left < length z.lists

-- every place is followed, so that the tasks are to be done
pub record IsReady (z : Stand) : Type 0 where
  pub inside : z.left < length z.lists
  pub followed : interfaces_of z.stops ≡ z.order

-- nothing new is listed or used
pub record Stays (y z : Stand) : Type 0 where
  pub used : z.used ≡ y.used
  pub ready : IsReady z

-- something new is listed or used
abbrev pub IsFurther : List Interface → Choice → Stand → Stand → Type 0
IsFurther u s y z = to_come u s (walk_to s z) < to_come u s (walk_to s y)

-- Where a choice agrees with what is followed, and this and then the tasks that were left go from the walk so far to a walk,
-- it goes on to that walk from the later stand; and where something is said to be new, less is left.
abbrev pub Steps : List Interface → (Choice → Walk → Walk → Type 0) → Stand → Stand → Bool → Type 0
Steps u D y z new =
    (s : Choice) (b w : Walk) → Agrees s y.stops → D s (walk_to s y) b → Runs u s (left_of y) b w →
    GoesOn u s z w × (new ≡ true → IsFurther u s y z)

-- The same for the tasks that are left alone.
abbrev pub Moves : List Interface → Stand → Stand → Bool → Type 0
Moves u y z new =
    (s : Choice) (w : Walk) → Agrees s y.stops → Runs u s (left_of y) (walk_to s y) w → GoesOn u s z w × (new ≡ true → IsFurther u s y z)

-- dependencies are to be followed before the tasks that were left
abbrev pub FollowsFirst : List Dep → List Task → List Task → Type 0
FollowsFirst ds later ts = (u : List Interface) (s : Choice) (a b w : Walk) → Follows u s ds a b → Runs u s later b w → Runs u s ts a w

-- the command of a name that the candidate has which is chosen, if one is
abbrev pub command_in : List Interface → ℕ → List ℕ → Option ℕ → Option Command
command_in u i name o = option_and_then (λ k. command_of k name) (option_and_then (λ c. candidate_at u i c) o)

-- what a command needs is to be done before the tasks that were left
abbrev pub NeedsFirst : Command → List Task → List Task → Type 0
NeedsFirst m later ts = FollowsFirst (needs_of m) later ts

-- what is kept of the place that waits, when it is followed
abbrev pub stop_at : Stand → ℕ → Option ℕ → ℕ → Stop
stop_at z i o known = record { interface = i; pick = o; known = known; left = z.left; tasks = length z.lists - 1; used = length z.used }

-- the waiting place is followed, with what is chosen there
pub record IsFollowed (y z : Stand) (x : Stop) : Type 0 where
  pub order : z.order ≡ y.order
  pub stops : z.stops ≡ y.stops ++ x ∷ []
  pub used : z.used ≡ y.used
  pub lists : Longer y.lists z.lists
  pub inside : z.left < length z.lists

-- where a choice has that there, its walk goes on from there too
abbrev pub GoesAlong : List Interface → Stand → Stand → Stop → Type 0
GoesAlong u y z x = (s : Choice) (w : Walk) → pick s x.interface ≡ x.pick → GoesOn u s y w → GoesOn u s z w
