-- A walk as tasks that are done one after another: what each does to its stops, and what a step of them must keep.
use Rattle.std.specs.Prelude.{◌≡◌, ℕ, ◌+◌, ◌<◌, List, [], ◌∷◌, length, map, Option}
use Rattle.zi_parts.specs.declared.types.Dep.{Dep}
use Rattle.zi_universe.specs.declared.types.Interface.{Interface}
use Rattle.zi_choice.specs.Choice.{Choice, pick}
use Rattle.zi_choice.specs.Walk.{wanted}
use Rattle.zi_choice.specs.Walk.{Place as APlace}
use Rattle.zi_choice.specs.Stops.{VisitStops, FollowStops, NeedEachStops, walk_of_stops}
use Rattle.zi_choice.specs.Left.{to_come}
use Rattle.zi_choice.specs.declared.traced.Stop.{Stop}
use Rattle.zi_choice.specs.declared.walking.Task.{Task}
use Rattle.zi_choice.specs.declared.walking.Task.TheVariants.{Follow, FollowOne, Need}
use Rattle.zi_choice.specs.declared.walking.Setting.{Setting}
use Rattle.zi_choice.specs.declared.walking.Way.{Way}

abbrev pub universe_of : Setting → List Interface
universe_of on = on.universe.now

abbrev pub picks_of : Setting → Choice
picks_of on = on.picks.now

abbrev pub place_at : Choice → ℕ → APlace
place_at s i = record { interface = i; pick = pick s i }

-- the stops that it has come to
abbrev pub stops_of : Way → List Stop
stops_of w = w.stops.keys

-- what it still can list or use
abbrev pub left_of : Setting → Way → ℕ
left_of on w = to_come (universe_of on) (picks_of on) (walk_of_stops (picks_of on) (stops_of w))

-- what a task does
abbrev pub Does : List Interface → Choice → Task → List Stop → List Stop → Type 0
Does u s (Follow ds) a b = FollowStops u s ds.now a b
Does u s (FollowOne d) a b = FollowStops u s (d.now ∷ []) a b
Does u s (Need i names) a b = NeedEachStops u s i names.now a b

-- The tasks, done from the last to the first, go from the one list of stops to the other.
abbrev pub Runs : List Interface → Choice → List Task → List Stop → List Stop → Type 0
Runs u s [] a w = a ≡ w
Runs u s (t ∷ ts) a w = (b : List Stop) × Runs u s ts a b × Does u s t b w

-- First this, and then the tasks.
abbrev pub Then : List Interface → Choice → (List Stop → List Stop → Type 0) → List Task → List Stop → List Stop → Type 0
Then u s D ts a w = (b : List Stop) × D a b × Runs u s ts b w

-- Where the later tasks run from the later stops, this and then the earlier tasks run from the earlier ones.
abbrev pub Steps : Setting → (List Stop → List Stop → Type 0) → List Task → Way → List Task → Way → Type 0
Steps on D ts a us b =
    (w : List Stop) → Runs (universe_of on) (picks_of on) us (stops_of b) w → Then (universe_of on) (picks_of on) D ts (stops_of a) w

-- Where the later tasks run from the later stops, the earlier tasks run from the earlier ones.
abbrev pub Moves : Setting → List Task → Way → List Task → Way → Type 0
Moves on ts a us b =
    (w : List Stop) → Runs (universe_of on) (picks_of on) us (stops_of b) w → Runs (universe_of on) (picks_of on) ts (stops_of a) w

-- how much of a task is left, where it lists and uses nothing new
abbrev pub dep_size : Dep → ℕ
dep_size d = 2 + length d.commands

abbrev pub deps_size : List Dep → ℕ
deps_size [] = 0
deps_size (d ∷ ds) = dep_size d + deps_size ds

abbrev pub size : Task → ℕ
size (Follow ds) = 1 + deps_size ds.now
size (FollowOne d) = dep_size d.now
size (Need i names) = 1 + length names.now

abbrev pub sizes : List Task → ℕ
sizes [] = 0
sizes (t ∷ ts) = size t + sizes ts

-- something new is listed or used
abbrev pub IsFurther : Setting → Way → Way → Type 0
IsFurther on a b = left_of on b < left_of on a

-- nothing is
abbrev pub IsSame : Way → Way → Type 0
IsSame a b = stops_of b ≡ stops_of a

-- The stops that visiting the root, and then needing the command there, comes to.
pub record StopsOn (on : Setting) (command : Option (List ℕ)) (way : Way) : Type 0 where
  pub from_root : List Stop
  pub visit : VisitStops (universe_of on) (picks_of on) 0 [] from_root
  pub need : NeedEachStops (universe_of on) (picks_of on) 0 (wanted command) from_root (stops_of way)
