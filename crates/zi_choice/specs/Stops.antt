-- The walk of a choice as one list: what it comes to, in the order in which that is met. An interface that is listed and a
-- command that is used are one stop each. The places and the used commands of a walk are these, told apart (`StopsAreThere`).
use Rattle.std.specs.Prelude.{◌≡◌, ℕ, ◌==◌, ◌&&◌, Bool, true, false, List, [], ◌∷◌, ◌++◌, take, bytes_eq, Option, Some, None}
use Rattle.std.specs.List.{list_any}
use Rattle.zi_parts.specs.declared.types.Dep.{Dep}
use Rattle.zi_parts.specs.declared.types.Command.{Command}
use Rattle.zi_universe.specs.declared.types.Requirement.{Requirement}
use Rattle.zi_universe.specs.declared.types.Interface.{Interface}
use Rattle.zi_choice.specs.Choice.{Choice, pick, chosen, command_at, deps_of, needs_of}
use Rattle.zi_choice.specs.Walk.{Place, Use, Walk, leads_to, wanted}
use Rattle.zi_choice.specs.declared.traced.Stop.{Stop}
use Rattle.zi_choice.specs.declared.traced.Stop.TheVariants.{Came, Needed}

abbrev pub is_came : ℕ → Stop → Bool
is_came i (Came j) = j == i
is_came i (Needed j name) = false

abbrev pub is_needed : ℕ → List ℕ → Stop → Bool
is_needed i name (Came j) = false
is_needed i name (Needed j other) = j == i && bytes_eq other name

-- the interface of a stop
abbrev pub interface_of : Stop → ℕ
interface_of (Came i) = i
interface_of (Needed i name) = i

-- the interface is among the stops; the command is
abbrev pub came_to : List Stop → ℕ → Bool
came_to xs i = list_any (is_came i) xs

abbrev pub needed_at : List Stop → ℕ → List ℕ → Bool
needed_at xs i name = list_any (is_needed i name) xs

abbrev pub and_came : List Stop → ℕ → List Stop
and_came xs i = xs ++ Came i ∷ []

abbrev pub and_needed : List Stop → ℕ → List ℕ → List Stop
and_needed xs i name = xs ++ Needed i name ∷ []

mutual
  -- Visiting an interface: where it is among the stops already nothing happens; else it is one more, and if it is chosen the
  -- dependencies of its candidate are followed.
  pub data VisitStops (u : List Interface) (s : Choice) : ℕ → List Stop → List Stop → Type 0 where
    been : {i : ℕ} {a : List Stop} → came_to a i ≡ true → VisitStops u s i a a
    stops : {i : ℕ} {a b : List Stop} → came_to a i ≡ false → FollowStops u s (deps_of (chosen u s i)) (and_came a i) b → VisitStops u s i a b

  -- Needing a command of an interface: one that the choice there lacks does nothing, and so does one that was needed before;
  -- else it is one stop more, and its dependencies and then its runner are followed.
  pub data NeedStops (u : List Interface) (s : Choice) : ℕ → List ℕ → List Stop → List Stop → Type 0 where
    without : {i : ℕ} {name : List ℕ} {a : List Stop} → command_at u s i name ≡ None → NeedStops u s i name a a
    before : {i : ℕ} {name : List ℕ} {a : List Stop} → needed_at a i name ≡ true → NeedStops u s i name a a
    needs : {i : ℕ} {name : List ℕ} {a b : List Stop} (m : Command) → command_at u s i name ≡ Some m → needed_at a i name ≡ false → FollowStops u s (needs_of m) (and_needed a i name) b → NeedStops u s i name a b

  -- Needing commands of an interface, one after another.
  pub data NeedEachStops (u : List Interface) (s : Choice) : ℕ → List (List ℕ) → List Stop → List Stop → Type 0 where
    no_name : {i : ℕ} {a : List Stop} → NeedEachStops u s i [] a a
    a_name : {i : ℕ} {name : List ℕ} {names : List (List ℕ)} {a b c : List Stop} → NeedStops u s i name a b → NeedEachStops u s i names b c → NeedEachStops u s i (name ∷ names) a c

  -- Following dependencies, one after another: the interface is visited, and then each command that the dependency names is
  -- needed there.
  pub data FollowStops (u : List Interface) (s : Choice) : List Dep → List Stop → List Stop → Type 0 where
    no_dep : {a : List Stop} → FollowStops u s [] a a
    a_restriction : {d : Dep} {ds : List Dep} {a b : List Stop} → leads_to u d ≡ None → FollowStops u s ds a b → FollowStops u s (d ∷ ds) a b
    a_dep : {d : Dep} {ds : List Dep} {a b c e : List Stop} (i : ℕ) → leads_to u d ≡ Some i → VisitStops u s i a b → NeedEachStops u s i d.commands b c → FollowStops u s ds c e → FollowStops u s (d ∷ ds) a e

-- The stops of a choice: the root is visited, and then the requirement's command is needed there.
pub record AreStops (u : List Interface) (req : Requirement) (s : Choice) (xs : List Stop) : Type 0 where
  pub from_root : List Stop
  pub visit : VisitStops u s 0 [] from_root
  pub need : NeedEachStops u s 0 (wanted req.command) from_root xs

-- Told apart: the interfaces with what is chosen, and the commands.
abbrev pub places_of : Choice → List Stop → List Place
places_of s [] = []
places_of s (Came i ∷ xs) = record { interface = i; pick = pick s i } ∷ places_of s xs
places_of s (Needed i name ∷ xs) = places_of s xs

abbrev pub uses_of : List Stop → List Use
uses_of [] = []
uses_of (Came i ∷ xs) = uses_of xs
uses_of (Needed i name ∷ xs) = record { interface = i; command = name } ∷ uses_of xs

abbrev pub walk_of_stops : Choice → List Stop → Walk
walk_of_stops s xs = record { places = places_of s xs; used = uses_of xs }

-- the two choose alike for each interface that comes before the stop at a place of the list
abbrev pub AgreeBefore : List Stop → ℕ → Choice → Choice → Type 0
AgreeBefore xs n s t = (j : ℕ) → came_to (take n xs) j ≡ true → pick s j ≡ pick t j
