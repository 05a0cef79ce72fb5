-- What a purger that works alone leaves of a shelf: from its beginning on nobody else changes that.
use Rattle.std.specs.Prelude.{◌≡◌, ◌≢◌, ◌<◌, ◌+◌, ℕ, true, false, List, [], ◌∷◌, ◌++◌, length, Some, None, ◌⊎◌, IsSome}
use Rattle.zi_tree.specs.Dir.{Dir}
use Rattle.zi_shelf.specs.Names.{Name, IsIn}
use Rattle.zi_shelf.specs.Shelved.{Shelved}
use Rattle.zi_shelf.specs.Told.{Told}
use Rattle.zi_shelf.specs.Shelving.{Shelving}
use Rattle.zi_session.specs.Alone.{Tops}
use Rattle.zi_session.specs.Phases.{tmp_name}
use Rattle.zi_session.specs.StoreRules.{rules}
use Rattle.zi_purge.specs.Machine.{Phase, Moving, Sealing, Clearing, Closing, Ended, Stopped, Done, Crowded, Fault, AreThere}
use Rattle.zi_purge.specs.Stepping.{Standing, at_start}
use Rattle.zi_purge.specs.Progress.{has_ended}

-- Nothing stands under the names that are gone, and under each other name, but for these, what stood there.
pub record Leaves (gone but : List Name) (start now : Tops) : Type 0 where
  pub away : (d : Name) → IsIn d gone → now d ≡ None
  pub stays : (n : Name) → (IsIn n gone → ⊥) → (IsIn n but → ⊥) → now n ≡ start n

-- Nothing stands under the names that are gone, under each name of the purger's what stood there or nothing, and under each other
-- name that isn't a temporary one what stood there.
pub record Spares (names gone : List Name) (start now : Tops) : Type 0 where
  pub away : (d : Name) → IsIn d gone → now d ≡ None
  pub each : (d : Name) → IsIn d names → (now d ≡ start d) ⊎ (now d ≡ None)
  pub others : (n : Name) → (IsIn n names → ⊥) → ((k : ℕ) → k < 10000 → n ≢ tmp_name k) → now n ≡ start n

-- the first so many of the names
pub record AreFirst (names : List Name) (k : ℕ) (gone : List Name) : Type 0 where
  pub many : length gone ≡ k
  pub rest : List Name
  pub are : names ≡ gone ++ rest

-- each temporary name of a number below this one was taken
abbrev pub AreTaken : ℕ → Tops → Type 0
AreTaken n start = (k : ℕ) → k < n → IsSome (start (tmp_name k))

-- a temporary name was free
abbrev pub IsFree : Tops → Type 0
IsFree start = (k : ℕ) × (k < 10000) × (start (tmp_name k) ≡ None)

-- What stood under the last of the names that are gone stands under this temporary name, which was free.
pub record HoldsLast (gone : List Name) (n : ℕ) (start now : Tops) : Type 0 where
  pub few : n < 10000
  pub free : start (tmp_name n) ≡ None
  pub before : List Name
  pub last : Name
  pub is : gone ≡ before ++ last ∷ []
  pub holds : now (tmp_name n) ≡ start last

-- by where it is in its list of calls
abbrev pub InPhase : Tops → List Name → List Name → Phase → Shelved Dir → Type 0
InPhase start names gone (Moving k n) now = (n < 10000) × AreFirst names k gone × AreTaken n start × Leaves gone [] start now.tops
InPhase start names gone (Sealing k n) now = AreFirst names (k + 1) gone × HoldsLast gone n start now.tops × Leaves gone (tmp_name n ∷ []) start now.tops
InPhase start names gone (Clearing k n) now = AreFirst names (k + 1) gone × HoldsLast gone n start now.tops × Leaves gone (tmp_name n ∷ []) start now.tops
InPhase start names gone Closing now = (gone ≡ names) × Leaves gone [] start now.tops
InPhase start names gone (Ended Done) now = (gone ≡ names) × Leaves gone [] start now.tops × (now.pending ≡ [])
InPhase start names gone (Ended Crowded) now = AreTaken 10000 start × Leaves gone [] start now.tops
-- what it spares is all that is known
InPhase start names gone (Ended Fault) now = Unit {0}
InPhase start names gone Stopped now = ⊥

-- A purger that stands here has worked alone on a shelf that held `start` when it began, and holds this now.
pub record WorksAlone (start : Shelved Dir) (x : Standing) (now : Shelved Dir) : Type 0 where
  -- its names were digest names that were there, each once
  pub there : AreThere rules start x.names
  -- at every moment, also after a fault
  pub spares : Spares x.names x.gone start.tops now.tops
  pub phase : InPhase start.tops x.names x.gone x.phase now

-- the shelf is honest and tells what it holds, and the purger has worked alone on it
pub record IsAlone (start : Shelved Dir) (x : Standing) (seen : Shelving) : Type 0 where
  pub honest : seen.honest
  pub now : Told
  pub tells : seen.told ≡ Some now
  pub works : WorksAlone start x now.shelf

-- Before its first call it hasn't ended, and over a store in which the names are that it is told to be there it works alone.
abbrev pub BeginsAlone : Type 0
BeginsAlone = (kept there : List Name) (s : Shelved Dir)
    → (has_ended (at_start kept there).phase ≡ false) × (AreThere rules s there → WorksAlone s (at_start kept there) s)

-- its names are gone, under each other name stands what stood there, and nothing is pending
pub record IsDone (start : Shelved Dir) (x : Standing) (now : Shelved Dir) : Type 0 where
  pub all : x.gone ≡ x.names
  pub leaves : Leaves x.names [] start.tops now.tops
  pub settled : now.pending ≡ []

-- What it leaves by its end.
pub record EndsAlone (start : Shelved Dir) (x : Standing) (now : Shelved Dir) : Type 0 where
  pub done : x.phase ≡ Ended Done → IsDone start x now
  pub crowded : x.phase ≡ Ended Crowded → AreTaken 10000 start.tops
  -- where a temporary name was free it has no other end than Done and Fault
  pub free : IsFree start.tops → has_ended x.phase ≡ true → x.phase ≢ Ended Fault → x.phase ≡ Ended Done

abbrev pub AloneLaw : Type 0
AloneLaw = (start now : Shelved Dir) (x : Standing) → WorksAlone start x now → EndsAlone start x now
