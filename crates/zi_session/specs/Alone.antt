-- What a session that runs alone leaves of a shelf: from its first call to its end nobody else changes it.
use Rattle.std.specs.Prelude.{◌≡◌, ◌≢◌, ◌<◌, ℕ, true, List, ◌++◌, Option, Some, None, ◌⊎◌, IsSome}
use Rattle.zi_digest.specs.declared.DigestName.{DigestName}
use Rattle.zi_digest.specs.Name.{spelling}
use Rattle.zi_tree.specs.Dir.{Dir}
use Rattle.zi_manifest.specs.Manifest.{as_read, manifest}
use Rattle.zi_shelf.specs.Names.{Name, IsIn}
use Rattle.zi_shelf.specs.Shelved.{Top, Call}
use Rattle.zi_shelf.specs.Filling.{Work}
use Rattle.zi_shelf.specs.Told.{Told, change_call}
use Rattle.zi_shelf.specs.declared.call.ShelfCall.{ShelfCall}
use Rattle.zi_session.specs.Machine.{Phase, next_call}
use Rattle.zi_session.specs.Phases.{tmp_name}
use Rattle.zi_session.specs.Rebuilding.{with_manifest}
use Rattle.zi_session.specs.StoreWorks.{algorithm_in, store_works}
use Rattle.zi_session.specs.Standing.{Standing, standing}
use Rattle.zi_session.specs.Stepping.{Lead, IsAsLeft, CallsToEnd}
use Rattle.zi_session.specs.Begun.{IsBegun}
use Rattle.zi_session.specs.declared.session.Session.{Session}
use Rattle.zi_session.specs.declared.step.Step.{Step}
use Rattle.zi_session.specs.declared.step.Step.TheVariants.{More, Stored as SaysStored, Present as SaysPresent, Crowded as SaysCrowded, Fault as SaysFault, Memory as SaysMemory, Over}

-- what stands under the names of a shelf
abbrev pub Tops : Type 0
Tops = Name → Option (Top Dir)

-- the entry of a tree that was added under a name: settled, the tree with the file `.manifest`
abbrev pub added : Name → Dir → Top Dir
added name tree = record { tree = with_manifest tree (manifest (algorithm_in name) tree); settled = true }

-- under each name the same
abbrev pub AreSame : Tops → Tops → Type 0
AreSame before after = (n : Name) → after n ≡ before n

-- the name was free and has the tree now, and under each other name stands what stood there
pub record Adds (name : Name) (tree : Dir) (before after : Tops) : Type 0 where
  pub free : before name ≡ None
  pub there : after name ≡ Some (added name tree)
  pub others : (n : Name) → n ≢ name → after n ≡ before n

-- the name was there, and nothing has changed
pub record Finds (name : Name) (before after : Tops) : Type 0 where
  pub there : IsSome (before name)
  pub same : AreSame before after

-- each of the temporary names was there, and nothing has changed
pub record FindsTaken (before after : Tops) : Type 0 where
  pub taken : (k : ℕ) → k < 10000 → IsSome (before (tmp_name k))
  pub same : AreSame before after

-- What stood there stands there. What has come is a temporary entry, or the whole tree under the name.
pub record Stops (name : Name) (tree : Dir) (before after : Tops) : Type 0 where
  pub kept : (n : Name) (e : Top Dir) → before n ≡ Some e → after n ≡ Some e
  pub comes : before name ≡ None → (after name ≡ None) ⊎ (after name ≡ Some (added name tree))
  pub others : (n : Name) → n ≢ name → ((k : ℕ) → k < 10000 → n ≢ tmp_name k) → after n ≡ before n

-- by the answer of the last step
abbrev pub Ending : Name → Dir → Tops → Step → Tops → Type 0
Ending name tree before SaysStored after = Adds name tree before after
Ending name tree before SaysPresent after = Finds name before after
Ending name tree before (SaysCrowded tried) after = (tried ≡ 10000) × FindsTaken before after
Ending name tree before (SaysFault tmp) after = Stops name tree before after
Ending name tree before SaysMemory after = Stops name tree before after
-- no run ends so
Ending name tree before More after = ⊥
Ending name tree before Over after = ⊥

-- the call of a step
pub record IsOwn (name : Name) (tree : Dir) (c : ShelfCall) : Type 0 where
  pub phase : Phase
  pub call : Call Work
  pub makes : next_call tmp_name (store_works name tree) name phase ≡ Some call
  pub recorded : c ≡ change_call call

-- the record has grown by calls of steps
pub record Grows (name : Name) (tree : Dir) (before after : List ShelfCall) : Type 0 where
  pub new : List ShelfCall
  pub is : after ≡ before ++ new
  pub own : (c : ShelfCall) → IsIn c new → IsOwn name tree c

-- A session with this name and tree ran alone over what s tells, to this answer, and then the shelf tells t.
pub record EndsAlone (name : Name) (tree : Dir) (s : Told) (step : Step) (t : Told) : Type 0 where
  pub tops : Ending name tree s.shelf.tops step t.shelf.tops
  pub calls : Grows name tree s.calls t.calls
  -- the entry of the tree is read as the tree
  pub read : as_read (added name tree).tree ≡ tree

-- a run from the beginning of a session to an answer that isn't More
abbrev pub AloneLaw : Type 0
AloneLaw = (name : DigestName) (tree : Dir) (x : Session) (s t : Told) (step : Step) (y : Standing)
    → IsBegun name tree x → step ≢ More → CallsToEnd (standing x) s step y t → EndsAlone (spelling name) tree s step t

-- Each step of a session that runs alone finds its temporary entry as the session left it.
abbrev pub AsLeftLaw : Type 0
AsLeftLaw = (name : DigestName) (tree : Dir) (x : Session) (n : ℕ) (s t : Told) (y : Standing)
    → IsBegun name tree x → Lead n (standing x) s y t → IsAsLeft y.works y.phase t.shelf
