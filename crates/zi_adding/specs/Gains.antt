-- What a command does to a shelf that adds trees or only reads it, and what stands under digest names then.
use Rattle.std.specs.Prelude.{◌≡◌, ◌≤◌, ◌⊎◌, List, Some, None, IsSome, All, Contains}
use Rattle.zi_digest.specs.Name.{spelling}
use Rattle.zi_tree.specs.Dir.{Dir}
use Rattle.zi_shelf.specs.Names.{Name}
use Rattle.zi_shelf.specs.Shelved.{Top, Shelved}
use Rattle.zi_shelf.specs.Shelving.{Shelving, Stays}
use Rattle.zi_shelf.specs.Told.{Told}
use Rattle.zi_store.specs.Keeping.{Grows, is_reading}
use Rattle.zi_session.specs.StoreRules.{IsDigestName}
use Rattle.zi_session.specs.Alone.{added}
use Rattle.zi_session.specs.declared.step.Step.{Step}
use Rattle.zi_session.specs.declared.step.Step.TheVariants as step
use Rattle.zi_adding.specs.Trying.{Tried, IsRight, HasEnded, RunInTurn}

-- calls that read were made, and no others
pub record OnlyReads (s t : Told) : Type 0 where
  pub same : t.shelf ≡ s.shelf
  pub grows : Grows is_reading s.calls t.calls

-- reading, then sessions one behind the other, then reading
pub record WorksThrough (tried : List Tried) (s t : Told) : Type 0 where
  pub first : Told
  pub last : Told
  pub before : OnlyReads s first
  pub between : RunInTurn tried first last
  pub behind : OnlyReads last t

-- All that was done to a shelf: it was read, the sessions of these had their steps, one session behind the other, and it was read.
pub record Uses (tried : List Tried) (before after : Shelving) : Type 0 where
  pub ended : All HasEnded tried
  pub works : (s : Told) → before.honest → before.told ≡ Some s → (t : Told) × (after.told ≡ Some t) × WorksThrough tried s t
  pub later : before.faults ≤ after.faults
  pub stays : Stays before after

-- by what its session answered: the tree is there, or its name is
abbrev pub IsKept : Shelved Dir → Tried → Step → Type 0
IsKept s a step.Stored = s.tops (spelling a.name) ≡ Some (added (spelling a.name) a.tree)
IsKept s a step.Present = IsSome (s.tops (spelling a.name))
IsKept s a other = Unit {0}

-- What stood there stands there; what has come under a digest is one of these trees, whole, under its own; and each that was added is there.
pub record Gains (tried : List Tried) (s t : Shelved Dir) : Type 0 where
  pub kept : (n : Name) (e : Top Dir) → s.tops n ≡ Some e → t.tops n ≡ Some e
  pub come : (n : Name) → IsDigestName n → s.tops n ≡ None
      → (t.tops n ≡ None) ⊎ ((a : Tried) × Contains tried a × (n ≡ spelling a.name) × (t.tops n ≡ Some (added n a.tree)))
  pub there : All (λ (a : Tried). IsKept t a a.answer) tried

-- so it is of an honest shelf that tells what it holds
pub record GainsOnly (tried : List Tried) (before after : Shelving) : Type 0 where
  pub gains : (s : Told) → before.honest → before.told ≡ Some s → (t : Told) × (after.told ≡ Some t) × Gains tried s.shelf t.shelf

-- Whatever is done to it: what stood under a digest stands there, and what has come is a tree that has the digest, whole.
pub record KeepsTrees (before after : Shelving) : Type 0 where
  pub tried : List Tried
  pub right : All (λ (a : Tried). IsRight a.name a.tree) tried
  pub only : GainsOnly tried before after
