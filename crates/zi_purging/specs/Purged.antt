-- What a purge leaves of a store.
use Rattle.std.specs.Prelude.{◌≡◌, ◌≢◌, ◌<◌, ◌↔◌, ◌⊎◌, ℕ, true, List, [], Some, None, IsSome}
use Rattle.zi_tree.specs.Dir.{Dir}
use Rattle.zi_shelf.specs.Names.{Name, IsIn}
use Rattle.zi_shelf.specs.Shelved.{Shelved}
use Rattle.zi_shelf.specs.Shelving.{Shelving}
use Rattle.zi_shelf.specs.Told.{Told}
use Rattle.zi_store.specs.Rising.{rises}
use Rattle.zi_session.specs.Phases.{tmp_name}
use Rattle.zi_session.specs.StoreRules.{IsDigestName}

-- A kept name has what it had, each other digest name has it or nothing, and so has every other entry what it had, the temporary ones aside.
pub record Spared (kept : List Name) (s t : Shelved Dir) : Type 0 where
  pub stays : (n : Name) → IsDigestName n → IsIn n kept → t.tops n ≡ s.tops n
  pub each : (n : Name) → IsDigestName n → (t.tops n ≡ s.tops n) ⊎ (t.tops n ≡ None)
  pub others : (n : Name) → (IsDigestName n → ⊥) → ((k : ℕ) → k < 10000 → n ≢ tmp_name k) → t.tops n ≡ s.tops n

-- The names that are gone are the digest names that were there but for the kept ones, each once and in byte order. Nothing stands under
-- them, under every other name stands what stood there, and that lasts through a crash: nothing is pending.
pub record Purged (kept gone : List Name) (s t : Shelved Dir) : Type 0 where
  pub are : (n : Name) → IsIn n gone ↔ (IsDigestName n × IsSome (s.tops n) × (IsIn n kept → ⊥))
  pub rising : rises gone ≡ true
  pub away : (n : Name) → IsIn n gone → t.tops n ≡ None
  pub stays : (n : Name) → (IsIn n gone → ⊥) → t.tops n ≡ s.tops n
  pub settled : t.pending ≡ []

-- so it is of an honest shelf that tells what it holds
abbrev pub Spares : List Name → Shelving → Shelving → Type 0
Spares kept before after = (s : Told) → before.honest → before.told ≡ Some s → (t : Told) × (after.told ≡ Some t) × Spared kept s.shelf t.shelf
