-- The tree under a name that was found sound.
use Rattle.std.specs.Prelude.{◌≡◌, Some, None}
use Rattle.zi_digest.specs.Name.{spelling, algorithm_of}
use Rattle.zi_digest.specs.declared.DigestName.{DigestName}
use Rattle.zi_tree.specs.Dir.{Dir}
use Rattle.zi_shelf.specs.Shelved.{Top, Shelved}
use Rattle.zi_manifest.specs.Manifest.{as_read, first_bad, digest_of}
use Rattle.zi_store.specs.Walking.{passed}

-- the tree under the name has that digest, and as read passes no limit and has no bad name
pub record HoldsSound (name : DigestName) (s : Shelved Dir) : Type 0 where
  pub entry : Top Dir
  pub is_there : s.tops (spelling name) ≡ Some entry
  pub within : passed (as_read entry.tree) ≡ None
  pub good : first_bad (as_read entry.tree) ≡ None
  pub digest : digest_of (algorithm_of name) entry.tree ≡ name
