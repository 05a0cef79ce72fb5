-- What is said of a stored tree.
use Rattle.std.specs.Prelude.{◌≡◌, ◌≢◌, Some, None, Result, Ok, Err}
use Rattle.zi_digest.specs.Name.{spelling, algorithm_of}
use Rattle.zi_digest.specs.declared.DigestName.{DigestName}
use Rattle.zi_tree.specs.Dir.{Dir}
use Rattle.zi_shelf.specs.Shelved.{Top, Shelved}
use Rattle.zi_shelf.specs.declared.shelf.ShelfFault.{ShelfFault}
use Rattle.zi_manifest.specs.Manifest.{as_read, first_bad, digest_of}
use Rattle.zi_tree.specs.Limits.{limit_of}
use Rattle.zi_store.specs.Walking.{passed}
use Rattle.zi_store.specs.declared.verdicts.Verdict.{Verdict}
use Rattle.zi_store.specs.declared.verdicts.Verdict.TheVariants as verdict

-- what a comparison of a digest with the name says
abbrev pub Compares : DigestName → DigestName → Verdict → Type 0
Compares name found verdict.Sound = found ≡ name
Compares name found (verdict.Damaged other) = (other ≡ found) × (found ≢ name)
Compares name found verdict.Missing = ⊥
Compares name found (verdict.BadName path) = ⊥
Compares name found (verdict.TooLarge what limit) = ⊥

-- What is said of a tree under this name: the first name that no manifest has; else whether its digest by the name's algorithm is the name.
abbrev pub Judges : DigestName → Verdict → Dir → Type 0
Judges name (verdict.BadName path) d = first_bad (as_read d) ≡ Some path
Judges name other d = (first_bad (as_read d) ≡ None) × Compares name (digest_of (algorithm_of name) d) other

-- Missing where no tree is stored under the name; else the first limit that the tree passes, as read; else what is said of it
abbrev pub Verifies : DigestName → Result Verdict ShelfFault → Shelved Dir → Type 0
Verifies name (Ok verdict.Missing) s = s.tops (spelling name) ≡ None
Verifies name (Ok (verdict.TooLarge what limit)) s = (e : Top Dir) × (s.tops (spelling name) ≡ Some e) × (passed (as_read e.tree) ≡ Some what) × (limit ≡ limit_of what)
Verifies name (Ok other) s = (e : Top Dir) × (s.tops (spelling name) ≡ Some e) × (passed (as_read e.tree) ≡ None) × Judges name other e.tree
Verifies name (Err e) s = Unit {0}
