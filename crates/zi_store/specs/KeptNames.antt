-- The names that are kept.
use Rattle.std.specs.Prelude.{◌≡◌, Some}
use Rattle.std.specs.Ordering.{nat_cmp}
use Rattle.std.specs.Cmp.Lexicographic.{slice_cmp}
use Rattle.std.specs.BTreeMap.{get}
use Rattle.zi_digest.specs.Name.{spelling}
use Rattle.zi_digest.specs.declared.DigestName.{DigestName}
use Rattle.zi_store.specs.declared.checked.Checked.{Checked}

-- the name stands under its spelling
abbrev pub IsKept : Checked → DigestName → Type 0
IsKept c name = get (slice_cmp nat_cmp) c.sound (spelling name) ≡ Some name
