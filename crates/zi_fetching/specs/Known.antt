-- Names of trees that are known to be stored, and whether what is selected is there.
use Rattle.std.specs.Prelude.{ℕ, Bool, ◌||◌, List, map, is_some}
use Rattle.std.specs.List.{list_any}
use Rattle.zi_policy.specs.Platform.{listed}
use Rattle.zi_digest.specs.declared.DigestName.{DigestName}
use Rattle.zi_digest.specs.Name.{spelling}
use Rattle.zi_universe.specs.Naming.{without_repeats}
use Rattle.zi_sels.specs.declared.types.Selection.{Selection}

-- names of trees: spellings of digests
abbrev pub Names : Type 0
Names = List (List ℕ)

-- those of digests, each once
abbrev pub names_of : List DigestName → Names
names_of digests = without_repeats (map spelling digests)

-- a digest is among those that are stored
abbrev pub is_known : Names → DigestName → Bool
is_known stored digest = listed (spelling digest) stored

-- What is selected isn't fetched: it has a path of its own, or is a package of the operating system, or one of its digests is stored.
abbrev pub is_there : Names → Selection → Bool
is_there stored x = is_some x.local || is_some x.«package» || list_any (is_known stored) x.digests
