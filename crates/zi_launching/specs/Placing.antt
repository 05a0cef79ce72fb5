-- Where digests stand, as it is found out.
use Rattle.std.specs.Prelude.{◌≡◌, ℕ, List, map, Some, None, bytes_eq, cond}
use Rattle.std.specs.List.{position_from}
use Rattle.std.specs.Map.{lookup}
use Rattle.zi_digest.specs.declared.DigestName.{DigestName}
use Rattle.zi_digest.specs.Name.{spelling}
use Rattle.zi_store.specs.Rising.{is_among}
use Rattle.zi_store.specs.Finding.{spelled}
use Rattle.zi_choice.specs.Tables.{first_of}
use Rattle.zi_world.specs.Places.{place}
use Rattle.zi_launching.specs.Folders.{place_in}

-- each digest stands there
abbrev pub ArePlaces : List (List DigestName) → List (List ℕ × ℕ) → Type 0
ArePlaces each entries = (d : DigestName) → place_in entries d ≡ place each d

-- for each name the number of the first store that has it
abbrev pub ArePlaced : List (List DigestName) → List (List ℕ × ℕ) → Type 0
ArePlaced each entries = (q : List ℕ) → lookup (bytes_eq q) entries ≡ position_from (λ ns. is_among ns q) 0 (spelled each)

-- a store's digests are added, each that wasn't there
abbrev pub IsPlaced : List DigestName → ℕ → List (List ℕ × ℕ) → List (List ℕ × ℕ) → Type 0
IsPlaced digests store old new = (q : List ℕ) → lookup (bytes_eq q) new ≡ first_of (lookup (bytes_eq q) old) (cond (is_among (map spelling digests) q) (Some store) None)
