-- What a stored tree demands of the commands that read one: the tree under a name in the first store that has one there.
use Rattle.std.specs.Prelude.{◌≡◌, ◌≢◌, ℕ, List, [], ◌∷◌, Option, Some, None}
use Rattle.zi_digest.specs.declared.DigestName.{DigestName}
use Rattle.zi_digest.specs.Name.{spelling, algorithm_of}
use Rattle.zi_tree.specs.Dir.{Dir}
use Rattle.zi_tree.specs.Limits.{limit_of}
use Rattle.zi_tree.specs.declared.change.TreeLimit.{TreeLimit}
use Rattle.zi_manifest.specs.Manifest.{as_read, first_bad, digest_of}
use Rattle.zi_shelf.specs.Names.{Name}
use Rattle.zi_shelf.specs.Told.{Told, tree_at}
use Rattle.zi_store.specs.Walking.{passed}
use Rattle.zi_outcome.specs.declared.outcome.Outcome.{Outcome}
use Rattle.zi_outcome.specs.declared.outcome.Outcome.TheVariants.{Done, MissingTree, DamagedTree, BadName, TreeTooLarge}

-- the tree under a name in the first store that has one there
abbrev pub or_next : Option Dir → Option Dir → Option Dir
or_next (Some tree) next = Some tree
or_next None next = next

abbrev pub first_tree : Name → List Told → Option Dir
first_tree top [] = None
first_tree top (s ∷ ss) = or_next (tree_at s top) (first_tree top ss)

-- Why a tree has no manifest: the first limit that it passes, as it is read; or the first name in it that no manifest has.
abbrev pub fault_by : Option TreeLimit → Option (List ℕ) → Option Outcome
fault_by (Some what) bad = Some (TreeTooLarge what (limit_of what))
fault_by None (Some path) = Some (BadName path)
fault_by None None = None

abbrev pub tree_fault : Dir → Option Outcome
tree_fault tree = fault_by (passed (as_read tree)) (first_bad (as_read tree))

-- of what stands under a name: it is missing, or has a fault, or this is so of it
abbrev pub OfSound : Option Outcome → (Outcome → Type 0) → Outcome → Type 0
OfSound (Some fault) Is outcome = outcome ≡ fault
OfSound None Is outcome = Is outcome

abbrev pub OfTree : Name → Option Dir → (Dir → Outcome → Type 0) → Outcome → Type 0
OfTree top None Is outcome = outcome ≡ MissingTree top
OfTree top (Some tree) Is outcome = OfSound (tree_fault tree) (Is tree) outcome

-- `manifest`: it is written
abbrev pub EndsManifest : Name → List Told → Outcome → Type 0
EndsManifest top stores outcome = OfTree top (first_tree top stores) (λ tree o. o ≡ Done) outcome

-- by the digest that a tree has
abbrev pub Compares : DigestName → DigestName → Outcome → Type 0
Compares name found Done = found ≡ name
Compares name found (DamagedTree wanted other) = (found ≢ name) × (wanted ≡ spelling name) × (other ≡ spelling found)
Compares name found other = ⊥

-- under a name a tree is sound, or damaged
abbrev pub EndsSound : DigestName → Option Dir → Outcome → Type 0
EndsSound name tree outcome = OfTree (spelling name) tree (λ t o. Compares name (digest_of (algorithm_of name) t) o) outcome

-- `store verify`
abbrev pub EndsVerify : DigestName → List Told → Outcome → Type 0
EndsVerify name stores outcome = EndsSound name (first_tree (spelling name) stores) outcome
