-- What is due of `store add`.
use Rattle.std.specs.Prelude.{◌≡◌, ◌≢◌, ◌⊎◌, ℕ, ◌<◌, ◌≤◌, true, List, [], ◌∷◌, length, map, sum, bytes_eq, if◌then◌else◌, Option, Some, None, IsSome, Result, Ok, Err}
use Rattle.zi_digest.specs.declared.DigestName.{DigestName}
use Rattle.zi_digest.specs.Name.{spelling, algorithm_of}
use Rattle.zi_outside.specs.Views.{Holding}
use Rattle.zi_tree.specs.Dir.{Dir}
use Rattle.zi_tree.specs.Order.{is_tree}
use Rattle.zi_tree.specs.Paths.{items, node_in}
use Rattle.zi_tree.specs.declared.tree.TreeNode.{TreeNode}
use Rattle.zi_tree.specs.Limits.{nodes_limit, size_limit}
use Rattle.zi_tree.specs.declared.change.TreeLimit.TheVariants.{Size, Nodes}
use Rattle.zi_manifest.specs.Manifest.{first_bad, digest_of}
use Rattle.zi_shelf.specs.Told.{Told}
use Rattle.zi_session.specs.Phases.{tmp_name}
use Rattle.zi_adding.specs.Trying.{IsRight}
use Rattle.zi_words.specs.Forms.{Word}
use Rattle.zi_words.specs.Store.{last_part}
use Rattle.zi_outcome.specs.declared.outcome.Outcome.{Outcome}
use Rattle.zi_outcome.specs.declared.outcome.Outcome.TheVariants.{Done, Overlap, TreeTooLarge, BadName, Mismatch, Crowded}
use Rattle.zi_storing.specs.Gathering.{file_limit, are_apart, IsFirstTwice, plain}
use Rattle.zi_due.specs.Files.{got}

-- the bytes of the files, in their order, or why the first that isn't got isn't
abbrev pub with_bytes : List ℕ → Result (List (List ℕ)) Outcome → Result (List (List ℕ)) Outcome
with_bytes bytes (Err why) = Err why
with_bytes bytes (Ok rest) = Ok (bytes ∷ rest)

abbrev pub bytes_by : Result (List ℕ) Outcome → Result (List (List ℕ)) Outcome → Result (List (List ℕ)) Outcome
bytes_by (Err why) rest = Err why
bytes_by (Ok bytes) rest = with_bytes bytes rest

abbrev pub all_got : Holding → List Word → Result (List (List ℕ)) Outcome
all_got holds [] = Ok []
all_got holds (file ∷ files) = bytes_by (got file_limit file (holds file)) (all_got holds files)

-- the names of the files in the tree: the last parts of their paths
abbrev pub names_of : List Word → List (List ℕ)
names_of files = map last_part files

-- the file of this name, of files with these names and bytes
abbrev pub file_in : List ℕ → List (List ℕ) → List (List ℕ) → Option TreeNode
file_in n (m ∷ ms) (b ∷ bs) = if bytes_eq m n then Some (plain b) else file_in n ms bs
file_in n names all = None

-- the tree of files: under the name of each stands its file, and nothing else stands in it
pub record IsTreeOf (names all : List (List ℕ)) (tree : Dir) : Type 0 where
  pub whole : is_tree tree ≡ true
  pub holds : (n : List ℕ) → node_in n (items tree) ≡ file_in n names all

-- each temporary name is taken, or one is free
abbrev pub AreTaken : Told → Type 0
AreTaken s = (k : ℕ) → k < 10000 → IsSome (s.shelf.tops (tmp_name k))

abbrev pub IsFree : Told → Type 0
IsFree s = (k : ℕ) × (k < 10000) × (s.shelf.tops (tmp_name k) ≡ None)

-- A tree is added: a name in it is bad; or its digest is another; or each temporary name is taken; or it is stored, or its name is there.
abbrev pub EndsTree : DigestName → Told → Dir → Outcome → Type 0
EndsTree name s tree (BadName path) = first_bad tree ≡ Some path
EndsTree name s tree (Mismatch wanted found) =
    (first_bad tree ≡ None) × (digest_of (algorithm_of name) tree ≢ name)
    × (wanted ≡ spelling name) × (found ≡ spelling (digest_of (algorithm_of name) tree))
EndsTree name s tree (Crowded tried) = IsRight name tree × (tried ≡ 10000) × AreTaken s
EndsTree name s tree Done = IsRight name tree × IsFree s
EndsTree name s tree other = ⊥

-- The files make no tree: two have one name; or all have too many bytes; or they are too many. Else this is due of the tree that they make.
abbrev pub EndsFiles : DigestName → Told → List Word → List (List ℕ) → Outcome → Type 0
EndsFiles name s files all (Overlap path) = IsFirstTwice (names_of files) path
EndsFiles name s files all (TreeTooLarge Size limit) = (are_apart (names_of files) ≡ true) × (limit ≡ size_limit) × (size_limit < sum (map length all))
EndsFiles name s files all (TreeTooLarge Nodes limit) =
    (are_apart (names_of files) ≡ true) × (sum (map length all) ≤ size_limit) × (limit ≡ nodes_limit) × (nodes_limit < length files)
EndsFiles name s files all other =
    (are_apart (names_of files) ≡ true) × (sum (map length all) ≤ size_limit) × (length files ≤ nodes_limit)
    × ((tree : Dir) → IsTreeOf (names_of files) all tree → EndsTree name s tree other)

abbrev pub OfGot : (List (List ℕ) → Outcome → Type 0) → Result (List (List ℕ)) Outcome → Outcome → Type 0
OfGot Is (Err why) outcome = outcome ≡ why
OfGot Is (Ok all) outcome = Is all outcome

-- in the store that is written
abbrev pub InFirst : (Told → Outcome → Type 0) → List Told → Outcome → Type 0
InFirst Is [] outcome = ⊥
InFirst Is (s ∷ ss) outcome = Is s outcome

abbrev pub EndsAdd : DigestName → List Word → Holding → List Told → Outcome → Type 0
EndsAdd name files holds stores outcome = InFirst (λ s o. OfGot (λ all o. EndsFiles name s files all o) (all_got holds files) o) stores outcome
