-- What the calls that fill make of an empty tree.
use Rattle.std.specs.Prelude.{◌≡◌, ℕ, ◌+◌, ◌*◌, ◌<◌, ◌≤◌, true, false, List, [], ◌∷◌, ◌++◌, length, pos, None, Some, IsSome, slice_get}
use Rattle.zi_digest.specs.declared.Algorithm.{Algorithm}
use Rattle.zi_tree.specs.Dir.{Dir, Nothing}
use Rattle.zi_tree.specs.declared.tree.TreeNode.TheVariants.{File}
use Rattle.zi_tree.specs.Views.{dir}
use Rattle.zi_tree.specs.Paths.{items, node_in, placed}
use Rattle.zi_tree.specs.Order.{is_tree}
use Rattle.zi_shelf.specs.Filling.{Work, trees, filled}
use Rattle.zi_manifest.specs.Manifest.{own_name, as_read, digest_of}
use Rattle.zi_session.specs.Made.{made}
use Rattle.zi_session.specs.Works.{pieces, works_of}

-- call k of these fits the tree that the calls before it make
abbrev pub FitsAt : List Work → Dir → ℕ → Type 0
FitsAt ws d k = (x : Dir) × (w : Work) × (made trees ws k d ≡ Some x) × (slice_get ws k ≡ Some w) × IsSome (filled w x)

-- the tree with one file more, `.manifest` with this text
abbrev pub with_manifest : Dir → List ℕ → Dir
with_manifest d text = dir (placed own_name (File text false (pos 0)) (items d))

-- The calls for a tree, made one after another on the empty tree.
pub record Rebuilt (d : Dir) (text : List ℕ) : Type 0 where
  -- they make the tree with the file `.manifest`
  pub makes : made trees (works_of d text) (length (works_of d text)) Nothing ≡ Some (with_manifest d text)
  -- each of them fits
  pub fits : (k : ℕ) → k < length (works_of d text) → FitsAt (works_of d text) Nothing k
  -- which is read as the tree, and so has its digest
  pub read : as_read (with_manifest d text) ≡ d
  pub digest : (a : Algorithm) → digest_of a (with_manifest d text) ≡ digest_of a d
  -- its names are names, in order
  pub whole : is_tree (with_manifest d text) ≡ true

-- every tree without a node `.manifest` at the top is rebuilt, whatever the text
abbrev pub Rebuilds : Type 0
Rebuilds = (d : Dir) (text : List ℕ) → is_tree d ≡ true → node_in own_name (items d) ≡ None → Rebuilt d text

-- each has at most 65,536 bytes
abbrev pub AreSmall : List (List ℕ) → Type 0
AreSmall [] = Unit {0}
AreSmall (p ∷ ps) = (length p ≤ 65536) × AreSmall ps

abbrev pub joined : List (List ℕ) → List ℕ
joined [] = []
joined (p ∷ ps) = p ++ joined ps

-- The pieces of a file: in order they are its bytes, and none is too large. A file that isn't empty has no empty piece, and an empty one has one.
pub record PiecesLaw : Type 0 where
  pub whole : (bytes : List ℕ) → joined (pieces bytes) ≡ bytes
  pub small : (bytes : List ℕ) → AreSmall (pieces bytes)
  pub few : (bytes : List ℕ) → 0 < length bytes → length (pieces bytes) * 65536 < length bytes + 65536
  pub empty : pieces [] ≡ [] ∷ []
