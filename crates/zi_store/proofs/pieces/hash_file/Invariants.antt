use Rattle.std.proofs.Common.{◌≡◌, ℕ, ℤ, ◌-◌, ◌+◌, Bool, List, length}
use Rattle.zi_digest.specs.Taken.{HasTaken}
use Rattle.zi_tree.specs.declared.tree.TreeNode.TheVariants.{File}
use Rattle.zi_store.specs.Keeping.{Keeps, is_reading}
use Rattle.zi_store.specs.Standing.{StandsNode}
use Rattle.zi_store.specs.Entries.{IsFront}
use Rattle.zi_store.proofs.pieces.hash_file.Given as goal

abbrev pub invariant-loop-size : goal.invariant-loop-size
invariant-loop-size g l =
    Keeps is_reading (g.K.Shelf.seen l.fn.k) (g.K.Shelf.seen l.k)
    × ((all : List ℕ) (exec : Bool) (mtime : ℤ) → StandsNode ((g.K.Shelf.seen l.fn.k).honest) ((g.K.Shelf.seen l.fn.k).told) l.top l.path (File all exec mtime)
    → (front : List ℕ) × IsFront front all × HasTaken l.hasher l.fn.a front × (l.size ≡ length front))
    × ((g.K.Shelf.seen l.k).faults ≡ (g.K.Shelf.seen l.fn.k).faults)
    × ((front : List ℕ) × HasTaken l.hasher l.fn.a front × (l.size ≡ length front))

abbrev pub decreases-loop-size : goal.decreases-loop-size
decreases-loop-size g l = (l.limit + 1) - l.size
