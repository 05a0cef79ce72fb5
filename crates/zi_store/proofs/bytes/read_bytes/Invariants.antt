use Rattle.std.proofs.Common.{◌≡◌, ℕ, ℤ, ◌-◌, ◌+◌, Bool, List, vec_len}
use Rattle.zi_tree.specs.declared.tree.TreeNode.TheVariants.{File}
use Rattle.zi_store.specs.Keeping.{Keeps, is_reading}
use Rattle.zi_store.specs.Standing.{StandsNode}
use Rattle.zi_store.specs.Entries.{IsFront}
use Rattle.zi_store.proofs.bytes.read_bytes.Given as goal

abbrev pub invariant-loop-bytes : goal.invariant-loop-bytes
invariant-loop-bytes g l =
    Keeps is_reading (g.K.Shelf.seen l.fn.k) (g.K.Shelf.seen l.k)
    × ((all : List ℕ) (exec : Bool) (mtime : ℤ) → StandsNode ((g.K.Shelf.seen l.fn.k).honest) ((g.K.Shelf.seen l.fn.k).told) l.top l.path (File all exec mtime) → IsFront l.bytes.items all)
    × ((g.K.Shelf.seen l.k).faults ≡ (g.K.Shelf.seen l.fn.k).faults)

abbrev pub decreases-loop-bytes : goal.decreases-loop-bytes
decreases-loop-bytes g l = (l.limit + 1) - vec_len l.bytes
