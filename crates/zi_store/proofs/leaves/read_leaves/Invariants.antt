use Rattle.std.proofs.Common.{◌≡◌, Bool, true, drop}
use Rattle.zi_tree.specs.Dir.{Dir}
use Rattle.zi_tree.specs.Order.{is_tree}
use Rattle.zi_manifest.specs.Walk.{shown}
use Rattle.zi_store.specs.Keeping.{Keeps, is_reading}
use Rattle.zi_store.specs.Standing.{Stands}
use Rattle.zi_store.specs.Entries.{entries_of}
use Rattle.zi_store.proofs.LoopLemmas.{ReadTo}
use Rattle.zi_store.proofs.leaves.read_leaves.Given as goal

abbrev pub invariant-loop-entry : goal.invariant-loop-entry
invariant-loop-entry g l =
    Keeps is_reading (g.K.Shelf.seen l.fn.k) (g.K.Shelf.seen l.k)
    × ((whole : Bool) (d : Dir) → Stands ((g.K.Shelf.seen l.fn.k).honest) ((g.K.Shelf.seen l.fn.k).told) l.top l.path d → is_tree d ≡ true → l.entries ≡ entries_of (shown whole d)
    → ReadTo (shown whole d) (drop l.entry-index l.entries) l.tree l.fn.counts.nodes l.fn.counts.bytes l.counts.nodes l.counts.bytes)
    × ((g.K.Shelf.seen l.k).faults ≡ (g.K.Shelf.seen l.fn.k).faults)
