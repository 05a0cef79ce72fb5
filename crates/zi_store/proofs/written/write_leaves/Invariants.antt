use Rattle.std.proofs.Common.{◌≡◌, Bool, true, drop}
use Rattle.zi_tree.specs.Dir.{Dir}
use Rattle.zi_tree.specs.Order.{is_tree}
use Rattle.zi_manifest.specs.Walk.{shown}
use Rattle.zi_store.specs.Keeping.{Keeps, is_reading}
use Rattle.zi_store.specs.Standing.{Stands}
use Rattle.zi_store.specs.Entries.{entries_of}
use Rattle.zi_store.specs.Written.{AddsLeaves}
use Rattle.zi_store.proofs.WritingLemmas.{WrittenTo}
use Rattle.zi_store.proofs.written.write_leaves.Given as goal

abbrev pub invariant-loop-entry : goal.invariant-loop-entry
invariant-loop-entry g l =
    Keeps is_reading (g.K.Shelf.seen l.fn.k) (g.K.Shelf.seen l.k)
    × ((whole : Bool) (d : Dir) → Stands ((g.K.Shelf.seen l.fn.k).honest) ((g.K.Shelf.seen l.fn.k).told) l.at.top.now l.at.path.now d → is_tree d ≡ true → l.entries ≡ entries_of (shown whole d)
    → WrittenTo l.a l.at.text.now (shown whole d) (drop l.entry-index l.entries) l.fn.written l.written)
    × ((g.K.Shelf.seen l.k).faults ≡ (g.K.Shelf.seen l.fn.k).faults)
    × AddsLeaves l.a l.at.text.now l.fn.written l.written
