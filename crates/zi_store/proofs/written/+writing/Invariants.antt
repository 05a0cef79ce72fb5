use Rattle.std.proofs.Common.{◌≡◌, ◌+◌, ◌-◌, ◌*◌, Bool, true, drop}
use Rattle.zi_tree.specs.Dir.{Dir}
use Rattle.zi_tree.specs.Order.{is_tree}
use Rattle.zi_manifest.specs.Walk.{shown}
use Rattle.zi_store.specs.Keeping.{Keeps, is_reading}
use Rattle.zi_store.specs.Standing.{Stands}
use Rattle.zi_store.specs.Entries.{entries_of}
use Rattle.zi_store.proofs.WritingLemmas.{FoldersTo}
use Rattle.zi_store.proofs.SomeTreeLemmas.{AddsSoFar}
use Rattle.zi_store.proofs.written.+writing.Given as goal

abbrev pub decreases-write_folder : goal.decreases-write_folder
decreases-write_folder g l = 3 * (65 - l.at.depth) + 2

abbrev pub decreases-write_inner : goal.decreases-write_inner
decreases-write_inner g l = 3 * (65 - l.at.depth) + 1

abbrev pub decreases-write_deeper : goal.decreases-write_deeper
decreases-write_deeper g l = 3 * (65 - l.at.depth) + 3

abbrev pub invariant-write_folder-loop-entry : goal.invariant-write_folder-loop-entry
invariant-write_folder-loop-entry g l =
    Keeps is_reading (g.K.Shelf.seen l.fn.k) (g.K.Shelf.seen l.k)
    × ((whole : Bool) (d : Dir) → Stands ((g.K.Shelf.seen l.fn.k).honest) ((g.K.Shelf.seen l.fn.k).told) l.at.top.now l.at.path.now d → is_tree d ≡ true → l.entries ≡ entries_of (shown whole d)
    → FoldersTo l.a l.at.text.now l.at.depth (shown whole d) (drop l.entry-index l.entries) l.fn.written l.written)
    × ((g.K.Shelf.seen l.k).faults ≡ (g.K.Shelf.seen l.fn.k).faults)
    × AddsSoFar l.a l.at.text.now l.fn.written l.written
