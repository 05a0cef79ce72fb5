use Rattle.std.proofs.Common.{◌≡◌, ◌+◌, ◌-◌, ◌*◌, Bool, true, drop}
use Rattle.zi_tree.specs.Dir.{Dir}
use Rattle.zi_tree.specs.Order.{is_tree}
use Rattle.zi_manifest.specs.Walk.{shown}
use Rattle.zi_store.specs.Keeping.{Keeps, is_reading}
use Rattle.zi_store.specs.Standing.{Stands}
use Rattle.zi_store.specs.Entries.{entries_of}
use Rattle.zi_store.proofs.LoopLemmas.{FilledTo}
use Rattle.zi_store.proofs.folder.+folders.Given as goal

abbrev pub decreases-read_folder : goal.decreases-read_folder
decreases-read_folder g l = 3 * (65 - l.depth) + 2

abbrev pub decreases-read_inner : goal.decreases-read_inner
decreases-read_inner g l = 3 * (65 - l.depth) + 1

abbrev pub decreases-read_deeper : goal.decreases-read_deeper
decreases-read_deeper g l = 3 * (65 - l.depth) + 3

abbrev pub invariant-read_folder-loop-entry : goal.invariant-read_folder-loop-entry
invariant-read_folder-loop-entry g l =
    Keeps is_reading (g.K.Shelf.seen l.fn.k) (g.K.Shelf.seen l.k)
    × ((whole : Bool) (d : Dir) → Stands ((g.K.Shelf.seen l.fn.k).honest) ((g.K.Shelf.seen l.fn.k).told) l.top l.path d → is_tree d ≡ true → l.entries ≡ entries_of (shown whole d)
    → FilledTo l.depth (shown whole d) (drop l.entry-index l.entries) l.tree l.fn.counts.nodes l.fn.counts.bytes l.counts.nodes l.counts.bytes)
    × ((g.K.Shelf.seen l.k).faults ≡ (g.K.Shelf.seen l.fn.k).faults)
