use Rattle.std.proofs.Common.{◌≡◌, take}
use Rattle.zi_tree.specs.Paths.{items}
use Rattle.zi_shelf.proofs.ReadingLemmas.{listed}
use Rattle.zi_memory.proofs.reading.listing_of.Given as goal

abbrev pub invariant-loop-i : goal.invariant-loop-i
invariant-loop-i l = l.entries ≡ take l.i (listed (items l.folder))
