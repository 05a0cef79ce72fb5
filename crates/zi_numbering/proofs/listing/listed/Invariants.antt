use Rattle.std.proofs.Common.{map, take}
use Rattle.zi_choice.specs.Traces.{as_place}
use Rattle.zi_numbering.specs.Listing.{AreListed}
use Rattle.zi_numbering.proofs.listing.listed.Given as goal

abbrev pub invariant-loop-p : goal.invariant-loop-p
invariant-loop-p l = AreListed l.interfaces (map as_place (take l.p-index l.places)) l.marks.items
