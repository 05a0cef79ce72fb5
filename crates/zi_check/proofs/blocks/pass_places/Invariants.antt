use Rattle.std.proofs.Common.{◌≡◌, length}
use Rattle.zi_check.proofs.TakeLaws.{PlacesAlike}
use Rattle.zi_check.proofs.blocks.pass_places.Given as goal

abbrev pub invariant-loop-k : goal.invariant-loop-k
invariant-loop-k l = record {
  alike : PlacesAlike l.on l.places l.k l.before.items l.next;
  same : length l.marks ≡ length l.initial.marks;
}
