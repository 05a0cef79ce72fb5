use Rattle.std.proofs.Common.{◌≡◌, length}
use Rattle.zi_solve.proofs.AddLaws.{PlacesLeft}
use Rattle.zi_solve.proofs.blocks.blocks_of.Given as goal

abbrev pub invariant-loop-k : goal.invariant-loop-k
invariant-loop-k l = record {
  left : PlacesLeft l.on l.places l.k l.made.before.items l.made.blocks;
  same : length l.marks ≡ length l.initial.marks;
}
