use Rattle.std.specs.Ordering.{nat_cmp}
use Rattle.std.specs.Cmp.Lexicographic.{slice_cmp}
use Rattle.std.specs.BTreeSet as tree
use Rattle.zi_sels.proofs.ClosedLaws.{Fresh}
use Rattle.zi_sels.proofs.closed.first_twice.Given as goal

abbrev pub invariant-loop-item : goal.invariant-loop-item
invariant-loop-item l = Fresh (λ q. tree.contains (λ x y. slice_cmp nat_cmp x.now y.now) l.seen q) l.items l.item-index
