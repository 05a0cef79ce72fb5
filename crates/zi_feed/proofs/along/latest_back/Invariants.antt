use Rattle.std.proofs.Common.{◌≡◌, ◌≤◌, List, ℕ, length, map, reverse, Bor}
use Rattle.std.specs.Ordering.{nat_cmp}
use Rattle.std.specs.Cmp.Lexicographic.{slice_cmp}
use Rattle.std.specs.BTreeSet as tree
use Rattle.zi_reading.specs.Words.{latest}
use Rattle.zi_feed.specs.Impls.{are_alike}
use Rattle.zi_feed.proofs.LatestLaws.{rest, is_named_in}
use Rattle.zi_feed.proofs.along.latest_back.Given as goal

abbrev pub invariant-loop-left : goal.invariant-loop-left
invariant-loop-left l = record {
  within : l.left ≤ length l.commands;
  told : (q : Bor (List ℕ)) → tree.contains (λ x y. slice_cmp nat_cmp x.now y.now) l.names q ≡ is_named_in (rest l.commands l.left) q.now;
  latest_kept : reverse (map (λ r. r.now) l.kept.items) ≡ latest are_alike (rest l.commands l.left);
}

abbrev pub decreases-loop-left : goal.decreases-loop-left
decreases-loop-left l = l.left
