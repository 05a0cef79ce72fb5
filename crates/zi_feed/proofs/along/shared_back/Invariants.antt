use Rattle.std.proofs.Common.{◌≡◌, ◌≤◌, length, reverse}
use Rattle.zi_feed.proofs.LatestLaws.{rest}
use Rattle.zi_feed.proofs.along.shared_back.Given as goal

abbrev pub invariant-loop-left : goal.invariant-loop-left
invariant-loop-left l = record {
  within : l.left ≤ length l.commands;
  copied : l.out ≡ reverse (rest l.commands l.left);
}

abbrev pub decreases-loop-left : goal.decreases-loop-left
decreases-loop-left l = l.left
