use Rattle.std.proofs.Common.{◌≡◌}
use Rattle.zi_feed.proofs.along.shared.Given as goal

abbrev pub invariant-loop-command : goal.invariant-loop-command
invariant-loop-command l = l.out ≡ l.yielded
