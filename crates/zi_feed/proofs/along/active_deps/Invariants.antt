use Rattle.std.proofs.Common.{◌≡◌}
use Rattle.zi_feed.specs.Active.{active_deps}
use Rattle.zi_feed.proofs.along.active_deps.Given as goal

abbrev pub invariant-loop-dep : goal.invariant-loop-dep
invariant-loop-dep l = l.kept ≡ active_deps l.policy l.yielded
