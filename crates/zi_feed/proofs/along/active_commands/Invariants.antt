use Rattle.std.proofs.Common.{◌≡◌, map}
use Rattle.zi_feed.specs.Active.{active_command}
use Rattle.zi_feed.proofs.along.active_commands.Given as goal

abbrev pub invariant-loop-command : goal.invariant-loop-command
invariant-loop-command l = l.kept ≡ map (active_command l.policy) l.yielded
