use Rattle.std.proofs.Common.{◌≡◌, take, false}
use Rattle.std.specs.List.{list_any}
use Rattle.zi_feed.specs.Impls.{is_run}
use Rattle.zi_feed.proofs.along.has_run.Given as goal

abbrev pub invariant-loop-command : goal.invariant-loop-command
invariant-loop-command l = list_any is_run (take l.command-index l.commands) ≡ false
