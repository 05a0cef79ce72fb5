-- A front of the arguments was added.
use Rattle.std.proofs.Common.{take}
use Rattle.zi_edge.specs.Commands.{AddsArgs}
use Rattle.zi_edge.proofs.child_spawner.add_args.Given as goal

abbrev pub invariant-loop-arg : goal.invariant-loop-arg
invariant-loop-arg l = AddsArgs l.fn.command (take l.arg-index l.args) l.command
