use Rattle.std.proofs.Common.{map}
use Rattle.zi_plan.specs.Launches.{of_command}
use Rattle.zi_plan.specs.Steps.{placed_seen, bound_seen}
use Rattle.zi_plan.proofs.BindingLaws.{put_more, put_end}
use Rattle.zi_plan.proofs.binding.put_commands.Goals as goal

pub loop-command-preserved : goal.loop-command-preserved
loop-command-preserved c =
    put_more (of_command c.args.table.now (placed_seen c.args.x)) c.args.commands.now c.loop-command.command-index c.command-item.result (map bound_seen c.args.out.now.items) (map bound_seen c.loop-command.out.items) (map bound_seen c.put_command.new.out.items)
    c.loop-command-test.true c.command-item.is c.loop-command.invariant c.in_ok-put_command.ensures

pub returns : goal.returns
returns c =
    put_end (of_command c.args.table.now (placed_seen c.args.x)) c.args.commands.now c.loop-command.command-index (map bound_seen c.args.out.now.items) (map bound_seen c.loop-command.out.items) c.loop-command-test.false c.loop-command.invariant
