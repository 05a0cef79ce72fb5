use Rattle.zi_showing.specs.Text.{command_line}
use Rattle.zi_showing.proofs.PieceLaws.{item_more}
use Rattle.zi_showing.proofs.lines.put_commands.Goals as goal

pub loop-command-preserved : goal.loop-command-preserved
loop-command-preserved c =
    item_more (command_line c.args.level) c.args.text.now.items c.loop-command.text.items c.put_command.new.text.items c.args.commands.now c.loop-command.command-index c.command-item.result c.command-item.result
    c.loop-command-test.true c.command-item.is c.loop-command.invariant c.in_ok-put_command.ensures
