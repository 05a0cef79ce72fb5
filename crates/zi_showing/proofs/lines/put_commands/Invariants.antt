use Rattle.std.proofs.Common.{◌≡◌, ◌++◌, take, flat_map}
use Rattle.zi_showing.specs.Text.{command_line}
use Rattle.zi_showing.proofs.lines.put_commands.Given as goal

abbrev pub invariant-loop-command : goal.invariant-loop-command
invariant-loop-command l = l.text.items ≡ l.initial.text.items ++ flat_map (command_line l.level) (take l.command-index l.commands)
