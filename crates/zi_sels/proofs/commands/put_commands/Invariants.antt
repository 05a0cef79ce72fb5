use Rattle.std.proofs.Common.{map, take}
use Rattle.zi_sels.specs.Written.{command_elem}
use Rattle.zi_docout.specs.Elements.{Adds}
use Rattle.zi_sels.proofs.commands.put_commands.Given as goal

abbrev pub invariant-loop-command : goal.invariant-loop-command
invariant-loop-command l = Adds l.initial.children l.children (map command_elem (take l.command-index l.commands))
