use Rattle.std.proofs.Common.{◌≡◌, drop}
use Rattle.std.specs.List.{flat_map}
use Rattle.zi_universe.specs.Candidates.{asked_by_command}
use Rattle.zi_universe.specs.Naming.{joined}
use Rattle.zi_universe.proofs.naming.add_commands.Given as goal

abbrev pub invariant-loop-command : goal.invariant-loop-command
invariant-loop-command l = joined l.names.keys (flat_map asked_by_command (drop l.command-index l.commands)) ≡ joined l.fn.names.keys (flat_map asked_by_command l.commands)
