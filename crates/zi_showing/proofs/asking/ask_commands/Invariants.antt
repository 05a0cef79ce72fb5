use Rattle.zi_universe.specs.Candidates.{asked_by_command}
use Rattle.zi_showing.specs.Steps.{asked_in}
use Rattle.zi_showing.proofs.PieceLaws.{AsksFrom, asked_by_commands, command_next}
use Rattle.zi_showing.proofs.asking.ask_commands.Given as goal

abbrev pub invariant-loop-n : goal.invariant-loop-n
invariant-loop-n l = AsksFrom asked_by_commands asked_by_command command_next l.level l.commands l.n (asked_in l.initial.pending.items) (asked_in l.pending.items)

abbrev pub decreases-loop-n : goal.decreases-loop-n
decreases-loop-n l = l.n
