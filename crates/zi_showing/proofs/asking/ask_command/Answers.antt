use Rattle.zi_showing.specs.Steps.{asked_in}
use Rattle.zi_showing.proofs.PieceLaws.{command_put}
use Rattle.zi_showing.proofs.asking.ask_command.Goals as goal

pub returns : goal.returns
returns c =
    command_put c.args.level c.args.command.now (asked_in c.args.pending.now.items) (asked_in c.ask_runner.new.pending.items) (asked_in c.ask_deps.new.pending.items) c.ask_deps.result
    c.in_ok-ask_runner.ensures (rw c.as_slice.ensures at c.ask_deps.ensures)
