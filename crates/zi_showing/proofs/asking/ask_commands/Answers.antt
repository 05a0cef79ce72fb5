use Rattle.std.proofs.Common.{◌-◌, refl, arith}
use Rattle.zi_universe.specs.Candidates.{asked_by_command}
use Rattle.zi_showing.specs.Steps.{asked_in}
use Rattle.zi_showing.proofs.PieceLaws.{asks_none, asks_more, asks_all, asked_by_commands, command_next}
use Rattle.zi_showing.proofs.asking.ask_commands.Goals as goal

pub loop-n-init : goal.loop-n-init
loop-n-init c = asks_none asked_by_commands asked_by_command command_next c.args.level c.args.commands.now (asked_in c.args.pending.now.items) refl

pub loop-n-preserved : goal.loop-n-preserved
loop-n-preserved c =
    asks_more asked_by_commands asked_by_command command_next c.args.level c.args.commands.now (c.loop-n.n - 1) c.loop-n.n c.index-commands-n.result (asked_in c.args.pending.now.items) (asked_in c.loop-n.pending.items) (asked_in c.ask_command.new.pending.items)
    (omega arith) (omega arith) c.index-commands-n.is c.in_ok-ask_command.ensures c.loop-n.invariant

pub returns : goal.returns
returns c = asks_all asked_by_commands asked_by_command command_next c.args.level c.args.commands.now c.loop-n.n (asked_in c.args.pending.now.items) (asked_in c.loop-n.pending.items) (omega arith) c.loop-n.invariant
