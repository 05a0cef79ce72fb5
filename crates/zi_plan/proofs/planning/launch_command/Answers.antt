use Rattle.zi_plan.proofs.PlanLaws.{command_lacking, command_from, asked_is}
use Rattle.zi_plan.proofs.planning.launch_command.Goals as goal

pub returns-in_ok-copy-in-None : goal.returns-in_ok-copy-in-None
returns-in_ok-copy-in-None c =
    command_lacking c.args.table.now c.args.shims.now c.args.vars.now c.args.user.now c.args.selections.now.interface c.args.selections.now.command c.in-None.is
    c.in_ok-copy-in-None.field-0 c.new.result c.in_ok-copy-in-None.ensures c.new.ensures

pub returns-in-Some : goal.returns-in-Some
returns-in-Some c =
    command_from c.args.table.now c.args.shims.now c.args.vars.now c.args.user.now c.args.selections.now.interface c.args.selections.now.command c.in-Some.command c.in-Some.is
    (record { interface = c.as_str.result.now; command = c.as_str-in-Some.result.now }) (asked_is _ _ _ _ c.as_str.ensures c.as_str-in-Some.ensures) c.launch_from.result c.launch_from.ensures
