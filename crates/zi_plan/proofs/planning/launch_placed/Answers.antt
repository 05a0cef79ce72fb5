use Rattle.zi_plan.proofs.planning.launch_placed.Goals as goal

pub returns-in-Ok : goal.returns-in-Ok
returns-in-Ok c = rw c.in-Ok.ensures at c.launch_command.ensures
