use Rattle.std.proofs.Common.{map}
use Rattle.zi_plan.specs.Steps.{wanted_seen, link_seen}
use Rattle.zi_plan.proofs.PlanLaws.{from_refused, from_launched}
use Rattle.zi_plan.proofs.planning.launch_from.Goals as goal

pub returns-in-Ok : goal.returns-in-Ok
returns-in-Ok c =
    from_launched c.args.table.now c.args.shims.now c.args.vars.now c.args.user.now (wanted_seen c.args.from) (map link_seen c.in-Ok.links.items) c.in-Ok.ensures
    c.launch_of.result (rw c.as_slice.ensures.value at c.launch_of.ensures)

pub returns-in-Err : goal.returns-in-Err
returns-in-Err c = from_refused c.args.table.now c.args.shims.now c.args.vars.now c.args.user.now (wanted_seen c.args.from) c.in-Err.fault c.in-Err.ensures
