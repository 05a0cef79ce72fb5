use Rattle.zi_launching.proofs.ReadyLaws.{planned_not}
use Rattle.zi_launching.proofs.launching.planned.Goals as goal

pub returns-in-Err : goal.returns-in-Err
returns-in-Err c = planned_not c.args.sels.now c.args.vars.now c.args.user.now c.args.folders.now c.in-Err.fault c.unplanned.result c.unplanned.ensures c.args.shims.now c.in-Err.ensures
