use Rattle.std.proofs.Common.{refl}
use Rattle.zi_launching.proofs.opening.launch.Goals as goal

pub returns-in-Ok : goal.returns-in-Ok
returns-in-Ok g c = λ web out. c.in-Ok.ensures web out (g.P.Spawner.seen c.args.spawner.now) (g.P.Spawner.seen c.start.new.spawner) c.start.result c.start.ensures

pub returns-in-Err : goal.returns-in-Err
returns-in-Err g c = λ web out. c.in-Err.ensures web out (g.P.Spawner.seen c.args.spawner.now) (g.P.Spawner.seen c.args.spawner.now) c.in-Err.outcome (refl, refl)
