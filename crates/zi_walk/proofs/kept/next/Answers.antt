use Rattle.zi_walk.specs.Kept.{stand_of}
use Rattle.zi_walk.proofs.OnLaws.{picked_open, picked_least}
use Rattle.zi_walk.proofs.kept.next.Goals as goal

pub returns-in-Some-Open-clause-picked : goal.returns-in-Some-Open-clause-picked
returns-in-Some-Open-clause-picked c =
    picked_open c.args.on.now.names.now c.args.on.now.requirement.now c.args.t.now.variables c.args.t.now.entries (stand_of c.go_on.new.path) c.are_new.ensures.undecided c.in_ok-l.ensures.way
    c.in_ok-l.field-0 c.in-Some-Open.field-0 c.in-Some-Open.l c.in-Some-Open.is c.in-Some-Open.field-0-is c.in_ok-l.ensures.blocked

pub returns-in-None-clause-picked : goal.returns-in-None-clause-picked
returns-in-None-clause-picked c =
    picked_least c.args.on.now.names.now c.args.on.now.requirement.now c.args.t.now.variables c.args.t.now.entries (stand_of c.go_on.new.path) c.are_new.ensures.undecided c.in_ok-l.ensures.way
    c.least.result (rw c.in-None.is at c.in_ok-l.ensures.done) c.least.ensures.is c.least.ensures.undecided c.least.ensures.none
