use Rattle.zi_sat.specs.Trail.{known_from}
use Rattle.zi_walk.specs.Rule.{so_far}
use Rattle.zi_walk.specs.Kept.{stand_of}
use Rattle.zi_walk.proofs.OnLaws.{done_way, done_less, further_on}
use Rattle.zi_walk.proofs.kept.go_on.Goals as goal

pub returns-then-not-branch-clause-way : goal.returns-then-not-branch-clause-way
returns-then-not-branch-clause-way c =
    done_way c.args.on.now.names.now c.args.on.now.requirement.now c.args.t.now.variables c.args.t.now.entries (stand_of c.pass.new.path) c.are_new.ensures.undecided c.in_ok-blocked.ensures.way
    (stand_of c.advance.new.self) c.in_ok-advance.field-0 (rw c.in_default.is at c.in_ok-blocked.ensures.ready) c.in_ok-advance.ensures.grown c.in_ok-advance.ensures.moves

pub loop-blocked-smaller : goal.loop-blocked-smaller
loop-blocked-smaller c =
    further_on c.args.on.now.names.now (so_far c.args.on.now.names.now (known_from c.args.t.now.entries)) (stand_of c.loop-blocked.path) (stand_of c.pass.new.path) (stand_of c.advance.new.self) c.in_ok-blocked.ensures.order c.in_ok-blocked.ensures.used
    (done_less c.args.on.now.names.now c.args.on.now.requirement.now c.args.t.now.variables c.args.t.now.entries (stand_of c.pass.new.path) c.are_new.ensures.undecided c.in_ok-blocked.ensures.way
    (stand_of c.advance.new.self) c.in_ok-advance.field-0 (rw c.in_default.is at c.in_ok-blocked.ensures.ready) c.in_ok-advance.ensures.moves c.if-not-branch.false)

pub loop-blocked-preserved : goal.loop-blocked-preserved
loop-blocked-preserved c =
    done_way c.args.on.now.names.now c.args.on.now.requirement.now c.args.t.now.variables c.args.t.now.entries (stand_of c.pass.new.path) c.are_new.ensures.undecided c.in_ok-blocked.ensures.way
    (stand_of c.advance.new.self) c.in_ok-advance.field-0 (rw c.in_default.is at c.in_ok-blocked.ensures.ready) c.in_ok-advance.ensures.grown c.in_ok-advance.ensures.moves
