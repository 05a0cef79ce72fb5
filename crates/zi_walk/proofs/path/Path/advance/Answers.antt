use Rattle.std.proofs.Common.{subst, true}
use Rattle.zi_walk.specs.Kept.{stand_of, Steps, Does}
use Rattle.zi_walk.proofs.StepLaws.{with_lists}
use Rattle.zi_walk.proofs.PathLaws.{HasFirst, step_moves, step_grown, step_moved, moved_moves}
use Rattle.zi_walk.proofs.path.Path.advance.Goals as goal

pub returns-then-branch-clause-grown : goal.returns-then-branch-clause-grown
returns-then-branch-clause-grown c = step_grown c.args.names.now (stand_of c.args.self.now) (stand_of c.loop-task.self) (stand_of c.step.new.self) c.in-Some.later c.loop-task.invariant c.in_ok-step.ensures.grown

pub returns-then-branch-clause-moves : goal.returns-then-branch-clause-moves
returns-then-branch-clause-moves c =
    let y = stand_of c.loop-task.self in
    let f : HasFirst y c.in-Some.task c.in-Some.later = record { is = c.in-Some.ensures.some.0; there = c.in-Some.ensures.some.1 } in
    let t = c.if-branch.true in
    let s = c.in_ok-step.ensures.steps in
    step_moves c.args.names.now (stand_of c.args.self.now) y (stand_of c.step.new.self) c.in-Some.task c.in-Some.later true c.loop-task.invariant f (subst (Steps c.args.names.now (λ s. Does c.args.names.now s c.in-Some.task) (with_lists y y.lists c.in-Some.later) (stand_of c.step.new.self)) t s)

pub loop-task-preserved : goal.loop-task-preserved
loop-task-preserved c =
    let y = stand_of c.loop-task.self in
    let f : HasFirst y c.in-Some.task c.in-Some.later = record { is = c.in-Some.ensures.some.0; there = c.in-Some.ensures.some.1 } in
    let t = c.if-branch.false in
    let s = c.in_ok-step.ensures.steps in
    step_moved c.args.names.now (stand_of c.args.self.now) y (stand_of c.step.new.self) c.in-Some.task c.in-Some.later c.loop-task.invariant f c.in_ok-step.ensures.grown (subst (Steps c.args.names.now (λ s. Does c.args.names.now s c.in-Some.task) (with_lists y y.lists c.in-Some.later) (stand_of c.step.new.self)) t s) (c.in_ok-step.ensures.old t).1

pub returns-clause-moves : goal.returns-clause-moves
returns-clause-moves c = moved_moves c.args.names.now (stand_of c.args.self.now) (stand_of c.loop-task.self) c.loop-task.invariant
