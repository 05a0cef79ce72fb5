use Rattle.std.proofs.Common.{◌≡◌, ◌<◌, ◌+◌, ◌∙◌, ap, sym, subst, arith}
use Rattle.zi_choice.specs.Tasks.{universe_of, picks_of, stops_of, Runs, size, sizes}
use Rattle.zi_choice.proofs.TaskLaws.{last_run, sizes_last}
use Rattle.zi_choice.proofs.walking.advance.Goals as goal

pub returns-then-branch-clause-moves : goal.returns-then-branch-clause-moves
returns-then-branch-clause-moves c w r =
    c.loop-task.invariant.moves w
    (subst (λ ts. Runs (universe_of c.args.on.now) (picks_of c.args.on.now) ts (stops_of c.loop-task.way) w) (sym c.in-Some.ensures.items)
    (last_run (universe_of c.args.on.now) (picks_of c.args.on.now) c.pop.new.self.items c.in-Some.task (stops_of c.loop-task.way) w (c.in_ok-step.ensures.steps w r)))

pub loop-task-smaller : goal.loop-task-smaller
loop-task-smaller c =
    let h = c.in_ok-step.ensures.old c.if-branch.false in
    let f : sizes c.loop-task.tasks.items ≡ sizes c.pop.new.self.items + size c.in-Some.task = ap sizes c.in-Some.ensures.items ∙ sizes_last c.pop.new.self.items c.in-Some.task in
    let l : sizes c.step.new.tasks.items < sizes c.loop-task.tasks.items = omega (arith, h.0, f) in
    l

pub loop-task-preserved : goal.loop-task-preserved
loop-task-preserved c = record {
  moves = λ w r. c.loop-task.invariant.moves w
      (subst (λ ts. Runs (universe_of c.args.on.now) (picks_of c.args.on.now) ts (stops_of c.loop-task.way) w) (sym c.in-Some.ensures.items)
      (last_run (universe_of c.args.on.now) (picks_of c.args.on.now) c.pop.new.self.items c.in-Some.task (stops_of c.loop-task.way) w (c.in_ok-step.ensures.steps w r)));
  same = (c.in_ok-step.ensures.old c.if-branch.false).1 ∙ c.loop-task.invariant.same;
}
