use Rattle.std.proofs.Common.{◌∙◌, ◌<◌, length, arith}
use Rattle.zi_formula.specs.Lent.{shows}
use Rattle.zi_sat.specs.Trail.{known_from}
use Rattle.zi_sat.proofs.CiteLaws.{went_more}
use Rattle.zi_sat.proofs.MoveLaws.{longer, added_more}
use Rattle.zi_sat.proofs.watches.exhaust.Goals as goal

pub loop-c-smaller : goal.loop-c-smaller
loop-c-smaller c =
    let w = rw c.if-branch.false at c.in_ok-take_constraint.ensures.came in
    let l : length c.loop-c.t.entries < length c.take_constraint.new.t.entries = longer c.loop-c.t.entries c.take_constraint.new.t.entries c.args.hint w.0 w.1 w.2 in
    omega (arith, l, c.are_new-in-loop-c.ensures.few, c.take_constraint.ensures.variables)

pub loop-c-preserved : goal.loop-c-preserved
loop-c-preserved c =
    let w = rw c.if-branch.false at c.in_ok-take_constraint.ensures.came in
    let i = c.loop-c.invariant in (
      c.take_constraint.ensures.variables ∙ i.0,
      c.are_new-in-loop-c.ensures.few,
      λ all e.
          let m = went_more all (known_from c.loop-c.t.entries) (shows c.args.c) c.args.hint c.loop-c.t.entries c.take_constraint.new.t.entries e w in
          added_more all c.args.t.now.entries c.loop-c.t.entries c.take_constraint.new.t.entries m.0 m.1 (i.2 all e) m.2 m.4,
    )
