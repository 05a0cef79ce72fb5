use Rattle.zi_formula.specs.declared.formula.Constraint.TheVariants.{Clause}
use Rattle.std.proofs.Common.{◌∙◌, ◌<◌, length, arith}
use Rattle.zi_sat.specs.Trail.{known_from}
use Rattle.zi_sat.proofs.CiteLaws.{went_more}
use Rattle.zi_sat.proofs.MoveLaws.{longer, added_more}
use Rattle.zi_sat.proofs.watches.exhaust_clause.Goals as goal

pub loop-t-smaller : goal.loop-t-smaller
loop-t-smaller c =
    let w = rw c.if-branch.false at c.in_ok-take_clause.ensures.came in
    let l : length c.loop-t.t.entries < length c.take_clause.new.t.entries = longer c.loop-t.t.entries c.take_clause.new.t.entries c.args.hint w.0 w.1 w.2 in
    omega (arith, l, c.are_new-in-loop-t.ensures.few, c.take_clause.ensures.variables)

pub loop-t-preserved : goal.loop-t-preserved
loop-t-preserved c =
    let w = rw c.if-branch.false at c.in_ok-take_clause.ensures.came in
    let i = c.loop-t.invariant in (
      c.take_clause.ensures.variables ∙ i.0,
      c.are_new-in-loop-t.ensures.few,
      λ all e.
          let m = went_more all (known_from c.loop-t.t.entries) (Clause c.args.lits.now) c.args.hint c.loop-t.t.entries c.take_clause.new.t.entries e w in
          added_more all c.args.t.now.entries c.loop-t.t.entries c.take_clause.new.t.entries m.0 m.1 (i.2 all e) m.2 m.4,
    )
