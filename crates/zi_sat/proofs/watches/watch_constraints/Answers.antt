use Rattle.std.proofs.Common.{◌∙◌, ◌+◌, length, sym, ap, subst, arith}
use Rattle.std.proofs.lemmas.List.{append-nil}
use Rattle.zi_formula.specs.Lent.{shows}
use Rattle.zi_proof.proofs.Cites.{within_at}
use Rattle.zi_sat.specs.Guard.{AllHeld}
use Rattle.zi_sat.proofs.AddLaws.{start_held, next_held, take_all, added_len}
use Rattle.zi_sat.proofs.GuardLaws.{once_at}
use Rattle.zi_sat.proofs.watches.watch_constraints.Goals as goal

pub add_constraint-requires-clause-within : goal.add_constraint-requires-clause-within
add_constraint-requires-clause-within c =
    within_at c.args.f.now.variables c.args.f.now.constraints c.loop-i.i (shows c.at.result) c.requires.within c.at.ensures

pub add_constraint-requires-clause-once : goal.add_constraint-requires-clause-once
add_constraint-requires-clause-once c =
    once_at c.args.f.now.constraints c.loop-i.i (shows c.at.result) c.requires.once c.at.ensures

pub loop-i-preserved : goal.loop-i-preserved
loop-i-preserved c =
    let i = c.loop-i.invariant in
    let a = c.in_ok-add_constraint.ensures.adds in
    (c.add_constraint.ensures.seen ∙ i.0, added_len c.loop-i.w c.add_constraint.new.w (shows c.at.result) a ∙ ap (λ n. n + 1) i.1, omega (arith, i.2, c.add_constraint.ensures.len), next_held c.loop-i.w c.add_constraint.new.w c.args.f.now.constraints c.loop-i.i (shows c.at.result) c.at.ensures i.1 a i.3)

pub returns-clause-fitting : goal.returns-clause-fitting
returns-clause-fitting c =
    let i = c.loop-i.invariant in
    let e = c.len-i-end.ensures in
    let same = take_all c.args.f.now.constraints c.loop-i.i (omega (arith, c.loop-i-test.false, e)) ∙ sym (append-nil c.args.f.now.constraints) in
    let z = c.loop-i.auto.i-end in
    (subst (AllHeld c.loop-i.w) same i.3, omega (arith, i.1, c.loop-i-test.false, e, z), i.2)

pub loop-i-init : goal.loop-i-init
loop-i-init c =
    (c.in_ok-w.ensures.seen, ap length c.in_ok-w.ensures.pairs, c.in_ok-w.ensures.rows, start_held c.in_ok-w.w c.args.f.now.constraints c.in_ok-w.ensures.none)
