use Rattle.std.proofs.Common.{◌≡◌, ◌<◌, false, refl, nat_eq, length, get_or, arith, rules, sym, ◌∙◌, subst, add-one, suc}
use Rattle.zi_store.proofs.LineLemmas.{SameSoFar, found_line, differ_at, ended, one_ended, step_newline, step_other}
use Rattle.zi_store.proofs.difference.first_difference.Goals as goal
use Rattle.zi_store.proofs.difference.first_difference.Goals.{then-a-i-eq10, else-a-i-eq10}

pub returns-then-a-i : goal.returns-then-a-i
returns-then-a-i c =
    found_line c.args.a.now c.args.b.now c.loop-i.i c.loop-i.line c.loop-i.invariant
    (differ_at c.args.a.now c.args.b.now c.loop-i.i (omega (arith, c.min-both.ensures, c.loop-i-test.true)) (omega (arith, c.min-both.ensures, c.loop-i-test.true)) (search rules))

pub loop-i-preserved : goal.loop-i-preserved
loop-i-preserved c =
    let at_a : c.loop-i.i < length c.args.a.now = omega (arith, c.min-both.ensures, c.loop-i-test.true) in
    let at_b : c.loop-i.i < length c.args.b.now = omega (arith, c.min-both.ensures, c.loop-i-test.true) in
    let same : get_or c.args.b.now c.loop-i.i 0 ≡ get_or c.args.a.now c.loop-i.i 0 = omega (arith, c.if-a-i.false) in
    subst (λ i. SameSoFar c.args.a.now c.args.b.now i c.if-a-i-eq10.line) (sym (add-one c.loop-i.i)) (elim c.if-a-i-eq10.branch [
      | then-a-i-eq10 w ↦
          let ten : get_or c.args.a.now c.loop-i.i 0 ≡ 10 = omega (arith, w.if-a-i-eq10.true) in
          subst (λ n. SameSoFar c.args.a.now c.args.b.now (suc c.loop-i.i) n) (sym w.line-is) (step_newline c.args.a.now c.args.b.now c.loop-i.i c.loop-i.line c.loop-i.invariant at_a at_b ten (same ∙ ten))
      | else-a-i-eq10 w ↦
          let other : nat_eq (get_or c.args.a.now c.loop-i.i 0) 10 ≡ false = search (rules, w.if-a-i-eq10.false) in
          subst (λ n. SameSoFar c.args.a.now c.args.b.now (suc c.loop-i.i) n) (sym w.line-is) (step_other c.args.a.now c.args.b.now c.loop-i.i c.loop-i.line (get_or c.args.a.now c.loop-i.i 0) c.loop-i.invariant at_a at_b refl same other)
    ])

pub returns-else-a-b : goal.returns-else-a-b
returns-else-a-b c =
    found_line c.args.a.now c.args.b.now c.loop-i.i c.loop-i.line c.loop-i.invariant
    (ended c.args.a.now c.args.b.now c.loop-i.i (one_ended (length c.args.a.now) (length c.args.b.now) c.loop-i.i (omega (arith, c.min-both.ensures, c.loop-i-test.false, c.loop-i.auto.i-end)) (search rules)))
