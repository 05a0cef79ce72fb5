use Rattle.std.proofs.Common.{List, length, sym, ap, subst, arith}
use Rattle.zi_proof.specs.declared.proof.Lemma.{Lemma}
use Rattle.zi_sat.specs.Fresh.{Filled}
use Rattle.zi_solve.proofs.EndLaws.{needed, nothing_taken, few_constraints}
use Rattle.choice_rows.proofs.deciding.run_walk.Goals as goal

pub run-requires-clause-needs : goal.run-requires-clause-needs
run-requires-clause-needs c =
    needed c.args.universe.now c.args.req.now c.args.search.now.formula c.requires.formula c.in_ok-walk.walk c.in_ok-walk.ensures

pub run-requires-clause-taken : goal.run-requires-clause-taken
run-requires-clause-taken c =
    nothing_taken c.args.universe.now c.args.req.now c.args.search.now.formula c.requires.formula c.in_ok-walk.walk c.in_ok-walk.ensures

pub run-requires-clause-bound : goal.run-requires-clause-bound
run-requires-clause-bound c = omega (arith, ap length c.requires.empty_log)

pub run-requires-clause-filled : goal.run-requires-clause-filled
run-requires-clause-filled c = subst (λ (ms : List Lemma). Filled ms) (sym c.requires.empty_log) tt

pub run-requires-clause-few : goal.run-requires-clause-few
run-requires-clause-few c =
    few_constraints c.args.universe.now c.args.req.now c.args.search.now.formula c.requires.formula 100 c.requires.few (grind arith)
