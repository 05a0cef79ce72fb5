use Rattle.std.proofs.Common.{length, subst, sym, ap, arith, ◌∙◌, List}
use Rattle.zi_proof.specs.declared.proof.Proof.{Proof}
use Rattle.zi_proof.specs.declared.proof.Lemma.{Lemma}
use Rattle.zi_sat.specs.Fresh.{Filled}
use Rattle.zi_solve.proofs.seeking.seek.Goals as goal

pub limit_of-limit-requires : goal.limit_of-limit-requires
limit_of-limit-requires c = omega (arith, ap length (ap (λ (p : Proof). p.lemmas) c.log.ensures ∙ c.requires.empty_log))

pub walk_turn-requires-clause-bound : goal.walk_turn-requires-clause-bound
walk_turn-requires-clause-bound c = omega (arith, ap length c.requires.empty_log)

pub walk_turn-requires-clause-filled : goal.walk_turn-requires-clause-filled
walk_turn-requires-clause-filled c = subst (λ (ms : List Lemma). Filled ms) (sym c.requires.empty_log) tt

pub take_turns-requires-clause-between : goal.take_turns-requires-clause-between
take_turns-requires-clause-between c = rw c.in-None.is at c.in_ok-found.ensures.turn

pub returns-in-Some-clause-end : goal.returns-in-Some-clause-end
returns-in-Some-clause-end c = rw c.in-Some.is at c.in_ok-found.ensures.turn
