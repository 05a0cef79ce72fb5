use Rattle.std.proofs.Common.{◌≤◌, length, subst, sym}
use Rattle.zi_proof.specs.declared.proof.Proof.{Proof}
use Rattle.zi_solve.proofs.seeking.turn.Goals as goal

pub limit_of-limit-requires : goal.limit_of-limit-requires
limit_of-limit-requires c = subst (λ (p : Proof). length p.lemmas ≤ c.args.budget) (sym c.log.ensures) c.requires.between.bound

pub walk_turn-requires-clause-bound : goal.walk_turn-requires-clause-bound
walk_turn-requires-clause-bound c = subst (λ (p : Proof). length p.lemmas ≤ c.limit_of-limit.result) c.log.ensures c.limit_of-limit.ensures.low
