use Rattle.zi_check.specs.Parts.{IsCandidateMet}
use Rattle.zi_check.proofs.ValidLaws.{below_none, below_more, below_fails, below_holds}
use Rattle.zi_check.proofs.validity.are_candidates_met.Goals as goal

pub loop-i-init : goal.loop-i-init
loop-i-init c = below_none (IsCandidateMet c.args.on.now)

pub returns-then-not-is_candidate_met : goal.returns-then-not-is_candidate_met
returns-then-not-is_candidate_met c =
    below_fails (IsCandidateMet c.args.on.now) c.args.interfaces c.loop-i.i c.is_candidate_met.result c.loop-i-test.true c.is_candidate_met.ensures c.if-not-is_candidate_met.true

pub loop-i-preserved : goal.loop-i-preserved
loop-i-preserved c =
    below_more (IsCandidateMet c.args.on.now) c.loop-i.i c.is_candidate_met.result c.loop-i.invariant c.is_candidate_met.ensures c.if-not-is_candidate_met.false

pub returns : goal.returns
returns c = below_holds (IsCandidateMet c.args.on.now) c.args.interfaces c.loop-i.i c.loop-i.invariant c.loop-i-test.false
