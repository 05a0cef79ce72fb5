use Rattle.zi_certificate.proofs.Certified.{refutes_when, refuted_is_none}
use Rattle.zi_check.proofs.checking.check_none.Goals as goal

pub returns-clause-value : goal.returns-clause-value
returns-clause-value c = refutes_when c.args.u.now c.args.req.now c.args.p.now c.in_ok-f.f c.check-is_refuted.result c.in_ok-f.ensures.is c.check-is_refuted.ensures.value

pub returns-clause-none : goal.returns-clause-none
returns-clause-none c =
    λ yes. refuted_is_none c.args.u.now c.args.req.now c.args.p.now ((refutes_when c.args.u.now c.args.req.now c.args.p.now c.in_ok-f.f c.check-is_refuted.result c.in_ok-f.ensures.is c.check-is_refuted.ensures.value).0 yes)
