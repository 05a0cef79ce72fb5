use Rattle.zi_choosing.proofs.CheckLemmas.{says_yes, says_no, says_none}
use Rattle.zi_choosing.proofs.checking.check_by.Goals as goal

pub returns-in-Ok-true : goal.returns-in-Ok-true
returns-in-Ok-true g c =
    says_yes c.args.universe.now c.args.req.now c.args.sels c.args.certificate.now (g.O.Sink.seen c.args.out.now) (g.O.Sink.seen c.put_text.new.out) c.put_text.result _
    c.in-Ok-true.field-0-test c.in-Ok-true.ensures c.put_text.ensures

pub returns-in-Ok-false : goal.returns-in-Ok-false
returns-in-Ok-false g c =
    says_no c.args.universe.now c.args.req.now c.args.sels c.args.certificate.now (g.O.Sink.seen c.args.out.now) _
    c.in-Ok-false.field-0-test c.in-Ok-false.ensures

pub returns-in-Err : goal.returns-in-Err
returns-in-Err g c =
    says_none c.args.universe.now c.args.req.now c.args.sels c.args.certificate.now (g.O.Sink.seen c.args.out.now) c.without_formula.result c.in-Err.fault c.in-Err.ensures c.without_formula.ensures
