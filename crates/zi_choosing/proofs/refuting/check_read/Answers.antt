use Rattle.zi_choosing.proofs.RefuteLemmas.{says_yes}
use Rattle.zi_choosing.proofs.refuting.check_read.Goals as goal

pub returns-in-Ok-true : goal.returns-in-Ok-true
returns-in-Ok-true g c =
    says_yes c.args.req.now c.args.universe.now c.args.certificate.now (g.O.Sink.seen c.args.out.now) (g.O.Sink.seen c.put_text.new.out) c.put_text.result
    (c.is_empty.ensures.0 c.if-not-is_empty.false) c.in-Ok-true.ensures.few (c.in-Ok-true.ensures.value.0 c.in-Ok-true.field-0-test)
    (c.in-Ok-true.ensures.none c.in-Ok-true.field-0-test) c.put_text.ensures
