use Rattle.zi_proof.proofs.BodyLaws.{took_more, took_end, took_bad, body_early}
use Rattle.zi_proof.proofs.reader.read_body.Goals as goal

pub loop-line-preserved : goal.loop-line-preserved
loop-line-preserved c =
    took_more c.args.bytes.now c.loop-line.lemmas c.take_line.new.lemmas c.loop-line.blocks c.take_line.new.blocks c.loop-line.lines c.next_line.new.lines c.in-Some.line.now c.loop-line.taken c.in_ok-take_line.field-0 c.loop-line.invariant c.in-Some.ensures.0 c.in-Some.ensures.1 c.in-More.is c.in_ok-take_line.ensures

pub finish-requires-clause-numbered : goal.finish-requires-clause-numbered
finish-requires-clause-numbered c =
    (took_end c.args.bytes.now c.loop-line.lemmas c.take_line.new.lemmas c.loop-line.blocks c.take_line.new.blocks c.loop-line.lines c.next_line.new.lines c.in-Some.line.now c.loop-line.taken c.in_ok-take_line.field-0 c.loop-line.invariant c.in-Some.ensures.0 c.in-End.is c.in_ok-take_line.ensures).1

pub returns-in-Bad : goal.returns-in-Bad
returns-in-Bad c =
    took_bad c.args.bytes.now c.loop-line.lemmas c.take_line.new.lemmas c.loop-line.blocks c.take_line.new.blocks c.loop-line.lines c.next_line.new.lines c.in-Some.line.now c.loop-line.taken c.in_ok-take_line.field-0 c.loop-line.invariant c.in-Some.ensures.0 c.in-Some.ensures.1 c.in-Bad.is c.in_ok-take_line.ensures

pub returns : goal.returns
returns c = body_early c.args.bytes.now c.loop-line.lemmas c.loop-line.blocks c.loop-line.lines c.loop-line.taken c.loop-line.invariant c.in_default.ensures
