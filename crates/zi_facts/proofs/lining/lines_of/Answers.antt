use Rattle.zi_facts.specs.Telling.{universe_of}
use Rattle.zi_facts.proofs.LineLaws.{lines_more}
use Rattle.zi_facts.proofs.lining.lines_of.Goals as goal

pub loop-fact-preserved : goal.loop-fact-preserved
loop-fact-preserved c =
    lines_more (universe_of c.args.on.now) c.args.req.now c.loop-fact.lines.items c.add_fact.new.lines.items c.args.facts.now c.loop-fact.fact-index c.fact-item.result c.loop-fact-test.true c.fact-item.is c.loop-fact.invariant c.in_ok-add_fact.ensures
