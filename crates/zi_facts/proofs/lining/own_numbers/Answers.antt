use Rattle.zi_facts.specs.Lines.{own_number}
use Rattle.zi_facts.proofs.LineLaws.{kept_more}
use Rattle.zi_facts.proofs.lining.own_numbers.Goals as goal

pub loop-e-preserved : goal.loop-e-preserved
loop-e-preserved c =
    kept_more own_number c.loop-e.numbers c.push.new.self c.args.all.now c.loop-e.e c.index-all-e.result c.loop-e-test.true c.index-all-e.is c.loop-e.invariant c.in_ok-push.ensures.ok
