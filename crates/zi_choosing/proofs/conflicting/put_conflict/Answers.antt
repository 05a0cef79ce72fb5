use Rattle.zi_choosing.proofs.SelectLemmas.{facts_put}
use Rattle.zi_choosing.proofs.conflicting.put_conflict.Goals as goal

pub returns-in-Ok : goal.returns-in-Ok
returns-in-Ok g c =
    facts_put c.args.universe.now c.args.req.now c.args.proof c.in-Ok.text (g.O.Sink.seen c.args.out.now) (g.O.Sink.seen c.put_facts.new.out) c.put_facts.result c.in-Ok.ensures c.put_facts.ensures
