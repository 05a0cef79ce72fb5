use Rattle.zi_choosing.proofs.DemoLemmas.{demonstrated}
use Rattle.zi_choosing.proofs.demonstrating.demonstrate.Goals as goal

pub returns-in-Ok : goal.returns-in-Ok
returns-in-Ok g c =
    demonstrated c.args.n c.in-Ok.feeds c.count_over.new.feeds (g.O.Sink.seen c.args.out.now) (g.O.Sink.seen c.count_over.new.out) c.count_over.result c.demo_is_clear.ensures c.requires.low c.requires.high c.in-Ok.ensures.held
    c.in-Ok.ensures.asked c.count_over.ensures
