use Rattle.zi_choosing.proofs.SelectLemmas.{nothing_written}
use Rattle.zi_choosing.proofs.selecting.put_nothing.Goals as goal

pub returns : goal.returns
returns g c = nothing_written (g.O.Sink.seen c.args.out.now)
