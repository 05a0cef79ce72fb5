use Rattle.std.proofs.Common.{None}
use Rattle.zi_memory.proofs.ComingLemmas.{at_new}
use Rattle.zi_memory.proofs.crash.take_first.Goals as goal

pub returns-in-Some-clause-out : goal.returns-in-Some-clause-out
returns-in-Some-clause-out c = λ n. at_new c.args.firsts.now c.remove.new.self c.args.name.now None c.remove.ensures.updates n
