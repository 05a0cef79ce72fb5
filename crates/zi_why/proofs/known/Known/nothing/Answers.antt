use Rattle.std.proofs.Common.{refl, None}
use Rattle.zi_why.proofs.KnownLaws.{nothing_known}
use Rattle.zi_why.proofs.known.Known.nothing.Goals as goal

pub returns : goal.returns
returns c u s len = nothing_known u s c.args.interfaces (record { bearing = c.in_ok-bearing.bearing; came = c.new.result; narrow = None; wide = None }) len c.in_ok-bearing.ensures c.new.ensures.empty refl refl
