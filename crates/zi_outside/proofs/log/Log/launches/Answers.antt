use Rattle.std.proofs.Common.{sym}
use Rattle.zi_outside.proofs.PairedLemmas.{map-launch-paired}
use Rattle.zi_outside.proofs.log.Log.launches.Goals as goal

pub returns : goal.returns
returns c = rw (← c.self.view_is) (sym (map-launch-paired c.self.inside.launches c.self.inside.answers c.self.invariant))
