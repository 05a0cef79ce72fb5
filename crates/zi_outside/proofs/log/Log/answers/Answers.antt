use Rattle.std.proofs.Common.{sym}
use Rattle.zi_outside.proofs.PairedLemmas.{map-status-paired}
use Rattle.zi_outside.proofs.log.Log.answers.Goals as goal

pub returns : goal.returns
returns c = rw (← c.self.view_is) (sym (map-status-paired c.self.inside.launches c.self.inside.answers c.self.invariant))
