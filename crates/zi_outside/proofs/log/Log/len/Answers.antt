use Rattle.std.proofs.Common.{◌∙◌, sym}
use Rattle.zi_outside.proofs.PairedLemmas.{length-paired}
use Rattle.zi_outside.proofs.log.Log.len.Goals as goal

pub returns : goal.returns
returns c = rw (← c.self.view_is) (c.len.ensures ∙ sym (length-paired c.self.inside.launches c.self.inside.answers c.self.invariant))
