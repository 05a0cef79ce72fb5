use Rattle.zi_world.specs.Shelves.{Held}
use Rattle.zi_world.proofs.FirstLemmas.{AskedFirst}
use Rattle.zi_storing.specs.declared.checked.Checked.TheVariants as checked
use Rattle.zi_storing.specs.StoreVerify.{ChecksAs}
use Rattle.zi_storing.proofs.checked.first_check.Given as goal

abbrev pub invariant-loop-other : goal.invariant-loop-other
invariant-loop-other g l = AskedFirst g.R.Shelf.seen (λ k said. Held k (λ s. ChecksAs l.name said s)) checked.Missing (g.K.Shelf.seen l.fn.shelf) l.fn.others l.others l.other-index l.said
