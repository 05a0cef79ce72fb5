use Rattle.zi_store.specs.declared.manifests.ManifestRead.TheVariants as read
use Rattle.zi_world.proofs.FirstLemmas.{AskedFirst}
use Rattle.zi_storing.specs.ManifestCommand.{ReadsAs}
use Rattle.zi_storing.proofs.manifests.first_manifest.Given as goal

abbrev pub invariant-loop-other : goal.invariant-loop-other
invariant-loop-other g l = AskedFirst g.R.Shelf.seen (λ k r. ReadsAs l.algorithm k l.name r) read.Missing (g.K.Shelf.seen l.fn.shelf) l.fn.others l.others l.other-index l.read
