use Rattle.std.proofs.Common.{[]}
use Rattle.zi_manifest.proofs.PlaceLemmas.{at_start}
use Rattle.zi_manifest.proofs.writing.digest.Goals as goal

pub loop-place-init : goal.loop-place-init
loop-place-init c =
    let s = at_start c.args.a c.args.t.now c.deref-place-items.result.now c.in_ok-places.places.items c.deref-place-items.ensures.value c.in_ok-places.ensures in
    ([], c.new-hasher.ensures, s.0, s.1)
