use Rattle.std.proofs.Common.{◌++◌, ◌∙◌, ap}
use Rattle.std.specs.List.{flat_map}
use Rattle.zi_tree.specs.Walk.{spots}
use Rattle.zi_manifest.specs.AtPlace.{line_at}
use Rattle.zi_manifest.proofs.PlaceLemmas.{at_start}
use Rattle.zi_manifest.proofs.writing.write.Goals as goal

pub loop-place-init : goal.loop-place-init
loop-place-init c =
    let left = c.deref-place-items.result.now in
    let s = at_start c.args.a c.args.t.now left c.in_ok-places.places.items c.deref-place-items.ensures.value c.in_ok-places.ensures in
    (ap (λ out. out ++ flat_map (line_at c.args.a) (spots left)) c.new-out.ensures.items ∙ s.0, s.1)
