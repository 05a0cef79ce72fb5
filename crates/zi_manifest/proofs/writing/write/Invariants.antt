use Rattle.std.proofs.Common.{◌≡◌, ◌++◌, drop}
use Rattle.std.specs.List.{flat_map}
use Rattle.zi_tree.specs.Walk.{spots}
use Rattle.zi_manifest.specs.Manifest.{first_bad, as_read, manifest}
use Rattle.zi_manifest.specs.AtPlace.{line_at, bad_among}
use Rattle.zi_manifest.proofs.writing.write.Given as goal

abbrev pub invariant-loop-place : goal.invariant-loop-place
invariant-loop-place l =
    let left = spots (drop l.place-index l.place-items) in
    (l.out.items ++ flat_map (line_at l.a) left ≡ manifest l.a l.t) × (bad_among left ≡ first_bad (as_read l.t))
