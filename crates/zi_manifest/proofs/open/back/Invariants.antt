use Rattle.std.proofs.Common.{◌≡◌, reverse, length}
use Rattle.zi_manifest.specs.Reading.{back}
use Rattle.zi_manifest.proofs.open.back.Given as goal

abbrev pub invariant-loop-here : goal.invariant-loop-here
invariant-loop-here l = back l.path (reverse l.folders.items) ≡ back l.path (reverse l.fn.folders.items)

abbrev pub decreases-loop-here : goal.decreases-loop-here
decreases-loop-here l = length l.folders.items
