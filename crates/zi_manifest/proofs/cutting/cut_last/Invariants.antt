use Rattle.std.proofs.Common.{◌≡◌, ◌≤◌, drop, length, false}
use Rattle.zi_tree.specs.Order.{has_byte}
use Rattle.zi_manifest.proofs.cutting.cut_last.Given as goal

abbrev pub invariant-loop-i : goal.invariant-loop-i
invariant-loop-i l = (l.i ≤ length l.text) × (has_byte l.separator (drop l.i l.text) ≡ false)

abbrev pub decreases-loop-i : goal.decreases-loop-i
decreases-loop-i l = l.i
