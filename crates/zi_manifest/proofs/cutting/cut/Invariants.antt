use Rattle.std.proofs.Common.{◌≡◌, take, false}
use Rattle.zi_tree.specs.Order.{has_byte}
use Rattle.zi_manifest.proofs.cutting.cut.Given as goal

abbrev pub invariant-loop-i : goal.invariant-loop-i
invariant-loop-i l = has_byte l.separator (take l.i l.text) ≡ false
