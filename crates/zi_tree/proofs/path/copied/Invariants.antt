use Rattle.std.proofs.Common.{◌≡◌, take}
use Rattle.zi_tree.proofs.path.copied.Given as goal

abbrev pub invariant-loop-part : goal.invariant-loop-part
invariant-loop-part l = l.copy ≡ take l.part-index l.part-items
