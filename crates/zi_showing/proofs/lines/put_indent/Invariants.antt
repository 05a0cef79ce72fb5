use Rattle.std.proofs.Common.{◌≡◌, ◌++◌}
use Rattle.zi_showing.specs.Text.{indent}
use Rattle.zi_showing.proofs.lines.put_indent.Given as goal

abbrev pub invariant-loop-left : goal.invariant-loop-left
invariant-loop-left l = l.text.items ++ indent l.left ≡ l.initial.text.items ++ indent l.level

abbrev pub decreases-loop-left : goal.decreases-loop-left
decreases-loop-left l = l.left
