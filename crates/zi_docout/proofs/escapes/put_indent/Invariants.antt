use Rattle.std.proofs.Common.{◌≡◌, ◌++◌}
use Rattle.zi_docout.specs.Canonical.{indent}
use Rattle.zi_docout.proofs.escapes.put_indent.Given as goal

abbrev pub invariant-loop-i : goal.invariant-loop-i
invariant-loop-i l = l.text.items ≡ l.initial.text.items ++ indent l._i
