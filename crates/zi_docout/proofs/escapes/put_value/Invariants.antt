use Rattle.std.proofs.Common.{◌≡◌, ◌++◌, take}
use Rattle.zi_docout.specs.Canonical.{value_text}
use Rattle.zi_docout.proofs.escapes.put_value.Given as goal

abbrev pub invariant-loop-b : goal.invariant-loop-b
invariant-loop-b l = l.text.items ≡ l.initial.text.items ++ value_text (take l.b-index l.value)
