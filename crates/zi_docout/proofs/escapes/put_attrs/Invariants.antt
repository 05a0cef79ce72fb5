use Rattle.std.specs.Prelude.{flat_map}
use Rattle.std.proofs.Common.{◌≡◌, ◌++◌, take}
use Rattle.zi_docout.specs.Canonical.{attr_text}
use Rattle.zi_docout.proofs.escapes.put_attrs.Given as goal

abbrev pub invariant-loop-attr : goal.invariant-loop-attr
invariant-loop-attr l = l.text.items ≡ l.initial.text.items ++ flat_map attr_text (take l.attr-index l.attrs)
