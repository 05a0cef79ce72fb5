use Rattle.std.proofs.Common.{map, take}
use Rattle.zi_sels.specs.Written.{selection_elem}
use Rattle.zi_docout.specs.Elements.{Adds}
use Rattle.zi_sels.proofs.writing.put_selections.Given as goal

abbrev pub invariant-loop-item : goal.invariant-loop-item
invariant-loop-item l = Adds l.initial.children l.children (map selection_elem (take l.item-index l.items))
