use Rattle.std.proofs.Common.{map, take}
use Rattle.zi_sels.specs.Written.{binding_elem}
use Rattle.zi_docout.specs.Elements.{Adds}
use Rattle.zi_sels.proofs.bindings.put_bindings.Given as goal

abbrev pub invariant-loop-binding : goal.invariant-loop-binding
invariant-loop-binding l = Adds l.initial.children l.children (map binding_elem (take l.binding-index l.bindings))
