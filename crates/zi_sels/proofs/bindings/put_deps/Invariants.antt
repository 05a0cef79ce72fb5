use Rattle.std.proofs.Common.{map, take}
use Rattle.zi_sels.specs.Written.{dep_elem}
use Rattle.zi_docout.specs.Elements.{Adds}
use Rattle.zi_sels.proofs.bindings.put_deps.Given as goal

abbrev pub invariant-loop-dep : goal.invariant-loop-dep
invariant-loop-dep l = Adds l.initial.children l.children (map dep_elem (take l.dep-index l.deps))
