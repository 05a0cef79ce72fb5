use Rattle.std.proofs.Common.{take}
use Rattle.std.specs.List.{flat_map}
use Rattle.zi_facts.specs.Facts.{owner_var, told_need}
use Rattle.zi_facts.specs.Telling.{universe_of, Tells}
use Rattle.zi_facts.proofs.telling.tell_needs.Given as goal

abbrev pub invariant-loop-dep : goal.invariant-loop-dep
invariant-loop-dep l = Tells l.initial.facts.items (flat_map (told_need (universe_of l.on) (owner_var l.owner)) (take l.dep-index l.deps)) l.facts.items
