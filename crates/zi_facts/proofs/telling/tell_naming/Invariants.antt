use Rattle.std.proofs.Common.{take}
use Rattle.std.specs.List.{flat_map}
use Rattle.zi_build.specs.Clauses.{among}
use Rattle.zi_facts.specs.Facts.{owner_var, told_name}
use Rattle.zi_facts.specs.Telling.{universe_of, Tells}
use Rattle.zi_facts.proofs.telling.tell_naming.Given as goal

abbrev pub invariant-loop-name : goal.invariant-loop-name
invariant-loop-name l = Tells l.initial.facts.items (flat_map (λ name. among (universe_of l.on) l.dep (told_name (owner_var l.owner) l.dep name)) (take l.name-index l.dep.commands)) l.facts.items
