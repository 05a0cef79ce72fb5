use Rattle.std.proofs.Common.{take}
use Rattle.zi_build.specs.Clauses.{each}
use Rattle.zi_facts.specs.Facts.{told_interface}
use Rattle.zi_facts.specs.Telling.{universe_of, Tells}
use Rattle.zi_facts.proofs.telling.tell_interfaces.Given as goal

abbrev pub invariant-loop-i : goal.invariant-loop-i
invariant-loop-i l = Tells l.initial.facts.items (each 0 (told_interface (universe_of l.on)) (take l.i (universe_of l.on))) l.facts.items
