use Rattle.std.proofs.Common.{take}
use Rattle.zi_choice.specs.Vars.{candidates_of}
use Rattle.zi_build.specs.Clauses.{each}
use Rattle.zi_facts.specs.Facts.{owner_var, told_name}
use Rattle.zi_facts.specs.Telling.{universe_of, Tells}
use Rattle.zi_facts.proofs.telling.tell_all_named.Given as goal

abbrev pub invariant-loop-e : goal.invariant-loop-e
invariant-loop-e l = Tells l.initial.facts.items (each 0 (told_name (owner_var l.owner) l.dep l.name l.j) (take l.e (candidates_of (universe_of l.on) l.j))) l.facts.items
