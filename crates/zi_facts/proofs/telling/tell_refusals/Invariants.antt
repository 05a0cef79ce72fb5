use Rattle.std.proofs.Common.{take}
use Rattle.zi_choice.specs.Vars.{candidates_of}
use Rattle.zi_build.specs.Clauses.{each}
use Rattle.zi_facts.specs.Facts.{owner_var, told_refusal}
use Rattle.zi_facts.specs.Telling.{universe_of, Tells}
use Rattle.zi_facts.proofs.telling.tell_refusals.Given as goal

abbrev pub invariant-loop-e : goal.invariant-loop-e
invariant-loop-e l = Tells l.initial.facts.items (each 0 (told_refusal (owner_var l.owner) l.dep l.j) (take l.e (candidates_of (universe_of l.on) l.j))) l.facts.items
