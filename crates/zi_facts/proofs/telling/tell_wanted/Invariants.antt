use Rattle.std.proofs.Common.{take}
use Rattle.zi_choice.specs.Vars.{candidates_of}
use Rattle.zi_build.specs.Clauses.{each}
use Rattle.zi_facts.specs.Facts.{told_wanted}
use Rattle.zi_facts.specs.Telling.{universe_of, Tells}
use Rattle.zi_facts.proofs.telling.tell_wanted.Given as goal

abbrev pub invariant-loop-c : goal.invariant-loop-c
invariant-loop-c l = Tells l.initial.facts.items (each 0 (told_wanted l.name) (take l.c (candidates_of (universe_of l.on) 0))) l.facts.items
