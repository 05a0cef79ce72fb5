use Rattle.std.proofs.Common.{take}
use Rattle.zi_build.specs.Clauses.{each}
use Rattle.zi_facts.specs.Facts.{told_command}
use Rattle.zi_facts.specs.Telling.{universe_of, Tells}
use Rattle.zi_facts.proofs.telling.tell_commands.Given as goal

abbrev pub invariant-loop-n : goal.invariant-loop-n
invariant-loop-n l = Tells l.initial.facts.items (each 0 (told_command (universe_of l.on) l.i l.c) (take l.n l.k.imp.commands)) l.facts.items
