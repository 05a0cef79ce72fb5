use Rattle.std.proofs.Common.{◌≡◌, ◌++◌, take}
use Rattle.zi_choice.specs.Vars.{candidates_of}
use Rattle.zi_build.specs.Clauses.{each}
use Rattle.zi_certificate.specs.Certificates.{is_not}
use Rattle.zi_solve.specs.Making.{universe_of}
use Rattle.zi_solve.proofs.blocks.say_none.Given as goal

abbrev pub invariant-loop-c : goal.invariant-loop-c
invariant-loop-c l = record {
  before : l.made.before.items ≡ l.initial.made.before.items ++ each 0 (is_not (universe_of l.on) l.i) (take l.c (candidates_of (universe_of l.on) l.i));
  blocks : l.made.blocks ≡ l.initial.made.blocks;
}
