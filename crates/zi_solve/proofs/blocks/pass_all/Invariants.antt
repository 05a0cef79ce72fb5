use Rattle.std.proofs.Common.{◌≡◌, length, take}
use Rattle.zi_choice.specs.Vars.{candidates_of}
use Rattle.zi_choice.specs.Traces.{as_place}
use Rattle.zi_build.specs.Clauses.{each}
use Rattle.zi_certificate.specs.Certificates.{asked_one}
use Rattle.zi_solve.specs.Making.{universe_of, Adds}
use Rattle.zi_solve.proofs.blocks.pass_all.Given as goal

abbrev pub invariant-loop-c : goal.invariant-loop-c
invariant-loop-c l = record {
  added : Adds l.on (each 0 (asked_one (universe_of l.on) l.n l.initial.made.before.items (as_place l.p)) (take l.c (candidates_of (universe_of l.on) l.p.interface))) l.initial.made.blocks l.made.blocks;
  before : l.made.before.items ≡ l.initial.made.before.items;
  same : length l.marks ≡ length l.initial.marks;
}
