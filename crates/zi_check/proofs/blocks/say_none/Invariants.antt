use Rattle.std.proofs.Common.{◌≡◌, ◌++◌, take}
use Rattle.zi_choice.specs.Vars.{candidates_of}
use Rattle.zi_build.specs.Clauses.{each}
use Rattle.zi_certificate.specs.Certificates.{is_not}
use Rattle.zi_check.specs.Taking.{interfaces_of}
use Rattle.zi_check.proofs.blocks.say_none.Given as goal

abbrev pub invariant-loop-c : goal.invariant-loop-c
invariant-loop-c l =
    l.before.items ≡ l.initial.before.items ++ each 0 (is_not (interfaces_of l.on) l.i) (take l.c (candidates_of (interfaces_of l.on) l.i))
