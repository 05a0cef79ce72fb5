use Rattle.std.proofs.Common.{◌≡◌, length}
use Rattle.zi_choice.specs.Vars.{candidates_of}
use Rattle.zi_choice.specs.Traces.{as_place}
use Rattle.zi_certificate.specs.Certificates.{asked_one}
use Rattle.zi_check.specs.Taking.{interfaces_of}
use Rattle.zi_check.proofs.TakeLaws.{RestAlike}
use Rattle.zi_check.proofs.blocks.pass_all.Given as goal

abbrev pub invariant-loop-c : goal.invariant-loop-c
invariant-loop-c l = record {
  alike : RestAlike l.on (asked_one (interfaces_of l.on) l.n l.initial.before.items (as_place l.p)) (candidates_of (interfaces_of l.on) l.p.interface) l.initial.next l.c l.next;
  before : l.before.items ≡ l.initial.before.items;
  same : length l.marks ≡ length l.initial.marks;
}
