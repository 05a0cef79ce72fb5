use Rattle.std.proofs.Common.{[]}
use Rattle.zi_why.specs.Known.{Knows}
use Rattle.zi_why.specs.Taking.{ReportedOn, due_left}
use Rattle.zi_why.proofs.explaining.reports_of.Given as goal

abbrev pub invariant-loop-at : goal.invariant-loop-at
invariant-loop-at l = record {
  knows : Knows l.on l.at l.known;
  reported : ReportedOn l.on (due_left l.on 0) [] → ReportedOn l.on (due_left l.on l.at) l.reports;
}
