use Rattle.zi_report.proofs.TextLaws.{CountsTo}
use Rattle.zi_report.proofs.places.count_of.Given as goal

abbrev pub invariant-loop-report : goal.invariant-loop-report
invariant-loop-report l = CountsTo l.n l.reports l.report-index l.count
