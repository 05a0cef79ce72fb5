use Rattle.std.proofs.Common.{◌≡◌, ◌++◌, take, flat_map}
use Rattle.zi_report.specs.Text.{report_line}
use Rattle.zi_report.proofs.lines.put_reports.Given as goal

abbrev pub invariant-loop-report : goal.invariant-loop-report
invariant-loop-report l = l.text ≡ l.initial.text ++ flat_map (report_line l.of l.i) (take l.report-index l.reports)
