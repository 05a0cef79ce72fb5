use Rattle.zi_report.specs.Text.{report_line}
use Rattle.zi_report.proofs.LineLaws.{item_more}
use Rattle.zi_report.proofs.lines.put_reports.Goals as goal

pub loop-report-preserved : goal.loop-report-preserved
loop-report-preserved c =
    item_more (report_line c.args.of.now c.args.i) c.args.text.now c.loop-report.text c.put_report.new.text c.args.reports.now c.loop-report.report-index c.report-item.result c.report-item.result c.loop-report-test.true c.report-item.is
    c.loop-report.invariant c.in_ok-put_report.ensures
