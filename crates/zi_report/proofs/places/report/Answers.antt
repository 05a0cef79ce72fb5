use Rattle.zi_report.proofs.OrderLaws.{reported_by}
use Rattle.zi_report.proofs.places.report.Goals as goal

pub returns : goal.returns
returns c =
    reported_by c.args.u.now c.args.req.now c.args.c.now.picks c.args.certificate.now c.in_ok-walk.walk c.in_ok-reports.reports c.as_slice.result.now c.as_slice-2.result.now c.in_ok-text.text
    c.requires.excludes c.in_ok-walk.ensures c.in_ok-reports.ensures c.as_slice.ensures c.as_slice-2.ensures c.in_ok-text.ensures
