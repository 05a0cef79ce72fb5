use Rattle.zi_why.proofs.TakeLaws.{why_all}
use Rattle.zi_why.proofs.explaining.why.Goals as goal

pub returns : goal.returns
returns c =
    why_all c.args.u.now c.in_ok-names.names c.args.req.now c.args.c.now.picks c.as_slice-picks.result.now c.args.certificate.now c.in_ok-stops.stops c.as_slice.result.now c.as_slice-2.result.now c.in_ok-reports.reports
    c.in_ok-names.ensures c.as_slice-picks.ensures c.as_slice.ensures c.as_slice-2.ensures c.in_ok-stops.ensures c.requires.excludes c.in_ok-reports.ensures
