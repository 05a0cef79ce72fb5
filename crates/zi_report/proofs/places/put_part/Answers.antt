use Rattle.zi_choice.specs.Traces.{as_place}
use Rattle.zi_report.proofs.TextLaws.{part_put}
use Rattle.zi_report.proofs.places.put_part.Goals as goal

pub returns : goal.returns
returns c =
    part_put c.args.of.now c.args.n (as_place c.args.p.now) c.args.reports.now c.split_at.result.0.now c.split_at.result.1.now c.args.text.now c.put_place.new.text c.put_reports.new.text c.count_of.result
    c.count_of.ensures.is c.split_at.ensures.front c.split_at.ensures.back c.in_ok-put_place.ensures c.in_ok-put_reports.ensures
