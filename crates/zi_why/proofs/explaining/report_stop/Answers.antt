use Rattle.std.proofs.Common.{◌∙◌, ap, Some}
use Rattle.zi_choice.specs.declared.traced.Stop.{Stop}
use Rattle.zi_why.proofs.TakeLaws.{came_due, needed_due}
use Rattle.zi_why.proofs.explaining.report_stop.Goals as goal

pub returns-in_ok-report_place-in-Came : goal.returns-in_ok-report_place-in-Came
returns-in_ok-report_place-in-Came c =
    came_due c.args.on.now c.args.at _ c.args.reports.now c.report_place.new.reports (c.requires.here ∙ ap (λ (x : Stop). Some x) c.in-Came.is) c.in_ok-report_place-in-Came.ensures

pub returns-in-Needed : goal.returns-in-Needed
returns-in-Needed c = needed_due c.args.on.now c.args.at _ _ c.args.reports.now (c.requires.here ∙ ap (λ (x : Stop). Some x) c.in-Needed.is)
