use Rattle.std.proofs.Common.{◌∙◌, length, get_or, sym, ap, subst}
use Rattle.std.proofs.lemmas.Option.{slice_get-get_or}
use Rattle.zi_why.specs.Known.{universe_of, picks_of}
use Rattle.zi_why.specs.Taking.{ReportedOn, due_left}
use Rattle.zi_why.proofs.KnownLaws.{passed_on}
use Rattle.zi_why.proofs.TakeLaws.{all_due}
use Rattle.zi_why.proofs.explaining.reports_of.Goals as goal

pub loop-at-init : goal.loop-at-init
loop-at-init c = record {
  knows = c.in_ok-known.ensures (universe_of c.args.on.now) (picks_of c.args.on.now) (ap length (sym (c.interfaces.ensures.interfaces ∙ c.universe.ensures)));
  reported = λ h. subst (ReportedOn c.args.on.now (due_left c.args.on.now 0)) (sym c.new-reports.ensures) h;
}

pub report_stop-requires-clause-here : goal.report_stop-requires-clause-here
report_stop-requires-clause-here c = slice_get-get_or c.args.on.now.stops.now c.loop-at.at c.index-on-at.result c.loop-at-test.true

pub loop-at-preserved : goal.loop-at-preserved
loop-at-preserved c = record {
  knows = passed_on c.args.on.now c.loop-at.at (get_or c.args.on.now.stops.now c.loop-at.at c.index-on-at.result) c.loop-at.known c.pass.new.self
      (slice_get-get_or c.args.on.now.stops.now c.loop-at.at c.index-on-at.result c.loop-at-test.true) c.in_ok-pass.ensures c.loop-at.invariant.knows;
  reported = λ h. c.in_ok-report_stop.ensures (c.loop-at.invariant.reported h);
}

pub returns : goal.returns
returns c = λ h. all_due c.args.on.now c.loop-at.at c.loop-at.reports c.loop-at-test.false (c.loop-at.invariant.reported h)
