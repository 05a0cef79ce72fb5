use Rattle.zi_choice.specs.Vars.{candidates_of}
use Rattle.zi_why.specs.Known.{universe_of}
use Rattle.zi_why.specs.Taking.{place_at}
use Rattle.zi_why.proofs.SuitLaws.{nth_there, candidate_there, place_within}
use Rattle.zi_why.proofs.TakeLaws.{took_more}
use Rattle.zi_why.proofs.explaining.report_place.Goals as goal

pub report_one-requires-clause-there : goal.report_one-requires-clause-there
report_one-requires-clause-there c =
    candidate_there (universe_of c.args.on.now) c.args.i c.loop-c.c c.index-all-c.result
    (nth_there (universe_of c.args.on.now) c.args.i c.loop-c.c c.candidates-all.result.now c.index-all-c.result c.candidates-all.ensures.is c.loop-c-test.true c.index-all-c.is)

pub report_one-requires-clause-within : goal.report_one-requires-clause-within
report_one-requires-clause-within c =
    place_within (universe_of c.args.on.now) c.args.i c.loop-c.c c.index-all-c.result
    (nth_there (universe_of c.args.on.now) c.args.i c.loop-c.c c.candidates-all.result.now c.index-all-c.result c.candidates-all.ensures.is c.loop-c-test.true c.index-all-c.is)

pub loop-c-preserved : goal.loop-c-preserved
loop-c-preserved c =
    took_more c.args.on.now (place_at c.args.on.now c.args.at) c.args.i (candidates_of (universe_of c.args.on.now) c.args.i) c.loop-c.c c.index-all-c.result c.args.reports.now c.loop-c.reports c.report_one.new.reports
    (nth_there (universe_of c.args.on.now) c.args.i c.loop-c.c c.candidates-all.result.now c.index-all-c.result c.candidates-all.ensures.is c.loop-c-test.true c.index-all-c.is)
    c.loop-c.invariant c.in_ok-report_one.ensures
