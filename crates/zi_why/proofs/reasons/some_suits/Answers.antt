use Rattle.zi_why.specs.Known.{universe_of}
use Rattle.zi_why.proofs.SuitLaws.{nth_there, candidate_there}
use Rattle.zi_why.proofs.reasons.some_suits.Goals as goal

pub does_suit-requires : goal.does_suit-requires
does_suit-requires c = record {
  there = candidate_there (universe_of c.args.on.now) c.args.j c.loop-c.c c.index-all-c.result
      (nth_there (universe_of c.args.on.now) c.args.j c.loop-c.c c.candidates-all.result.now c.index-all-c.result c.candidates-all.ensures.is c.loop-c-test.true c.index-all-c.is);
}
