use Rattle.std.proofs.Common.{refl}
use Rattle.std.proofs.lemmas.Result.{err_from_is_err_and}
use Rattle.zi_world.proofs.AskingLemmas.{asks_stay, feeds_same}
use Rattle.zi_choosing.specs.Knowing.{all_names}
use Rattle.zi_choosing.proofs.LoadedLemmas.{loaded_as, refused_as, all_written}
use Rattle.zi_choosing.proofs.FindLemmas.{no_job, refused_find, unsolved, loaded_alone, found}
use Rattle.zi_choosing.proofs.finding.find_over.Goals as goal

pub invariant_of-result : goal.invariant_of-result
invariant_of-result g c = record {
  written =
      all_written (g.F.Feeds.seen c.args.feeds.now) (g.F.Feeds.seen c.load_over.new.feeds) c.in_ok-job.job.req c.in_ok-job.job.policy (all_names c.args.known.each) c.args.known.packages c.in-Ok.universe
      c.what_is_chosen_can_be_written.ensures c.requires.rows c.in_ok-job.ensures.root c.in-Ok.ensures.loads c.in_ok-choice.choice.picks c.in_ok-choice.ensures.1.valid c.in_ok-sels.sels c.in_ok-sels.ensures;
}

pub returns-in_err-job : goal.returns-in_err-job
returns-in_err-job g c =
    let old = g.F.Feeds.seen c.args.feeds.now in
    let q = err_from_is_err_and c.from_residual.result c.from_residual.ensures.1 in
    rw q.1 (record { chooses = no_job c.args.ask c.args.known old q.0 q.2; feeds = feeds_same old })

pub returns-in-Err : goal.returns-in-Err
returns-in-Err g c =
    let old = g.F.Feeds.seen c.args.feeds.now in
    let new = g.F.Feeds.seen c.load_over.new.feeds in
    record {
      chooses =
          refused_find c.args.ask c.args.known old new c.in-Err.fault c.refused.result
          (refused_as c.args.known c.args.ask c.in_ok-job.job.req c.in_ok-job.job.policy old new c.in-Err.fault c.in_ok-job.ensures.req c.in_ok-job.ensures.policy
          c.in-Err.ensures.refuses)
          c.refused.ensures;
      feeds = asks_stay _ old new c.in-Err.ensures.refuses.asks;
    }

pub returns-in_err-choice : goal.returns-in_err-choice
returns-in_err-choice g c =
    let old = g.F.Feeds.seen c.args.feeds.now in
    let new = g.F.Feeds.seen c.load_over.new.feeds in
    let q = err_from_is_err_and c.from_residual-in_err-choice.result c.from_residual-in_err-choice.ensures.1 in
    rw (q.1, q.2)
    (record {
      chooses =
          unsolved c.args.ask c.args.known old new c.in_ok-job.job.req c.args.ask.search c.in-Ok.universe c.in_err-choice.field-0.0 c.in_ok-job.ensures.req refl
          (loaded_as c.args.known c.args.ask c.in_ok-job.job.req c.in_ok-job.job.policy old new c.in-Ok.universe c.in_ok-job.ensures.req c.in_ok-job.ensures.policy
          c.in-Ok.ensures.loads)
          c.in_err-choice.ensures;
      feeds = asks_stay _ old new c.in-Ok.ensures.loads.asked.asks;
    })

pub returns-in_err-sels : goal.returns-in_err-sels
returns-in_err-sels g c =
    let old = g.F.Feeds.seen c.args.feeds.now in
    let new = g.F.Feeds.seen c.load_over.new.feeds in
    let q = err_from_is_err_and c.from_residual-in_err-sels.result c.from_residual-in_err-sels.ensures.1 in
    rw q.1
    (record {
      chooses =
          loaded_alone c.args.ask c.args.known old new c.in-Ok.universe q.0
          (loaded_as c.args.known c.args.ask c.in_ok-job.job.req c.in_ok-job.job.policy old new c.in-Ok.universe c.in_ok-job.ensures.req c.in_ok-job.ensures.policy
          c.in-Ok.ensures.loads)
          q.2;
      feeds = asks_stay _ old new c.in-Ok.ensures.loads.asked.asks;
    })

pub returns : goal.returns
returns g c =
    let old = g.F.Feeds.seen c.args.feeds.now in
    let new = g.F.Feeds.seen c.load_over.new.feeds in
    record {
      chooses = (
        refl,
        found c.args.ask c.args.known old new _ c.in_ok-job.job.req c.in_ok-job.ensures.req refl refl
            (loaded_as c.args.known c.args.ask c.in_ok-job.job.req c.in_ok-job.job.policy old new c.in-Ok.universe c.in_ok-job.ensures.req c.in_ok-job.ensures.policy
            c.in-Ok.ensures.loads)
            c.in_ok-choice.ensures.0 c.in_ok-choice.ensures.1 c.in_ok-sels.ensures,
      );
      feeds = asks_stay _ old new c.in-Ok.ensures.loads.asked.asks;
    }
