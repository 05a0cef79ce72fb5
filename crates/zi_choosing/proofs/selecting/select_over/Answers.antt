use Rattle.std.proofs.Common.{refl}
use Rattle.zi_world.proofs.AskingLemmas.{asks_stay, feeds_same}
use Rattle.zi_choosing.specs.Knowing.{all_names}
use Rattle.zi_choosing.proofs.LoadedLemmas.{loaded_as, refused_as, all_written}
use Rattle.zi_choosing.proofs.SelectLemmas.{selected, refused_over, no_task}
use Rattle.zi_choosing.proofs.selecting.select_over.Goals as goal

pub returns-in_default : goal.returns-in_default
returns-in_default g c = record {
  over = no_task c.args.ask c.args.shows c.args.known.now (record { feeds = g.F.Feeds.seen c.args.feeds.now; out = g.O.Sink.seen c.args.out.now });
  feeds = feeds_same (g.F.Feeds.seen c.args.feeds.now);
}

pub choose-outcome-requires-clause-written : goal.choose-outcome-requires-clause-written
choose-outcome-requires-clause-written g c =
    all_written (g.F.Feeds.seen c.args.feeds.now) (g.F.Feeds.seen c.load_over.new.feeds) c.in-Ok.job.req c.in-Ok.job.policy (all_names c.args.known.now.each) c.args.known.now.packages c.in-Ok-load_over.universe
    c.what_is_chosen_can_be_written.ensures c.requires.rows c.in-Ok.ensures.root c.in-Ok-load_over.ensures.loads

pub returns-in-Ok-load_over : goal.returns-in-Ok-load_over
returns-in-Ok-load_over g c =
    let old = g.F.Feeds.seen c.args.feeds.now in
    let mid = g.F.Feeds.seen c.load_over.new.feeds in
    record {
      over =
          selected c.args.ask c.args.shows c.args.known.now c.in-Ok.job.req c.args.ask.search (record { feeds = old; out = g.O.Sink.seen c.args.out.now }) (record { feeds = mid; out = g.O.Sink.seen c.choose-outcome.new.out })
          c.in-Ok-load_over.universe c.choose-outcome.result c.in-Ok.ensures.req refl
          (loaded_as c.args.known.now c.args.ask c.in-Ok.job.req c.in-Ok.job.policy old mid c.in-Ok-load_over.universe c.in-Ok.ensures.req c.in-Ok.ensures.policy c.in-Ok-load_over.ensures.loads)
          c.choose-outcome.ensures;
      feeds = asks_stay _ old mid c.in-Ok-load_over.ensures.loads.asked.asks;
    }

pub returns : goal.returns
returns g c =
    let old = g.F.Feeds.seen c.args.feeds.now in
    let mid = g.F.Feeds.seen c.load_over.new.feeds in
    let out = g.O.Sink.seen c.args.out.now in
    record {
      over =
          refused_over c.args.ask c.args.shows c.args.known.now (record { feeds = old; out = out }) (record { feeds = mid; out = out }) c.in-Err.fault c.refused.result
          (refused_as c.args.known.now c.args.ask c.in-Ok.job.req c.in-Ok.job.policy old mid c.in-Err.fault c.in-Ok.ensures.req c.in-Ok.ensures.policy c.in-Err.ensures.refuses)
          refl c.refused.ensures;
      feeds = asks_stay _ old mid c.in-Err.ensures.refuses.asks;
    }
