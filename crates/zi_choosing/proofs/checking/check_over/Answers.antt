use Rattle.std.proofs.Common.{refl}
use Rattle.zi_world.proofs.AskingLemmas.{asks_stay, feeds_same}
use Rattle.zi_choosing.proofs.LoadedLemmas.{loaded_as, refused_as}
use Rattle.zi_choosing.proofs.CheckLemmas.{checked, check_refused, check_no_task, check_stays}
use Rattle.zi_choosing.proofs.checking.check_over.Goals as goal

pub returns-in_default : goal.returns-in_default
returns-in_default g c = record {
  over = check_no_task c.args.ask c.args.sels c.args.proof c.args.known.now (record { feeds = g.F.Feeds.seen c.args.feeds.now; out = g.O.Sink.seen c.args.out.now });
  feeds = feeds_same (g.F.Feeds.seen c.args.feeds.now);
}

pub returns-in-Ok-load_over : goal.returns-in-Ok-load_over
returns-in-Ok-load_over g c =
    let old = g.F.Feeds.seen c.args.feeds.now in
    let mid = g.F.Feeds.seen c.load_over.new.feeds in
    let out = g.O.Sink.seen c.args.out.now in
    record {
      over =
          checked c.args.ask c.args.sels c.args.proof c.args.known.now (record { feeds = old; out = out }) (record { feeds = g.F.Feeds.seen c.check_file.new.feeds; out = g.O.Sink.seen c.check_file.new.out }) c.in-Ok.job.req mid
          c.in-Ok-load_over.universe c.check_file.result c.in-Ok.ensures.req
          (loaded_as c.args.known.now c.args.ask c.in-Ok.job.req c.in-Ok.job.policy old mid c.in-Ok-load_over.universe c.in-Ok.ensures.req c.in-Ok.ensures.policy c.in-Ok-load_over.ensures.loads)
          c.check_file.ensures;
      feeds =
          check_stays c.in-Ok-load_over.universe c.in-Ok.job.req c.args.sels c.args.proof old (record { feeds = mid; out = out }) (record { feeds = g.F.Feeds.seen c.check_file.new.feeds; out = g.O.Sink.seen c.check_file.new.out }) c.check_file.result
          (asks_stay _ old mid c.in-Ok-load_over.ensures.loads.asked.asks) c.check_file.ensures;
    }

pub returns-in-Err : goal.returns-in-Err
returns-in-Err g c =
    let old = g.F.Feeds.seen c.args.feeds.now in
    let mid = g.F.Feeds.seen c.load_over.new.feeds in
    let out = g.O.Sink.seen c.args.out.now in
    record {
      over =
          check_refused c.args.ask c.args.sels c.args.proof c.args.known.now (record { feeds = old; out = out }) (record { feeds = mid; out = out }) c.in-Err.fault c.refused.result
          (refused_as c.args.known.now c.args.ask c.in-Ok.job.req c.in-Ok.job.policy old mid c.in-Err.fault c.in-Ok.ensures.req c.in-Ok.ensures.policy c.in-Err.ensures.refuses)
          refl c.refused.ensures;
      feeds = asks_stay _ old mid c.in-Err.ensures.refuses.asks;
    }
