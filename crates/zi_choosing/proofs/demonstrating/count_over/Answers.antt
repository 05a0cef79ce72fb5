use Rattle.std.proofs.Common.{refl}
use Rattle.zi_choosing.proofs.LoadedLemmas.{loaded_as, refused_as}
use Rattle.zi_choosing.specs.Demo.{demo_ask, none_known}
use Rattle.zi_choosing.proofs.DemoLemmas.{no_job, over_loaded, over_refused}
use Rattle.zi_choosing.proofs.demonstrating.count_over.Goals as goal

pub returns-in_default : goal.returns-in_default
returns-in_default g c = no_job (record { feeds = g.F.Feeds.seen c.args.feeds.now; out = g.O.Sink.seen c.args.out.now })

pub returns-in-Ok-load : goal.returns-in-Ok-load
returns-in-Ok-load g c =
    let old = g.F.Feeds.seen c.args.feeds.now in
    let mid = g.F.Feeds.seen c.load.new.feeds in
    over_loaded (record { feeds = old; out = g.O.Sink.seen c.args.out.now }) (record { feeds = mid; out = g.O.Sink.seen c.count_best.new.out }) c.in-Ok.job.req c.in-Ok-load.universe
    c.count_best.result c.in-Ok.ensures.req
    (loaded_as none_known demo_ask c.in-Ok.job.req c.in-Ok.job.policy old mid c.in-Ok-load.universe c.in-Ok.ensures.req c.in-Ok.ensures.policy (rw c.nothing-packages.ensures at c.in-Ok-load.ensures.loads))
    c.count_best.ensures

pub returns : goal.returns
returns g c =
    let old = g.F.Feeds.seen c.args.feeds.now in
    let mid = g.F.Feeds.seen c.load.new.feeds in
    let out = g.O.Sink.seen c.args.out.now in
    over_refused (record { feeds = old; out = out }) (record { feeds = mid; out = out }) c.in-Err.fault c.refused.result
    (refused_as none_known demo_ask c.in-Ok.job.req c.in-Ok.job.policy old mid c.in-Err.fault c.in-Ok.ensures.req c.in-Ok.ensures.policy (rw c.nothing-packages.ensures at c.in-Err.ensures.refuses)) refl c.refused.ensures
