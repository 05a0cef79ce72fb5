use Rattle.std.proofs.Common.{map}
use Rattle.zi_app.proofs.RunLemmas.{works_told}
use Rattle.zi_app.proofs.running.run.Goals as goal

pub returns : goal.returns
returns g c =
    works_told (record { texts = c.what_is_due_comes.ensures.texts; select = c.what_is_due_comes.ensures.select; refute = c.what_is_due_comes.ensures.refute; check = c.what_is_due_comes.ensures.check; loadings = c.what_is_due_comes.ensures.loadings; launches = c.what_is_due_comes.ensures.launches })
    c.args.words.now c.args.vars.now (record { feeds = g.F.Feeds.seen c.args.feeds.now; shelf = g.K.Shelf.seen c.args.shelf.now; others = map g.R.Shelf.seen c.args.others.now; web = g.W.Web.seen c.args.web.now; spawner = g.P.Spawner.seen c.args.spawner.now; out = g.O.Sink.seen c.args.out.now })
    (record { feeds = g.F.Feeds.seen c.work-outcome.new.feeds; shelf = g.K.Shelf.seen c.work-outcome.new.shelf; others = map g.R.Shelf.seen c.work-outcome.new.others; web = g.W.Web.seen c.work-outcome.new.web; spawner = g.P.Spawner.seen c.work-outcome.new.spawner; out = g.O.Sink.seen c.work-outcome.new.out })
    (g.E.Sink.seen c.args.err.now) (g.E.Sink.seen c.told.new.err) c.work-outcome.result c.told.result c.work-outcome.ensures c.told.ensures.tells c.told.ensures.status
