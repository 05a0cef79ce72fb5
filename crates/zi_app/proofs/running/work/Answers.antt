use Rattle.std.proofs.Common.{map}
use Rattle.zi_app.proofs.RunLemmas.{answered, words_unread}
use Rattle.zi_app.proofs.running.work.Goals as goal

pub returns-in-Ok : goal.returns-in-Ok
returns-in-Ok g c =
    answered c.args.words.now c.in-Ok.request c.args.vars.now (record { feeds = g.F.Feeds.seen c.args.feeds.now; shelf = g.K.Shelf.seen c.args.shelf.now; others = map g.R.Shelf.seen c.args.others.now; web = g.W.Web.seen c.args.web.now; spawner = g.P.Spawner.seen c.args.spawner.now; out = g.O.Sink.seen c.args.out.now })
    (record { feeds = g.F.Feeds.seen c.answer.new.feeds; shelf = g.K.Shelf.seen c.answer.new.shelf; others = map g.R.Shelf.seen c.answer.new.others; web = g.W.Web.seen c.answer.new.web; spawner = g.P.Spawner.seen c.answer.new.spawner; out = g.O.Sink.seen c.answer.new.out })
    c.answer.result c.in-Ok.ensures c.answer.ensures

pub returns-in-Err : goal.returns-in-Err
returns-in-Err g c = words_unread c.args.words.now c.args.vars.now c.in-Err.fault (record { feeds = g.F.Feeds.seen c.args.feeds.now; shelf = g.K.Shelf.seen c.args.shelf.now; others = map g.R.Shelf.seen c.args.others.now; web = g.W.Web.seen c.args.web.now; spawner = g.P.Spawner.seen c.args.spawner.now; out = g.O.Sink.seen c.args.out.now }) c.unread.result c.in-Err.ensures c.unread.ensures
