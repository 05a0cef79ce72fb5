use Rattle.std.proofs.Common.{map}
use Rattle.zi_fetching.proofs.FetchableLaws.{all_fetchable}
use Rattle.zi_fetching.proofs.DownloadLaws.{unfound, unfetched, fetched_and_printed}
use Rattle.zi_fetching.proofs.downloading.download.Goals as goal

pub fetch_all-requires : goal.fetch_all-requires
fetch_all-requires g c =
    all_fetchable c.args.asked.ask c.in-Ok.ensures.answer.0 (g.F.Feeds.seen c.find_best.new.feeds) c.in-Ok.chosen c.interfaces-whole.ensures.whole c.in-Ok.ensures.answer.2

pub returns-in-Err : goal.returns-in-Err
returns-in-Err g c =
    unfound c.args.asked (g.F.Feeds.seen c.args.feeds.now) (g.F.Feeds.seen c.find_best.new.feeds) (g.K.Shelf.seen c.args.shelf.now) (g.K.Shelf.seen c.find_best.new.shelf)
    (map g.R.Shelf.seen c.args.others.now) (map g.R.Shelf.seen c.find_best.new.others) (g.W.Web.seen c.args.web.now) (g.O.Sink.seen c.args.out.now) c.in-Err.outcome c.in-Err.ensures

pub returns-in-Ok-fetch_all : goal.returns-in-Ok-fetch_all
returns-in-Ok-fetch_all g c =
    fetched_and_printed c.args.asked (g.F.Feeds.seen c.args.feeds.now) (g.F.Feeds.seen c.find_best.new.feeds) (g.K.Shelf.seen c.args.shelf.now) (g.K.Shelf.seen c.find_best.new.shelf)
    (map g.R.Shelf.seen c.args.others.now) (map g.R.Shelf.seen c.find_best.new.others) c.in-Ok.chosen c.in-Ok.ensures (g.W.Web.seen c.args.web.now) (g.W.Web.seen c.fetch_all.new.web) (g.K.Shelf.seen c.fetch_all.new.shelf)
    (g.O.Sink.seen c.args.out.now) (g.O.Sink.seen c.put_document.new.out) c.in-Ok-fetch_all.field-0 c.put_document.result c.interfaces-whole.ensures.whole c.in-Ok-fetch_all.ensures c.put_document.ensures

pub returns : goal.returns
returns g c =
    unfetched c.args.asked (g.F.Feeds.seen c.args.feeds.now) (g.F.Feeds.seen c.find_best.new.feeds) (g.K.Shelf.seen c.args.shelf.now) (g.K.Shelf.seen c.find_best.new.shelf)
    (map g.R.Shelf.seen c.args.others.now) (map g.R.Shelf.seen c.find_best.new.others) c.in-Ok.chosen c.in-Ok.ensures (g.W.Web.seen c.args.web.now) (g.W.Web.seen c.fetch_all.new.web)
    (g.K.Shelf.seen c.fetch_all.new.shelf) (g.O.Sink.seen c.args.out.now) c.in-Err-fetch_all.outcome c.in-Err-fetch_all.ensures
