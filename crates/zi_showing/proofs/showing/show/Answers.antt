use Rattle.std.proofs.Common.{map}
use Rattle.zi_showing.proofs.ShowLaws.{unread}
use Rattle.zi_showing.proofs.showing.show.Goals as goal

pub returns-in-Err : goal.returns-in-Err
returns-in-Err g c =
    unread c.args.file (g.F.Feeds.seen c.args.feeds.now) (g.F.Feeds.seen c.get_selections.new.feeds) (g.K.Shelf.seen c.args.shelf.now) (map g.R.Shelf.seen c.args.others.now) (g.O.Sink.seen c.args.out.now)
    c.in-Err.outcome c.in-Err.ensures.gets c.in-Err.ensures.stays
