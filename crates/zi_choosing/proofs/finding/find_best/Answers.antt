use Rattle.std.proofs.Common.{inl, ◌∷◌, map}
use Rattle.std.proofs.lemmas.Result.{err_from_is_err_and}
use Rattle.zi_world.proofs.AskingLemmas.{stays_then}
use Rattle.zi_choosing.proofs.FindLemmas.{finds_over}
use Rattle.zi_choosing.proofs.finding.find_best.Goals as goal

pub returns : goal.returns
returns g c =
    let mid = g.F.Feeds.seen c.known_of.new.feeds in
    record {
      feeds = stays_then (g.F.Feeds.seen c.args.feeds.now) mid (g.F.Feeds.seen c.find_over.new.feeds) c.in_ok-known.ensures.stays c.find_over.ensures.feeds;
      stores = c.in_ok-known.ensures.keeps;
      answer =
          finds_over c.args.asked c.in_ok-known.known mid (record { feeds = g.F.Feeds.seen c.args.feeds.now; stores = g.K.Shelf.seen c.args.shelf.now ∷ map g.R.Shelf.seen c.args.others.now })
          (record { feeds = g.F.Feeds.seen c.find_over.new.feeds; stores = g.K.Shelf.seen c.known_of.new.shelf ∷ map g.R.Shelf.seen c.known_of.new.others }) c.find_over.result c.in_ok-known.ensures.known c.find_over.ensures.chooses;
    }

pub returns-in_err-known : goal.returns-in_err-known
returns-in_err-known g c =
    let q = err_from_is_err_and c.from_residual.result c.from_residual.ensures.1 in
    rw (q.1, q.2)
    (record {
      feeds = c.known_of.ensures.stays;
      stores = c.known_of.ensures.keeps;
      answer = inl c.in_err-known.ensures.known;
    })
