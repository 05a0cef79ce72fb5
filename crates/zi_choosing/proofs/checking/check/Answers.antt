use Rattle.std.proofs.Common.{inl, inr, refl}
use Rattle.zi_world.proofs.AskingLemmas.{stays_then}
use Rattle.zi_choosing.proofs.checking.check.Goals as goal

pub returns-in-Ok : goal.returns-in-Ok
returns-in-Ok g c = record {
  feeds = stays_then (g.F.Feeds.seen c.args.feeds.now) (g.F.Feeds.seen c.known_of.new.feeds) (g.F.Feeds.seen c.check_over.new.feeds) c.in-Ok.ensures.stays c.check_over.ensures.feeds;
  stores = c.in-Ok.ensures.keeps;
  answer = inr (record { known = c.in-Ok.known; feeds = g.F.Feeds.seen c.known_of.new.feeds; found = c.in-Ok.ensures.known }, c.check_over.ensures.over);
}

pub returns-in-Err : goal.returns-in-Err
returns-in-Err g c = record {
  feeds = c.in-Err.ensures.stays;
  stores = c.in-Err.ensures.keeps;
  answer = inl (c.in-Err.ensures.known, refl);
}
