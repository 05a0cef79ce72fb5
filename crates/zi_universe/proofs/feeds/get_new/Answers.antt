use Rattle.std.proofs.Common.{◌<◌, length, arith}
use Rattle.zi_outside.specs.Views.{holding}
use Rattle.zi_universe.specs.Whole.{most_feeds}
use Rattle.zi_universe.proofs.ListingLemmas.{gets_one}
use Rattle.zi_universe.proofs.feeds.get_new.Goals as goal

pub returns-clause-got : goal.returns-clause-got
returns-clause-got g c =
    let seen = g.F.Feeds.seen c.args.feeds.now in
    let room : length c.args.table.now < most_feeds = omega (arith, c.requires.few, c.len.ensures, c.if-len-eq-MOST_FEEDS.false) in
    gets_one (holding seen) c.args.root.now c.args.policy.now c.args.uri.now c.args.table.now c.push.new.self c.in_ok-read.read.feed
    c.requires.new room c.in_ok-read.ensures.fetched.0 c.in_ok-read.ensures.fetched.1 c.in_ok-push.ensures
