use Rattle.std.proofs.Common.{map}
use Rattle.zi_outside.specs.Memory.{sure_told}
use Rattle.zi_demo.specs.Feeds.{two}
use Rattle.zi_demo.proofs.WritableLemmas.{two_written}
use Rattle.zi_demo.proofs.HeldLemmas.{feed_put}
use Rattle.zi_demo.proofs.feeds.put_two.Goals as goal

pub put_feed-requires : goal.put_feed-requires
put_feed-requires c = two_written c.in_ok-versions.versions (map (λ x. x.now) c.args.others.now) c.in_ok-versions.ensures c.requires

pub returns-clause-held : goal.returns-clause-held
returns-clause-held c =
    feed_put c.put_feed.result (two c.args.name.now (map (λ x. x.now) c.args.others.now)) c.args.name.now c.in_ok-versions.versions (sure_told c.args.into.now).holds
    (sure_told c.put_feed.new.into).holds c.in_ok-versions.ensures c.put_feed.ensures.held
