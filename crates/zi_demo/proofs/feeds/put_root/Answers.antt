use Rattle.std.proofs.Common.{arith}
use Rattle.std.specs.Prelude.{codes}
use Rattle.zi_outside.specs.Memory.{sure_told}
use Rattle.zi_demo.specs.Feeds.{root}
use Rattle.zi_demo.proofs.WritableLemmas.{root_written}
use Rattle.zi_demo.proofs.HeldLemmas.{feed_put}
use Rattle.zi_demo.proofs.feeds.put_root.Goals as goal

pub put_feed-requires : goal.put_feed-requires
put_feed-requires c = root_written c.in_ok-versions.versions c.args.n c.in_ok-versions.ensures (omega arith)

pub returns-clause-held : goal.returns-clause-held
returns-clause-held c =
    feed_put c.put_feed.result (root c.args.n) (codes "root") c.in_ok-versions.versions (sure_told c.args.into.now).holds (sure_told c.put_feed.new.into).holds
    c.in_ok-versions.ensures c.put_feed.ensures.held
