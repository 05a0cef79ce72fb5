use Rattle.zi_universe.proofs.KeyLemmas.{at_index}
use Rattle.zi_universe.proofs.ranking.shares_at.Goals as goal

pub returns : goal.returns
returns c = at_index c.args.feeds.now c.args.feed c.index-feeds-feed.result c.as_ref.result.now c.requires c.index-feeds-feed.is c.as_ref.ensures
