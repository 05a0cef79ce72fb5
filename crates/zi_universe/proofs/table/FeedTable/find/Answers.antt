use Rattle.std.proofs.Common.{◌∙◌, ap, option_map}
use Rattle.zi_feed.specs.declared.shares.ReadFeed.{ReadFeed}
use Rattle.zi_universe.specs.Tables.{find_feed}
use Rattle.zi_universe.proofs.TableLemmas.{lookup_feed, lent_shared}
use Rattle.zi_universe.proofs.table.FeedTable.find.Goals as goal

pub returns-clause-feed : goal.returns-clause-feed
returns-clause-feed c =
    ap (option_map (λ (r : ReadFeed). r.feed)) c.get.ensures.value ∙ lookup_feed c.self.inside.feeds.entries c.args.uri.now c.self.invariant
    ∙ ap (λ fs. find_feed fs c.args.uri.now) c.self.view_is

pub returns-clause-shared : goal.returns-clause-shared
returns-clause-shared c = lent_shared c.get.result c.self.inside.feeds.entries c.args.uri.now c.get.ensures.value c.self.invariant
