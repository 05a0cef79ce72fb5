use Rattle.zi_edge.proofs.FeedsLemmas.{delivered}
use Rattle.zi_edge.proofs.folder_feeds.FolderFeedsFeeds.get.Goals as goal

pub returns-in-Ok : goal.returns-in-Ok
returns-in-Ok g c = record {
  gets = delivered c.args.self.now.faults (record { key = c.args.uri.now; limit = c.args.limit; buffer = c.args.into.now.items }) c.deliver.result c.deliver.new.into.items
      (c.deliver.ensures.found c.args.uri.now) c.deliver.ensures.refused c.deliver.ensures.cause;
}
