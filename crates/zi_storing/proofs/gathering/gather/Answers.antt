use Rattle.zi_storing.proofs.GatheringLemmas.{names_right}
use Rattle.zi_storing.proofs.gathering.gather.Goals as goal

pub tree_of-requires : goal.tree_of-requires
tree_of-requires g c = names_right c.args.files.now (g.F.Feeds.seen c.args.feeds.now) (g.F.Feeds.seen c.get_parts.new.feeds) c.in-Ok.held c.in-Ok.ensures c.requires
