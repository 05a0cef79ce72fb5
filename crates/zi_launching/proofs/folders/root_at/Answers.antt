use Rattle.std.proofs.Common.{◌∙◌, rules}
use Rattle.zi_launching.proofs.FolderLaws.{root_behind, root_beyond}
use Rattle.zi_launching.proofs.folders.root_at.Goals as goal

pub returns-in-Some : goal.returns-in-Some
returns-in-Some g c =
    c.root-in-Some.ensures
    ∙ root_behind g.R.Shelf.seen (g.K.Shelf.seen c.args.shelf.now) c.args.others.now c.args.store c.in-Some.other.now (search rules) c.in-Some.ensures.lookup.3.0 c.in-Some.ensures.lookup.1

pub returns-in-None : goal.returns-in-None
returns-in-None g c = root_beyond g.R.Shelf.seen (g.K.Shelf.seen c.args.shelf.now) c.args.others.now c.args.store (search rules) c.in-None.ensures.lookup.3
