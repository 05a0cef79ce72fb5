use Rattle.std.proofs.Common.{◌+◌, ◌∙◌, take, ap}
use Rattle.zi_walk.specs.Lists.{lists_of}
use Rattle.zi_walk.proofs.ListLaws.{lists-take}
use Rattle.zi_walk.proofs.tasks.Tasks.truncate.Goals as goal

pub returns : goal.returns
returns c = ap lists_of c.truncate.ensures.items ∙ lists-take c.self.inside.nodes.items c.args.len ∙ ap (take (c.args.len + 1)) c.self.view_is
