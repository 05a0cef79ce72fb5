use Rattle.zi_showing.proofs.PieceLaws.{taken}
use Rattle.zi_showing.proofs.left.take.Goals as goal

pub returns : goal.returns
returns c =
    taken c.args.interface.now c.remove.result c.args.left.now.entries c.remove.new.self.entries c.remove.ensures.value c.remove.ensures.updates.0 c.remove.ensures.unchanged c.remove.ensures.len
