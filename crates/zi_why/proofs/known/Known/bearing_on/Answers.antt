use Rattle.zi_why.proofs.KnownLaws.{bears}
use Rattle.zi_why.proofs.known.Known.bearing_on.Goals as goal

pub returns : goal.returns
returns c u s xs h = bears u s xs c.args.i c.args.self.now c.row.result.now c.requires c.row.ensures h
