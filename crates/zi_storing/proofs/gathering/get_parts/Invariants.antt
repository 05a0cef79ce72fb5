use Rattle.std.proofs.Common.{take}
use Rattle.zi_storing.specs.Gathering.{GetsHeld}
use Rattle.zi_storing.proofs.gathering.get_parts.Given as goal

abbrev pub invariant-loop-file : goal.invariant-loop-file
invariant-loop-file g l = GetsHeld (take l.file-index l.files) (g.F.Feeds.seen l.fn.feeds) (g.F.Feeds.seen l.feeds) l.held
