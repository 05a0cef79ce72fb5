use Rattle.std.proofs.Common.{take}
use Rattle.zi_launching.proofs.AddLaws.{AreAdded}
use Rattle.zi_launching.proofs.shims.add_shims.Given as goal

abbrev pub invariant-loop-call : goal.invariant-loop-call
invariant-loop-call g l = AreAdded l.fn.stored (take l.call-index l.calls) (g.K.Shelf.seen l.fn.shelf) l.names l.stored (g.K.Shelf.seen l.shelf)
