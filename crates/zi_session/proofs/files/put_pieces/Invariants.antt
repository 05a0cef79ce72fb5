use Rattle.std.proofs.Common.{◌≡◌, ◌++◌, map, length}
use Rattle.zi_shelf.specs.Filling.{Append}
use Rattle.zi_session.specs.Works.{pieces}
use Rattle.zi_session.specs.AtPlace.{calls}
use Rattle.zi_session.proofs.files.put_pieces.Given as goal

abbrev pub invariant-loop-rest : goal.invariant-loop-rest
invariant-loop-rest l = calls l.works.items ++ map (Append l.path) (pieces l.rest) ≡ calls l.fn.works.items ++ map (Append l.path) (pieces l.bytes)

abbrev pub decreases-loop-rest : goal.decreases-loop-rest
decreases-loop-rest l = length l.rest
