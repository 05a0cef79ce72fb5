use Rattle.std.proofs.Common.{◌≡◌, ◌++◌, drop}
use Rattle.zi_sels.proofs.PieceLaws.{items_of}
use Rattle.zi_sels.proofs.copies.copy_inherited.Given as goal

abbrev pub invariant-loop-piece : goal.invariant-loop-piece
invariant-loop-piece l = l.copy ++ (items_of (drop l.piece-index l.piece-items)) ≡ (items_of l.piece-items)
