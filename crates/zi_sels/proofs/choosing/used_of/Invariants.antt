use Rattle.std.proofs.Common.{◌≡◌, ◌++◌, drop}
use Rattle.zi_sels.specs.Chosen.{used_of}
use Rattle.zi_sels.specs.Settings.{universe_of, picks_of, walk_of}
use Rattle.zi_sels.proofs.PieceLaws.{items_of}
use Rattle.zi_sels.proofs.choosing.used_of.Given as goal

abbrev pub invariant-loop-piece : goal.invariant-loop-piece
invariant-loop-piece l = l.copy ++ used_of (universe_of l.on) (picks_of l.on) (walk_of l.on) l.i (items_of (drop l.piece-index l.piece-items)) ≡ used_of (universe_of l.on) (picks_of l.on) (walk_of l.on) l.i (items_of l.piece-items)
