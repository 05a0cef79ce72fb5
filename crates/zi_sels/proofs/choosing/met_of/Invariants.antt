use Rattle.std.proofs.Common.{◌≡◌, ◌++◌, drop}
use Rattle.zi_sels.specs.Chosen.{met}
use Rattle.zi_sels.specs.Settings.{universe_of, picks_of}
use Rattle.zi_sels.proofs.PieceLaws.{items_of}
use Rattle.zi_sels.proofs.choosing.met_of.Given as goal

abbrev pub invariant-loop-piece : goal.invariant-loop-piece
invariant-loop-piece l = l.copy ++ met (universe_of l.on) (picks_of l.on) (items_of (drop l.piece-index l.piece-items)) ≡ met (universe_of l.on) (picks_of l.on) (items_of l.piece-items)
