use Rattle.std.proofs.Common.{◌≡◌, drop}
use Rattle.std.specs.List.{flat_map}
use Rattle.zi_universe.specs.Candidates.{asked_by_command}
use Rattle.zi_universe.specs.Naming.{joined}
use Rattle.zi_universe.proofs.PieceLemmas.{items_of}
use Rattle.zi_universe.proofs.naming.add_inherited_commands.Given as goal

abbrev pub invariant-loop-piece : goal.invariant-loop-piece
invariant-loop-piece l =
    joined l.names.keys (flat_map asked_by_command (items_of (drop l.piece-index l.piece-items))) ≡ joined l.fn.names.keys (flat_map asked_by_command (items_of l.piece-items))
