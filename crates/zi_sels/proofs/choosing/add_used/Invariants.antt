use Rattle.std.proofs.Common.{◌≡◌, ◌++◌, drop}
use Rattle.zi_sels.specs.Chosen.{used_of}
use Rattle.zi_sels.specs.Settings.{universe_of, picks_of, walk_of}
use Rattle.zi_sels.proofs.choosing.add_used.Given as goal

abbrev pub invariant-loop-command : goal.invariant-loop-command
invariant-loop-command l =
    l.copy ++ used_of (universe_of l.on) (picks_of l.on) (walk_of l.on) l.i (drop l.command-index l.commands)
    ≡ l.fn.copy ++ used_of (universe_of l.on) (picks_of l.on) (walk_of l.on) l.i l.commands
