use Rattle.std.proofs.Common.{◌≡◌, ◌++◌, drop}
use Rattle.zi_sels.specs.Chosen.{met}
use Rattle.zi_sels.specs.Settings.{universe_of, picks_of}
use Rattle.zi_sels.proofs.choosing.add_met.Given as goal

abbrev pub invariant-loop-dep : goal.invariant-loop-dep
invariant-loop-dep l =
    l.copy ++ met (universe_of l.on) (picks_of l.on) (drop l.dep-index l.deps) ≡ l.fn.copy ++ met (universe_of l.on) (picks_of l.on) l.deps
