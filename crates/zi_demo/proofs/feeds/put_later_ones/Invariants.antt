use Rattle.std.proofs.Common.{◌≡◌}
use Rattle.zi_outside.specs.Memory.{sure_told}
use Rattle.zi_demo.proofs.HeldLemmas.{LaterHeld}
use Rattle.zi_demo.proofs.feeds.put_later_ones.Given as goal

abbrev pub invariant-loop-k : goal.invariant-loop-k
invariant-loop-k l =
    LaterHeld l.n l.k (sure_told l.initial.into).holds (sure_told l.into).holds × ((sure_told l.into).asked ≡ (sure_told l.initial.into).asked)
