use Rattle.std.proofs.Common.{◌≡◌, drop}
use Rattle.std.specs.List.{flat_map}
use Rattle.zi_reading.specs.Words.{first}
use Rattle.zi_reading.specs.Views.{views}
use Rattle.zi_sels.specs.Refused.{asking_at, unmet}
use Rattle.zi_sels.proofs.closed.unmet_in.Given as goal

abbrev pub invariant-loop-part : goal.invariant-loop-part
invariant-loop-part l =
    first (unmet l.fn.selected (flat_map asking_at (views (drop l.part-index l.part-items)))) ≡ first (unmet l.fn.selected (flat_map asking_at (views l.part-items)))
