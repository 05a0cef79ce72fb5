use Rattle.std.proofs.Common.{◌≡◌, drop, filter}
use Rattle.zi_reading.specs.Words.{first}
use Rattle.zi_reading.specs.Views.{views}
use Rattle.zi_sels.specs.Refused.{asks_within, unmet}
use Rattle.zi_sels.proofs.closed.unmet_within.Given as goal

abbrev pub invariant-loop-part : goal.invariant-loop-part
invariant-loop-part l =
    first (unmet l.fn.selected (filter asks_within (views (drop l.part-index l.part-items)))) ≡ first (unmet l.fn.selected (filter asks_within (views l.part-items)))
