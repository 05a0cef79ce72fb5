use Rattle.std.proofs.Common.{◌≡◌, drop}
use Rattle.zi_reading.specs.Words.{first}
use Rattle.zi_reading.specs.Views.{views}
use Rattle.zi_sels.specs.Refused.{unmet}
use Rattle.zi_sels.proofs.ClosedLaws.{in_selections}
use Rattle.zi_sels.proofs.closed.first_unclosed.Given as goal

abbrev pub invariant-loop-part : goal.invariant-loop-part
invariant-loop-part l =
    first (unmet l.fn.selected (in_selections (views (drop l.part-index l.part-items)))) ≡ first (unmet l.fn.selected (in_selections (views l.part-items)))
