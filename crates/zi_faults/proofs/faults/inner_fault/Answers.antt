use Rattle.std.proofs.Common.{◌∙◌}
use Rattle.zi_reading.specs.Ways.{ways_of}
use Rattle.zi_elements.specs.Forest.{element_view}
use Rattle.zi_faults.specs.Faults.{repeats_in, shims_in}
use Rattle.zi_faults.proofs.RepeatLaws.{both_bad}
use Rattle.zi_faults.proofs.faults.inner_fault.Goals as goal

pub returns : goal.returns
returns c =
    c.lesser_of.ensures
    ∙ both_bad (repeats_in (ways_of c.args.ways) (element_view c.args.e.now)) (shims_in (ways_of c.args.ways) (element_view c.args.e.now)) _ _
    c.in_ok-repeat.ensures c.in_ok-shim.ensures
