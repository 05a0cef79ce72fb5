use Rattle.std.proofs.Common.{ap, sym, ◌∙◌, Some}
use Rattle.zi_faults.specs.Faults.{lesser_of, is_bad_shim}
use Rattle.zi_faults.proofs.RepeatLaws.{bad_next, good_next}
use Rattle.zi_faults.proofs.faults.least_bad_shim.Goals as goal
use Rattle.zi_faults.proofs.faults.least_bad_shim.Goals.{then-is_bad_shim, else-is_bad_shim}

pub loop-e-preserved : goal.loop-e-preserved
loop-e-preserved c = elim c.if-is_bad_shim.branch [
  | then-is_bad_shim w ↦ bad_next is_bad_shim _ _ _ _ _ _ _ c.loop-e-test.true c.e-item.is (sym c.is_bad_shim.ensures ∙ w.if-is_bad_shim.true)
      (w.found-is ∙ (w.lesser_of-found.ensures ∙ ap (λ v. lesser_of c.loop-e.found (Some v)) w.fault_at.ensures)) c.loop-e.invariant
  | else-is_bad_shim w ↦ good_next is_bad_shim _ _ _ _ _ _ _ c.loop-e-test.true c.e-item.is (sym c.is_bad_shim.ensures ∙ w.if-is_bad_shim.false) w.found-is c.loop-e.invariant
]
