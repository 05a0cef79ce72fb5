use Rattle.zi_plan.proofs.FaultLaws.{no_fault_changes}
use Rattle.zi_plan.proofs.laws.shims_change_no_fault.Goals as goal

pub returns : goal.returns
returns c = no_fault_changes
