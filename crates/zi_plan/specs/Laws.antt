-- The laws that join plans and the words of shims to selections.
use Rattle.std.specs.Prelude.{◌≡◌, ℕ, List, length, Option, Some, None, Result, Ok, Err}
use Rattle.zi_outside.specs.declared.var.Var.{Var}
use Rattle.zi_outside.specs.declared.launch.Launch.{Launch}
use Rattle.zi_sels.specs.declared.types.Selections.{Selections}
use Rattle.zi_plan.specs.declared.fault.PlanFault.{PlanFault}
use Rattle.zi_plan.specs.declared.call.ShimCall.{ShimCall}
use Rattle.zi_plan.specs.Plans.{Plans}
use Rattle.zi_plan.specs.Shims.{ShimsOf}

-- selections have one plan: a launch, or the first check that fails
abbrev pub PlanIsOne : Type 0
PlanIsOne =
    (selections : Selections) (vars : List Var) (user : List (List ℕ)) (folders : List (Option (List ℕ))) (shims : List (List ℕ)) (one other : Result Launch PlanFault)
    → Plans selections vars user folders shims one → Plans selections vars user folders shims other → one ≡ other

-- they have one list of calls of shims, or one fault
abbrev pub ShimsAreOne : Type 0
ShimsAreOne =
    (selections : Selections) (vars : List Var) (folders : List (Option (List ℕ))) (one other : Result (List ShimCall) PlanFault)
    → ShimsOf selections vars folders one → ShimsOf selections vars folders other → one ≡ other

abbrev pub plan_fault_in : {X : Type 0} → Result X PlanFault → Option PlanFault
plan_fault_in (Ok x) = None
plan_fault_in (Err reason) = Some reason

-- whether there is a plan, and its fault, is the same whatever the folders of the shims are
abbrev pub ShimsChangeNoFault : Type 0
ShimsChangeNoFault =
    (selections : Selections) (vars : List Var) (user : List (List ℕ)) (folders : List (Option (List ℕ))) (one other : List (List ℕ)) → length one ≡ length other
    → (result : Result Launch PlanFault) → Plans selections vars user folders one result
    → (r : Result Launch PlanFault) × Plans selections vars user folders other r × (plan_fault_in r ≡ plan_fault_in result)
