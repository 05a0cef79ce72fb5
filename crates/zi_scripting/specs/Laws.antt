-- What a script sets makes the variables of the plan that it was made of.
use Rattle.std.specs.Prelude.{◌≡◌, ℕ, true, List, Option, Ok}
use Rattle.zi_outside.specs.declared.launch.Launch.{Launch}
use Rattle.zi_outside.specs.declared.var.Var.{Var}
use Rattle.zi_outside.specs.Vars.{value_of, are_in_order}
use Rattle.zi_script.specs.Script.{changed, set_in_turn}
use Rattle.zi_sels.specs.declared.types.Selections.{Selections}
use Rattle.zi_plan.specs.Plans.{Plans}

-- over any variables, which stand in order
abbrev pub ScriptsMakeTheirVariables : Type 0
ScriptsMakeTheirVariables =
    (sels : Selections) (vars : List Var) (user : List (List ℕ)) (folders : List (Option (List ℕ))) (shims : List (List ℕ)) (launch : Launch)
    → are_in_order vars ≡ true → Plans sels vars user folders shims (Ok launch)
    → (name : List ℕ) → set_in_turn (changed vars launch.vars) (value_of vars) name ≡ value_of launch.vars name
