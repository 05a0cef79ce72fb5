-- The plan: a launch, or the first of the checks that fails, in their order.
use Rattle.std.specs.Prelude.{◌≡◌, ℕ, List, [], ◌++◌, Option, Some, None, Result, Ok, Err, option_map}
use Rattle.std.specs.Option.{option_or}
use Rattle.zi_outside.specs.declared.var.Var.{Var}
use Rattle.zi_outside.specs.Vars.{value_of}
use Rattle.zi_outside.specs.declared.launch.Launch.{Launch}
use Rattle.zi_bind.specs.declared.fault.ApplyFault.{ApplyFault}
use Rattle.zi_bind.specs.declared.fault.ApplyFault.TheVariants as apply
use Rattle.zi_bind.specs.declared.fault.BindFault.{BindFault}
use Rattle.zi_sels.specs.declared.types.Selections.{Selections}
use Rattle.zi_plan.specs.declared.fault.PlanFault.{PlanFault}
use Rattle.zi_plan.specs.declared.fault.PlanFault.TheVariants as fault
use Rattle.zi_plan.specs.Placed.{Placed, all_placed, without_folder, exposed}
use Rattle.zi_plan.specs.Chain.{Asked, Link, Leads, last_fault}
use Rattle.zi_plan.specs.Launches.{all_bindings, in_shims, bound_in, shims_exposed, binding_fault, chain_words, spoken_all}

-- why a binding can't be applied, as a fault of the plan
abbrev pub fault_by : ApplyFault → PlanFault
fault_by (apply.Unbuilt element) = fault.Unbuilt element
fault_by (apply.BadPath text) = fault.BadPath text
fault_by apply.Memory = fault.Memory

-- the words and then the user's as they stand, or the first argument's fault
abbrev pub said : List (List ℕ) → Result (List (List ℕ)) BindFault → Result (List (List ℕ)) PlanFault
said user (Ok words) = Ok (words ++ user)
said user (Err reason) = Err (fault.Bind reason)

abbrev pub launched : List Placed → List (List ℕ) → List Var → Result (List (List ℕ)) PlanFault → Result Launch PlanFault
launched ps shims vars (Ok words) =
    Ok (record { words = words; vars = vars; dirs = exposed ps; shims = shims_exposed (in_shims (all_bindings ps) shims) })
launched ps shims vars (Err reason) = Err reason

-- Behind the checks of the chain: its last command has a path, then each binding can be applied, then each argument stands for
-- something over the variables after all bindings.
abbrev pub checked : List Placed → List (List ℕ) → List Var → List (List ℕ) → List Link → Option PlanFault → Result Launch PlanFault
checked ps shims vars user links (Some reason) = Err reason
checked ps shims vars user links None = launched ps shims vars (said user (spoken_all (value_of vars) (chain_words links)))

-- the variables after all bindings, with these folders of shims
abbrev pub bound : List Placed → List (List ℕ) → List Var → List Var
bound ps shims vars = bound_in (in_shims (all_bindings ps) shims) vars

abbrev pub of_chain : List Placed → List (List ℕ) → List Var → List (List ℕ) → List Link → Result Launch PlanFault
of_chain ps shims vars user links =
    checked ps shims (bound ps shims vars) user links (option_or (last_fault links) (option_map fault_by (binding_fault (all_bindings ps))))

abbrev pub by_chain : List Placed → List (List ℕ) → List Var → List (List ℕ) → Result (List Link) PlanFault → Result Launch PlanFault
by_chain ps shims vars user (Err reason) = Err reason
by_chain ps shims vars user (Ok links) = of_chain ps shims vars user links

-- the chain from a command on is followed
abbrev pub PlansFrom : List Placed → List (List ℕ) → List Var → List (List ℕ) → Asked → Result Launch PlanFault → Type 0
PlansFrom ps shims vars user asked result =
    (chain : Result (List Link) PlanFault) × Leads ps [] asked chain × (result ≡ by_chain ps shims vars user chain)

-- a command is asked for
abbrev pub PlansCommand : List Placed → List (List ℕ) → List Var → List (List ℕ) → List ℕ → Option (List ℕ) → Result Launch PlanFault → Type 0
PlansCommand ps shims vars user interface None result = result ≡ Err (fault.NoCommand interface [])
PlansCommand ps shims vars user interface (Some name) result = PlansFrom ps shims vars user (record { interface = interface; command = name }) result

-- each selection has a folder, but a package
abbrev pub PlansPlaced : Selections → List Var → List (List ℕ) → List Placed → List (List ℕ) → Option (List ℕ) → Result Launch PlanFault → Type 0
PlansPlaced selections vars user ps shims (Some interface) result = result ≡ Err (fault.NoFolder interface)
PlansPlaced selections vars user ps shims None result = PlansCommand ps shims vars user selections.interface selections.command result

-- The plan of selections over variables, with the user's words, the folders of the selections, and those of the shims of the bindings
-- that make a command available, in the order of these.
abbrev pub Plans : Selections → List Var → List (List ℕ) → List (Option (List ℕ)) → List (List ℕ) → Result Launch PlanFault → Type 0
Plans selections vars user folders shims result =
    PlansPlaced selections vars user (all_placed selections.items folders) shims (without_folder selections.items folders) result

-- what is told is so, but for want of memory, which says nothing
abbrev pub UnlessMemory : PlanFault → Type 0 → Type 0
UnlessMemory fault.Memory fact = Unit {0}
UnlessMemory _ fact = fact

abbrev pub Tells : {X : Type 0} → (Result X PlanFault → Type 0) → Result X PlanFault → Type 0
Tells says (Ok value) = says (Ok value)
Tells says (Err reason) = UnlessMemory reason (says (Err reason))
