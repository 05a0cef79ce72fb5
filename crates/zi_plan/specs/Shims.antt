-- The words of shims: what each binding that makes a command available means.
use Rattle.std.specs.Prelude.{◌≡◌, ◌⊎◌, ℕ, List, [], ◌∷◌, map, codes, Option, Some, None, Result, Ok, Err}
use Rattle.zi_outside.specs.declared.var.Var.{Var}
use Rattle.zi_outside.specs.Vars.{value_of}
use Rattle.zi_outside.specs.declared.launch.Launch.{Launch}
use Rattle.zi_parts.specs.declared.types.Binding.{Binding}
use Rattle.zi_parts.specs.declared.types.Binding.TheVariants.{Env, ExecVar, ExecPath, Unbuilt}
use Rattle.zi_bind.specs.Expansion.{Values}
use Rattle.zi_bind.specs.declared.fault.ApplyFault.{ApplyFault}
use Rattle.zi_sels.specs.declared.types.Selections.{Selections}
use Rattle.zi_plan.specs.declared.fault.PlanFault.{PlanFault}
use Rattle.zi_plan.specs.declared.fault.PlanFault.TheVariants as fault
use Rattle.zi_plan.specs.declared.call.ShimCall.{ShimCall}
use Rattle.zi_plan.specs.Placed.{Placed, all_placed, without_folder}
use Rattle.zi_plan.specs.Chain.{Asked, Link, Leads, last_fault}
use Rattle.zi_plan.specs.Launches.{Bound, all_bindings, shimmed, binding_fault, chain_words, spoken_all}
use Rattle.zi_plan.specs.Plans.{Plans, fault_by, said, bound}

-- the name of a shim, and of the command that it runs
abbrev pub shim_name : Binding → List ℕ
shim_name (Env name extra mode separator default) = []
shim_name (ExecVar name command) = name
shim_name (ExecPath name command) = name
shim_name (Unbuilt element) = []

abbrev pub shim_command : Binding → List ℕ
shim_command (Env name extra mode separator default) = []
shim_command (ExecVar name command) = command
shim_command (ExecPath name command) = command
shim_command (Unbuilt element) = []

abbrev pub asked_of : Bound → Asked
asked_of b = record { interface = b.interface; command = shim_command b.binding }

-- the call of a shim with these words
abbrev pub call_of : Bound → List (List ℕ) → ShimCall
call_of b words = record { interface = b.interface; command = shim_command b.binding; name = shim_name b.binding; words = words }

-- The words of a command, as in a plan but for the user's: those of its chain, whose last command has a path, or the first fault.
abbrev pub unless : Option PlanFault → Result (List (List ℕ)) PlanFault → Result (List (List ℕ)) PlanFault
unless (Some reason) words = Err reason
unless None words = words

abbrev pub words_by : Values → Result (List Link) PlanFault → Result (List (List ℕ)) PlanFault
words_by values (Err reason) = Err reason
words_by values (Ok links) = unless (last_fault links) (said [] (spoken_all values (chain_words links)))

abbrev pub SaysWords : List Placed → Values → Asked → Result (List (List ℕ)) PlanFault → Type 0
SaysWords ps values asked result = (chain : Result (List Link) PlanFault) × Leads ps [] asked chain × (result ≡ words_by values chain)

abbrev pub behind_call : ShimCall → Result (List ShimCall) PlanFault → Result (List ShimCall) PlanFault
behind_call call (Ok calls) = Ok (call ∷ calls)
behind_call call (Err reason) = Err reason

-- the calls of these bindings, in their order, or the fault of the first that has one
abbrev pub Calls : List Placed → Values → List Bound → Result (List ShimCall) PlanFault → Type 0
Calls ps values [] result = result ≡ Ok []
Calls ps values (b ∷ bs) result =
    ((reason : PlanFault) × SaysWords ps values (asked_of b) (Err reason) × (result ≡ Err reason))
    ⊎ ((words : List (List ℕ)) × (rest : Result (List ShimCall) PlanFault)
    × SaysWords ps values (asked_of b) (Ok words) × Calls ps values bs rest × (result ≡ behind_call (call_of b words) rest))

-- each binding can be applied, and then the words stand over the variables after all bindings but those that make a command available
abbrev pub ShimsBound : List Placed → List Var → Option ApplyFault → Result (List ShimCall) PlanFault → Type 0
ShimsBound ps vars (Some reason) result = result ≡ Err (fault_by reason)
ShimsBound ps vars None result = Calls ps (value_of (bound ps [] vars)) (shimmed (all_bindings ps)) result

abbrev pub ShimsFrom : List Placed → List Var → Result (List ShimCall) PlanFault → Type 0
ShimsFrom ps vars result = ShimsBound ps vars (binding_fault (all_bindings ps)) result

-- each selection has a folder, but a package
abbrev pub ShimsPlaced : List Placed → List Var → Option (List ℕ) → Result (List ShimCall) PlanFault → Type 0
ShimsPlaced ps vars (Some interface) result = result ≡ Err (fault.NoFolder interface)
ShimsPlaced ps vars None result = ShimsFrom ps vars result

-- the calls of all shims of selections, over variables and in these folders
abbrev pub ShimsOf : Selections → List Var → List (Option (List ℕ)) → Result (List ShimCall) PlanFault → Type 0
ShimsOf selections vars folders result = ShimsPlaced (all_placed selections.items folders) vars (without_folder selections.items folders) result

-- The bindings of selections that make a command available, and as many empty texts.
abbrev pub shims_of : Selections → List (Option (List ℕ)) → List Bound
shims_of selections folders = shimmed (all_bindings (all_placed selections.items folders))

abbrev pub empty_texts : {X : Type 0} → List X → List (List ℕ)
empty_texts xs = map (λ x. []) xs

-- The plan where no shim can be made: a binding that makes a command available isn't built, behind all other checks.
abbrev pub shim_element : Binding → List ℕ
shim_element (Env name extra mode separator default) = []
shim_element (ExecVar name command) = codes "executable-in-var"
shim_element (ExecPath name command) = codes "executable-in-path"
shim_element (Unbuilt element) = []

abbrev pub unbuilt_shim : List Bound → Option PlanFault
unbuilt_shim [] = None
unbuilt_shim (b ∷ bs) = Some (fault.Unbuilt (shim_element b.binding))

abbrev pub but_for : Result Launch PlanFault → Option PlanFault → Result Launch PlanFault
but_for (Err other) reason = Err other
but_for (Ok launch) (Some reason) = Err reason
but_for (Ok launch) None = Ok launch

abbrev pub PlansWithoutShims : Selections → List Var → List (List ℕ) → List (Option (List ℕ)) → Result Launch PlanFault → Type 0
PlansWithoutShims selections vars user folders result =
    (planned : Result Launch PlanFault) × Plans selections vars user folders [] planned × (result ≡ but_for planned (unbuilt_shim (shims_of selections folders)))
