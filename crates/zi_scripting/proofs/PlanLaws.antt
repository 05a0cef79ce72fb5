-- The variables of a plan.
use Rattle.std.proofs.Common.{◌≡◌, ℕ, true, List, [], ◌∷◌, ◌++◌, Option, Some, None, Result, Ok, Err, codes, refl, ap, subst, sym}
use Rattle.zi_outside.specs.declared.launch.Launch.{Launch}
use Rattle.zi_outside.specs.declared.var.Var.{Var}
use Rattle.zi_outside.specs.Vars.{value_of, are_in_order, with_var}
use Rattle.zi_parts.specs.declared.types.Binding.{Binding}
use Rattle.zi_parts.specs.declared.types.Binding.TheVariants.{Env, ExecVar, ExecPath, Unbuilt}
use Rattle.zi_parts.specs.declared.types.Extra.TheVariants.{Value}
use Rattle.zi_parts.specs.declared.types.Mode.TheVariants.{Prepend}
use Rattle.zi_bind.specs.Bound.{extra_text, old_value, new_value, with_binding}
use Rattle.zi_bind.specs.Shims.{with_shim}
use Rattle.zi_sels.specs.declared.types.Selections.{Selections}
use Rattle.zi_plan.specs.declared.fault.PlanFault.{PlanFault}
use Rattle.zi_plan.specs.Placed.{Placed, all_placed, without_folder, exposed}
use Rattle.zi_plan.specs.Chain.{Asked, Link, last_fault}
use Rattle.zi_plan.specs.Launches.{Bound, all_bindings, in_shims, bound_in, shims_exposed, chain_words, spoken_all, binding_fault}
use Rattle.zi_plan.specs.Plans.{fault_by, said, launched, checked, bound, by_chain, PlansCommand, PlansPlaced, Plans}
use Rattle.zi_script.specs.Script.{changed, set_in_turn}
use Rattle.zi_script.proofs.TurnLaws.{same_variables}
use Rattle.zi_scripting.specs.Laws.{ScriptsMakeTheirVariables}
use Rattle.zi_scripting.proofs.KeptLaws.{IsKept, kept_with}

-- They are those after all bindings.

ok_same : {X : Type 0} (x y : X) → ◌≡◌ {A = Result X PlanFault} (Ok x) (Ok y) → x ≡ y
ok_same x y e = cc

vars_launched : (ps : List Placed) (shims : List (List ℕ)) (vs : List Var) (words : Result (List (List ℕ)) PlanFault) (launch : Launch) → ◌≡◌ {A = Result Launch PlanFault} (Ok launch) (launched ps shims vs words) → launch.vars ≡ vs
vars_launched ps shims vs (Ok words) launch e = ap (λ (l : Launch). l.vars) (ok_same launch _ e)
vars_launched ps shims vs (Err reason) launch e = absurd (cc e)

vars_checked : (ps : List Placed) (shims : List (List ℕ)) (vs : List Var) (user : List (List ℕ)) (links : List Link) (fault : Option PlanFault) (launch : Launch)
    → ◌≡◌ {A = Result Launch PlanFault} (Ok launch) (checked ps shims vs user links fault) → launch.vars ≡ vs
vars_checked ps shims vs user links (Some reason) launch e = absurd (cc e)
vars_checked ps shims vs user links None launch e = vars_launched ps shims vs (said user (spoken_all (value_of vs) (chain_words links))) launch e

vars_by : (ps : List Placed) (shims : List (List ℕ)) (vars : List Var) (user : List (List ℕ)) (chain : Result (List Link) PlanFault) (launch : Launch)
    → ◌≡◌ {A = Result Launch PlanFault} (Ok launch) (by_chain ps shims vars user chain) → launch.vars ≡ bound ps shims vars
vars_by ps shims vars user (Err reason) launch e = absurd (cc e)
vars_by ps shims vars user (Ok links) launch e = vars_checked ps shims (bound ps shims vars) user links _ launch e

vars_of_command : (ps : List Placed) (shims : List (List ℕ)) (vars : List Var) (user : List (List ℕ)) (interface : List ℕ) (command : Option (List ℕ)) (launch : Launch)
    → PlansCommand ps shims vars user interface command (Ok launch) → launch.vars ≡ bound ps shims vars
vars_of_command ps shims vars user interface None launch e = absurd (cc e)
vars_of_command ps shims vars user interface (Some name) launch (chain, leads, e) = vars_by ps shims vars user chain launch e

vars_of_placed : (sels : Selections) (vars : List Var) (user : List (List ℕ)) (ps : List Placed) (shims : List (List ℕ)) (lacking : Option (List ℕ)) (launch : Launch)
    → PlansPlaced sels vars user ps shims lacking (Ok launch) → launch.vars ≡ bound ps shims vars
vars_of_placed sels vars user ps shims (Some interface) launch e = absurd (cc e)
vars_of_placed sels vars user ps shims None launch p = vars_of_command ps shims vars user sels.interface sels.command launch p

-- Bindings keep the order, and take none away.

kept_binding : (old vs : List Var) (folder : List ℕ) (b : Binding) → IsKept old vs → IsKept old (with_binding folder b vs)
unfolding with_binding
kept_binding old vs folder (Env name extra mode separator default) h = kept_with old vs name (new_value mode separator (extra_text folder extra) (old_value vs name default)) h
kept_binding old vs folder (ExecVar name command) h = h
kept_binding old vs folder (ExecPath name command) h = h
kept_binding old vs folder (Unbuilt element) h = h

kept_shim : (old vs : List Var) (folder : List ℕ) (b : Binding) → IsKept old vs → IsKept old (with_shim folder b vs)
unfolding with_shim
kept_shim old vs folder (Env name extra mode separator default) h = h
kept_shim old vs folder (ExecVar name command) h = kept_with old vs name (folder ++ 47 ∷ name) h
kept_shim old vs folder (ExecPath name command) h = kept_binding old vs [] (Env (codes "PATH") (Value folder) Prepend (codes ":") None) h
kept_shim old vs folder (Unbuilt element) h = h

kept_bound : (old : List Var) (bs : List Bound) (vs : List Var) → IsKept old vs → IsKept old (bound_in bs vs)
kept_bound old [] vs h = h
kept_bound old (b ∷ bs) vs h =
    kept_bound old bs (with_shim b.folder b.binding (with_binding b.folder b.binding vs))
    (kept_shim old (with_binding b.folder b.binding vs) b.folder b.binding (kept_binding old vs b.folder b.binding h))

pub make_their_variables : ScriptsMakeTheirVariables
make_their_variables = λ sels vars user folders shims launch ordered plans name.
    let ps = all_placed sels.items folders in
    let is = vars_of_placed sels vars user ps shims (without_folder sels.items folders) launch plans in
    let kept = subst (IsKept vars) (sym is) (kept_bound vars (in_shims (all_bindings ps) shims) vars (record { ordered = ordered; names = λ k h. h })) in
    same_variables vars launch.vars kept.ordered kept.names name
