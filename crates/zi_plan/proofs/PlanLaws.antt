-- The plan, check by check.
use Rattle.std.proofs.Common.{◌≡◌, ℕ, List, [], refl, sym, ap, ◌∙◌, subst, Option, Some, None, Result, Ok, Err, option_map}
use Rattle.std.specs.Option.{option_or}
use Rattle.zi_outside.specs.declared.var.Var.{Var}
use Rattle.zi_outside.specs.Vars.{value_of}
use Rattle.zi_outside.specs.declared.launch.Dir.{Dir}
use Rattle.zi_outside.specs.declared.launch.Launch.{Launch}
use Rattle.zi_bind.specs.declared.fault.BindFault.{BindFault}
use Rattle.zi_bind.specs.declared.fault.BindFault.TheVariants as bind
use Rattle.zi_bind.specs.Answers.{Answers}
use Rattle.zi_sels.specs.declared.types.Selections.{Selections}
use Rattle.zi_plan.specs.declared.fault.PlanFault.{PlanFault}
use Rattle.zi_plan.specs.declared.fault.PlanFault.TheVariants as fault
use Rattle.zi_plan.specs.Placed.{Placed, all_placed, without_folder, exposed}
use Rattle.zi_plan.specs.Chain.{Asked, Link, Leads, last_fault}
use Rattle.zi_plan.specs.Launches.{all_bindings, in_shims, shims_exposed, binding_fault, chain_words, spoken_all}
use Rattle.zi_plan.specs.Plans.{UnlessMemory, Tells, Plans, PlansFrom, PlansCommand, PlansPlaced, of_chain, bound, checked, launched, said, fault_by}
use Rattle.zi_plan.specs.Steps.{Says}
use Rattle.zi_plan.proofs.BindingLaws.{unless_memory}

-- what is told follows from what is told so
pub tells_map : {X : Type 0} (P Q : Result X PlanFault → Type 0) → ((r : Result X PlanFault) → P r → Q r) → (r : Result X PlanFault) → Tells P r → Tells Q r
tells_map P Q f (Ok x) h = f (Ok x) h
tells_map P Q f (Err e) h = unless_memory e (f (Err e)) h

-- an argument's fault
pub argument_fault : {X : Type 0} (expected : Result X BindFault) (f : BindFault) → (f ≡ bind.Memory → ⊥) → Answers expected (Err f) → expected ≡ Err f
argument_fault expected (bind.Unset name) not_memory h = h
argument_fault expected (bind.BadDollar place) not_memory h = h
argument_fault expected bind.Memory not_memory h = absurd (not_memory refl)

-- The checks behind the chain.
module _ (ps : List Placed) (shims : List (List ℕ)) (vars : List Var) (user : List (List ℕ)) (links : List Link) where
  pub last_refused : (e : PlanFault) → UnlessMemory e (last_fault links ≡ Some e) → UnlessMemory e (of_chain ps shims vars user links ≡ Err e)
  last_refused e h = unless_memory e (λ f. ap (λ o. checked ps shims (bound ps shims vars) user links (option_or o (option_map fault_by (binding_fault (all_bindings ps))))) f) h

  pub binding_refused : last_fault links ≡ None → (e : PlanFault) → UnlessMemory e (option_map fault_by (binding_fault (all_bindings ps)) ≡ Some e) → UnlessMemory e (of_chain ps shims vars user links ≡ Err e)
  binding_refused n e h = unless_memory e
      (λ f. ap (λ o. checked ps shims (bound ps shims vars) user links (option_or o (option_map fault_by (binding_fault (all_bindings ps))))) n
      ∙ ap (checked ps shims (bound ps shims vars) user links) f) h

  in_order : last_fault links ≡ None → binding_fault (all_bindings ps) ≡ None → (new : List Var) → new ≡ bound ps shims vars
      → of_chain ps shims vars user links ≡ launched ps shims new (said user (spoken_all (value_of new) (chain_words links)))
  in_order n b new v =
      ap (λ o. checked ps shims (bound ps shims vars) user links (option_or o (option_map fault_by (binding_fault (all_bindings ps))))) n
      ∙ ap (λ o. checked ps shims (bound ps shims vars) user links (option_map fault_by o)) b
      ∙ ap (λ vs. launched ps shims vs (said user (spoken_all (value_of vs) (chain_words links)))) (sym v)

  pub words_refused : last_fault links ≡ None → binding_fault (all_bindings ps) ≡ None → (new : List Var) → new ≡ bound ps shims vars → (e : PlanFault)
      → UnlessMemory e (said user (spoken_all (value_of new) (chain_words links)) ≡ Err e) → UnlessMemory e (of_chain ps shims vars user links ≡ Err e)
  words_refused n b new v e h = unless_memory e (λ f. in_order n b new v ∙ ap (launched ps shims new) f) h

  pub all_launched : last_fault links ≡ None → binding_fault (all_bindings ps) ≡ None → (new : List Var) → new ≡ bound ps shims vars → (words : List (List ℕ)) (dirs folders : List Dir)
      → said user (spoken_all (value_of new) (chain_words links)) ≡ Ok words → dirs ≡ exposed ps → folders ≡ shims_exposed (in_shims (all_bindings ps) shims)
      → of_chain ps shims vars user links ≡ Ok (record { words = words; vars = new; dirs = dirs; shims = folders })
  all_launched n b new v words dirs folders w d f =
      in_order n b new v ∙ ap (launched ps shims new) w
      ∙ ap {B = Result Launch PlanFault} (λ ds. Ok (record { words = words; vars = new; dirs = ds; shims = shims_exposed (in_shims (all_bindings ps) shims) })) (sym d)
      ∙ ap {B = Result Launch PlanFault} (λ ds. Ok (record { words = words; vars = new; dirs = dirs; shims = ds })) (sym f)

-- The chain is followed.
module _ (ps : List Placed) (shims : List (List ℕ)) (vars : List Var) (user : List (List ℕ)) (asked : Asked) where
  pub from_refused : (e : PlanFault) → UnlessMemory e (Leads ps [] asked (Err e)) → UnlessMemory e (PlansFrom ps shims vars user asked (Err e))
  from_refused e h = unless_memory e (λ l. (Err e, l, refl)) h

  pub from_launched : (links : List Link) → Leads ps [] asked (Ok links) → (r : Result Launch PlanFault) → Says (of_chain ps shims vars user links) r → Tells (PlansFrom ps shims vars user asked) r
  from_launched links l r h = tells_map (λ q. of_chain ps shims vars user links ≡ q) (PlansFrom ps shims vars user asked) (λ q e. (Ok links, l, sym e)) r h

-- The first checks.
pub command_lacking : (ps : List Placed) (shims : List (List ℕ)) (vars : List Var) (user : List (List ℕ)) (interface : List ℕ) (command : Option (List ℕ)) → command ≡ None
    → (told empty : List ℕ) → told ≡ interface → empty ≡ [] → PlansCommand ps shims vars user interface command (Err (fault.NoCommand told empty))
command_lacking ps shims vars user interface command c told empty t e =
    subst (λ o. PlansCommand ps shims vars user interface o (Err (fault.NoCommand told empty))) (sym c)
    (ap (λ x. Err (fault.NoCommand x empty)) t ∙ ap (λ x. Err (fault.NoCommand interface x)) e)

pub asked_is : (i j n m : List ℕ) → i ≡ j → n ≡ m → ◌≡◌ {A = Asked} (record { interface = i; command = n }) (record { interface = j; command = m })
asked_is i j n m e f = ap {B = Asked} (λ t. record { interface = t; command = n }) e ∙ ap {B = Asked} (λ t. record { interface = j; command = t }) f

pub command_from : (ps : List Placed) (shims : List (List ℕ)) (vars : List Var) (user : List (List ℕ)) (interface : List ℕ) (command : Option (List ℕ)) (name : List ℕ) → command ≡ Some name
    → (asked : Asked) → asked ≡ record { interface = interface; command = name } → (r : Result Launch PlanFault) → Tells (PlansFrom ps shims vars user asked) r → Tells (PlansCommand ps shims vars user interface command) r
command_from ps shims vars user interface command name c asked a r h = tells_map (PlansFrom ps shims vars user asked) (PlansCommand ps shims vars user interface command)
    (λ q k. subst (λ o. PlansCommand ps shims vars user interface o q) (sym c) (subst (λ x. PlansFrom ps shims vars user x q) a k)) r h

module _ (s : Selections) (vars : List Var) (user : List (List ℕ)) (folders : List (Option (List ℕ))) (shims : List (List ℕ)) where
  pub folder_refused : (e : PlanFault) → UnlessMemory e (option_map (λ interface. fault.NoFolder interface) (without_folder s.items folders) ≡ Some e) → UnlessMemory e (Plans s vars user folders shims (Err e))
  folder_refused e h = unless_memory e (by_folder (without_folder s.items folders)) h
    where
      by_folder : (o : Option (List ℕ)) → option_map (λ interface. fault.NoFolder interface) o ≡ Some e → PlansPlaced s vars user (all_placed s.items folders) shims o (Err e)
      by_folder None k = absurd (cc)
      by_folder (Some i) k = let same : e ≡ fault.NoFolder i = cc in ap (λ f. Err f) same

  pub plan_placed : without_folder s.items folders ≡ None → (ps : List Placed) → ps ≡ all_placed s.items folders → (texts : List (List ℕ)) → texts ≡ shims → (r : Result Launch PlanFault)
      → Tells (PlansCommand ps texts vars user s.interface s.command) r → Tells (Plans s vars user folders shims) r
  plan_placed w ps p texts t r h = tells_map (PlansCommand ps texts vars user s.interface s.command) (Plans s vars user folders shims)
      (λ q k. subst (λ o. PlansPlaced s vars user (all_placed s.items folders) shims o q) (sym w)
      (subst (λ x. PlansCommand (all_placed s.items folders) x vars user s.interface s.command q) t (subst (λ x. PlansCommand x texts vars user s.interface s.command q) p k))) r h
