-- The folders of shims change no fault of a plan.
use Rattle.std.proofs.Common.{◌≡◌, ℕ, true, false, if◌then◌else◌, List, [], ◌∷◌, length, refl, sym, ap, ◌∙◌, Option, Some, None, Result, Ok, Err, option_map}
use Rattle.std.specs.Option.{option_or}
use Rattle.zi_outside.specs.declared.var.Var.{Var}
use Rattle.zi_outside.specs.Vars.{value_of}
use Rattle.zi_outside.specs.declared.launch.Launch.{Launch}
use Rattle.zi_bind.specs.declared.fault.BindFault.{BindFault}
use Rattle.zi_bind.specs.Bound.{with_binding}
use Rattle.zi_bind.specs.Shims.{is_shimmed, with_shim}
use Rattle.zi_bind.specs.Expansion.{Values}
use Rattle.zi_bind.specs.Names.{HaveSameNames, fault_in}
use Rattle.zi_bind.proofs.NameLaws.{same_each, same_word}
use Rattle.zi_bind.proofs.SetLaws.{names, same_names, after, names_after}
use Rattle.zi_sels.specs.declared.types.Selections.{Selections}
use Rattle.zi_plan.specs.declared.fault.PlanFault.{PlanFault}
use Rattle.zi_plan.specs.declared.fault.PlanFault.TheVariants as fault
use Rattle.zi_plan.specs.Placed.{Placed, all_placed, without_folder}
use Rattle.zi_plan.specs.Chain.{Asked, Link, last_fault}
use Rattle.zi_plan.specs.Launches.{Bound, in_shim, in_shims, bound_in, all_bindings, binding_fault, chain_words, Said, plain, open_word, spoken, spoken_all}
use Rattle.zi_plan.specs.Plans.{Plans, PlansPlaced, PlansCommand, PlansFrom, by_chain, checked, launched, bound, said, fault_by}
use Rattle.zi_plan.specs.Laws.{plan_fault_in, ShimsChangeNoFault}

-- The names of the variables after bindings, whatever their folders are.
after_all : List Bound → List (List ℕ) → List (List ℕ)
after_all [] ns = ns
after_all (b ∷ bs) ns = after_all bs (after b.binding ns)

names_all : (bs : List Bound) (vs : List Var) → names (bound_in bs vs) ≡ after_all bs (names vs)
unfolding after_all
names_all [] vs = refl
names_all (b ∷ bs) vs =
    names_all bs (with_shim b.folder b.binding (with_binding b.folder b.binding vs)) ∙ ap (after_all bs) (names_after b.folder b.binding vs)

same_after : (bs : List Bound) (fs gs : List (List ℕ)) → length fs ≡ length gs → (ns : List (List ℕ)) → after_all (in_shims bs fs) ns ≡ after_all (in_shims bs gs) ns
unfolding after_all
same_after [] fs gs e ns = refl
same_after (b ∷ bs) [] [] e ns = refl
same_after (b ∷ bs) [] (g ∷ gs) e ns = absurd (cc e)
same_after (b ∷ bs) (f ∷ fs) [] e ns = absurd (cc e)
same_after (b ∷ bs) (f ∷ fs) (g ∷ gs) e ns = elim (is_shimmed b.binding) as (λ t.
    after_all (if t then in_shim b f ∷ in_shims bs fs else b ∷ in_shims bs (f ∷ fs)) ns
    ≡ after_all (if t then in_shim b g ∷ in_shims bs gs else b ∷ in_shims bs (g ∷ gs)) ns) [
      | true ↦ same_after bs fs gs (cc e) (after b.binding ns)
      | false ↦ same_after bs (f ∷ fs) (g ∷ gs) e (after b.binding ns)
    ]

same_bound : (bs : List Bound) (vars : List Var) (one other : List (List ℕ)) → length one ≡ length other
    → HaveSameNames (value_of (bound_in (in_shims bs one) vars)) (value_of (bound_in (in_shims bs other) vars))
same_bound bs vars one other e =
    same_names (bound_in (in_shims bs one) vars) (bound_in (in_shims bs other) vars)
    (names_all (in_shims bs one) vars ∙ same_after bs one other e (names vars) ∙ sym (names_all (in_shims bs other) vars))

-- Words have the same fault where the same variables are set.
same_spoken : (v w : Values) → HaveSameNames v w → (word : Said) → fault_in (spoken v word) ≡ fault_in (spoken w word)
same_spoken v w same (plain text) = refl
same_spoken v w same (open_word word) = same_word v w same word

same_all : (v w : Values) → HaveSameNames v w → (words : List Said) → fault_in (spoken_all v words) ≡ fault_in (spoken_all w words)
same_all v w same words = same_each (spoken v) (spoken w) (same_spoken v w same) words

launched_fault : (ps : List Placed) (shims : List (List ℕ)) (vars : List Var) (user : List (List ℕ)) (words : Result (List (List ℕ)) BindFault)
    → plan_fault_in (launched ps shims vars (said user words)) ≡ option_map (λ reason. fault.Bind reason) (fault_in words)
launched_fault ps shims vars user (Ok words) = refl
launched_fault ps shims vars user (Err reason) = refl

module _ (ps : List Placed) (one other : List (List ℕ)) (e : length one ≡ length other) (vars : List Var) (user : List (List ℕ)) where
  same_checked : (links : List Link) (o : Option PlanFault) → plan_fault_in (checked ps other (bound ps other vars) user links o) ≡ plan_fault_in (checked ps one (bound ps one vars) user links o)
  same_checked links (Some reason) = refl
  same_checked links None =
      launched_fault ps other (bound ps other vars) user (spoken_all (value_of (bound ps other vars)) (chain_words links))
      ∙ ap (option_map (λ reason. fault.Bind reason)) (sym (same_all (value_of (bound ps one vars)) (value_of (bound ps other vars)) (same_bound (all_bindings ps) vars one other e) (chain_words links)))
      ∙ sym (launched_fault ps one (bound ps one vars) user (spoken_all (value_of (bound ps one vars)) (chain_words links)))

  same_chain : (chain : Result (List Link) PlanFault) → plan_fault_in (by_chain ps other vars user chain) ≡ plan_fault_in (by_chain ps one vars user chain)
  same_chain (Err reason) = refl
  same_chain (Ok links) = same_checked links (option_or (last_fault links) (option_map fault_by (binding_fault (all_bindings ps))))

  same_from : (asked : Asked) (result : Result Launch PlanFault) → PlansFrom ps one vars user asked result
      → (r : Result Launch PlanFault) × PlansFrom ps other vars user asked r × (plan_fault_in r ≡ plan_fault_in result)
  same_from asked result (c, l, h) = (by_chain ps other vars user c, (c, l, refl), same_chain c ∙ ap plan_fault_in (sym h))

  same_command : (interface : List ℕ) (command : Option (List ℕ)) (result : Result Launch PlanFault) → PlansCommand ps one vars user interface command result
      → (r : Result Launch PlanFault) × PlansCommand ps other vars user interface command r × (plan_fault_in r ≡ plan_fault_in result)
  same_command interface None result h = (result, h, refl)
  same_command interface (Some name) result h = same_from (record { interface = interface; command = name }) result h

same_placed : (s : Selections) (vars : List Var) (user : List (List ℕ)) (ps : List Placed) (one other : List (List ℕ)) → length one ≡ length other
    → (without : Option (List ℕ)) (result : Result Launch PlanFault) → PlansPlaced s vars user ps one without result
    → (r : Result Launch PlanFault) × PlansPlaced s vars user ps other without r × (plan_fault_in r ≡ plan_fault_in result)
same_placed s vars user ps one other e (Some i) result h = (result, h, refl)
same_placed s vars user ps one other e None result h = same_command ps one other e vars user s.interface s.command result h

pub no_fault_changes : ShimsChangeNoFault
no_fault_changes s vars user folders one other e result h = same_placed s vars user (all_placed s.items folders) one other e (without_folder s.items folders) result h
