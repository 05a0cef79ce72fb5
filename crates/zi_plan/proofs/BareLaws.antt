-- The plan where no shim can be made.
use Rattle.std.proofs.Common.{◌≡◌, ℕ, Bool, true, false, if◌then◌else◌, List, [], ◌∷◌, refl, sym, ap, ◌∙◌, Option, Some, None, Ok, Err}
use Rattle.zi_outside.specs.declared.var.Var.{Var}
use Rattle.zi_outside.specs.declared.launch.Launch.{Launch}
use Rattle.zi_bind.specs.Shims.{is_shimmed}
use Rattle.zi_sels.specs.declared.types.Selections.{Selections}
use Rattle.zi_plan.specs.declared.fault.PlanFault.{PlanFault}
use Rattle.zi_plan.specs.declared.fault.PlanFault.TheVariants as fault
use Rattle.zi_plan.specs.Launches.{Bound, shimmed}
use Rattle.zi_plan.specs.Plans.{UnlessMemory, Plans}
use Rattle.zi_plan.specs.Shims.{shim_element, unbuilt_shim, but_for, PlansWithoutShims, shims_of}
use Rattle.zi_plan.proofs.BindingLaws.{unless_memory}

-- The first binding that makes a command available.
pub shim_here : (b : Bound) (bs : List Bound) (e : PlanFault) → unbuilt_shim (shimmed (b ∷ [])) ≡ Some e → unbuilt_shim (shimmed (b ∷ bs)) ≡ Some e
shim_here b bs e h = by_test (is_shimmed b.binding) h
  where
    by_test : (t : Bool) → unbuilt_shim (if t then b ∷ [] else []) ≡ Some e → unbuilt_shim (if t then b ∷ shimmed bs else shimmed bs) ≡ Some e
    by_test true k = k
    by_test false k = absurd (cc)

pub shim_behind : (b : Bound) (bs : List Bound) → unbuilt_shim (shimmed (b ∷ [])) ≡ None → unbuilt_shim (shimmed (b ∷ bs)) ≡ unbuilt_shim (shimmed bs)
shim_behind b bs h = by_test (is_shimmed b.binding) h
  where
    by_test : (t : Bool) → unbuilt_shim (if t then b ∷ [] else []) ≡ None → unbuilt_shim (if t then b ∷ shimmed bs else shimmed bs) ≡ unbuilt_shim (shimmed bs)
    by_test true k = absurd (cc)
    by_test false k = refl

-- one is found, or it is none
pub shim_found : (b : Bound) (element : List ℕ) → is_shimmed b.binding ≡ true → element ≡ shim_element b.binding → unbuilt_shim (shimmed (b ∷ [])) ≡ Some (fault.Unbuilt element)
shim_found b element h e = ap (λ t. unbuilt_shim (if t then b ∷ [] else [])) h ∙ ap (λ x. Some (fault.Unbuilt x)) (sym e)

pub shim_none : (b : Bound) → is_shimmed b.binding ≡ false → unbuilt_shim (shimmed (b ∷ [])) ≡ None
shim_none b h = ap (λ t. unbuilt_shim (if t then b ∷ [] else [])) h

-- The plan, by that over no shims.
module _ (s : Selections) (vars : List Var) (user : List (List ℕ)) (folders : List (Option (List ℕ))) where
  pub bare_refused : (e : PlanFault) → UnlessMemory e (Plans s vars user folders [] (Err e)) → UnlessMemory e (PlansWithoutShims s vars user folders (Err e))
  bare_refused e h = unless_memory e (λ p. (Err e, p, refl)) h

  pub bare_unbuilt : (l : Launch) → Plans s vars user folders [] (Ok l) → (bs : List Bound) → bs ≡ shims_of s folders → (e : PlanFault) → UnlessMemory e (unbuilt_shim bs ≡ Some e)
      → UnlessMemory e (PlansWithoutShims s vars user folders (Err e))
  bare_unbuilt l p bs b e h = unless_memory e (λ u. (Ok l, p, sym (ap (but_for (Ok l)) (ap unbuilt_shim (sym b) ∙ u)))) h

  pub bare_built : (l : Launch) → Plans s vars user folders [] (Ok l) → (bs : List Bound) → bs ≡ shims_of s folders → unbuilt_shim bs ≡ None → PlansWithoutShims s vars user folders (Ok l)
  bare_built l p bs b u = (Ok l, p, sym (ap (but_for (Ok l)) (ap unbuilt_shim (sym b) ∙ u)))
