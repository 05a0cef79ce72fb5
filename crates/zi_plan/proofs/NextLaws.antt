-- One binding of the list is applied, and the folder of its shim is exposed.
use Rattle.std.proofs.Common.{◌≡◌, ℕ, zero, suc, ◌+◌, ◌-◌, ◌<◌, ◌≤◌, true, false, List, [], ◌∷◌, ◌++◌, map, length, take, drop, get_or, refl, sym, ap, ◌∙◌, subst, arith, Option, Some, None, Result, Ok, Err, option_map, append_assoc}
use Rattle.std.specs.Option.{option_or}
use Rattle.std.specs.Prelude.{OnOk, if◌then◌else◌}
use Rattle.std.proofs.lemmas.List.{take_all, take_more, map-append, append-nil}
use Rattle.zi_outside.specs.declared.launch.Dir.{Dir}
use Rattle.zi_outside.specs.declared.var.Var.{Var}
use Rattle.zi_parts.specs.declared.types.Binding.{Binding}
use Rattle.zi_parts.specs.declared.types.Binding.TheVariants.{Env, ExecVar, ExecPath, Unbuilt}
use Rattle.zi_bind.specs.Bound.{with_binding, fault_of}
use Rattle.zi_bind.specs.Shims.{is_shimmed, with_shim}
use Rattle.zi_bind.specs.Answers.{AppliesOne}
use Rattle.zi_bind.specs.declared.fault.ApplyFault.{ApplyFault}
use Rattle.zi_bind.specs.declared.fault.ApplyFault.TheVariants as apply
use Rattle.zi_plan.specs.declared.fault.PlanFault.{PlanFault}
use Rattle.zi_plan.specs.declared.binding.BoundTo.{BoundTo}
use Rattle.zi_plan.specs.Launches.{Bound, shimmed, in_shim, in_shims, bound_in, shims_exposed, binding_fault}
use Rattle.zi_plan.specs.Plans.{UnlessMemory, fault_by}
use Rattle.zi_plan.specs.Shims.{empty_texts}
use Rattle.zi_plan.specs.Steps.{bound_seen, ExposesNext}

-- each of the two changes nothing where the other counts
passed : (f : List ℕ) (b : Binding) (vars : List Var) → is_shimmed b ≡ true → with_binding f b vars ≡ vars
unfolding with_binding
passed f (Env name extra mode separator default) vars h = absurd (cc h)
passed f (ExecVar name command) vars h = refl
passed f (ExecPath name command) vars h = refl
passed f (Unbuilt element) vars h = absurd (cc h)

unshimmed : (f : List ℕ) (b : Binding) (vars : List Var) → is_shimmed b ≡ false → with_shim f b vars ≡ vars
unfolding with_shim
unshimmed f (Env name extra mode separator default) vars h = refl
unshimmed f (ExecVar name command) vars h = absurd (cc h)
unshimmed f (ExecPath name command) vars h = absurd (cc h)
unshimmed f (Unbuilt element) vars h = refl

pub no_fault : (b : Binding) → is_shimmed b ≡ true → fault_of b ≡ None
unfolding fault_of
no_fault (Env name extra mode separator default) h = absurd (cc h)
no_fault (ExecVar name command) h = refl
no_fault (ExecPath name command) h = refl
no_fault (Unbuilt element) h = absurd (cc h)

-- with a shim's folder
with_first : (b : Bound) (f : List ℕ) (fs : List (List ℕ)) (old new : List Var) → is_shimmed b.binding ≡ true → new ≡ with_shim f b.binding old
    → (bs : List Bound) → bound_in (in_shims (b ∷ bs) (f ∷ fs)) old ≡ bound_in (in_shims bs fs) new
with_first b f fs old new h e bs =
    rw h (ap (λ vs. bound_in (in_shims bs fs) (with_shim f b.binding vs)) (passed f b.binding old h) ∙ ap (bound_in (in_shims bs fs)) (sym e))

-- without one
with_none : (b : Bound) (vars : List Var) → is_shimmed b.binding ≡ true → (bs : List Bound) → bound_in (in_shims (b ∷ bs) []) vars ≡ bound_in (in_shims bs []) vars
with_none b vars h bs = rw h refl

-- any other
pub with_other : (b : Bound) (shims : List (List ℕ)) (old new : List Var) → is_shimmed b.binding ≡ false → new ≡ with_binding b.folder b.binding old
    → (bs : List Bound) → bound_in (in_shims (b ∷ bs) shims) old ≡ bound_in (in_shims bs shims) new
with_other b [] old new h e bs = rw h (ap (bound_in (in_shims bs [])) (unshimmed b.folder b.binding (with_binding b.folder b.binding old) h ∙ sym e))
with_other b (f ∷ fs) old new h e bs = rw h (ap (bound_in (in_shims bs (f ∷ fs))) (unshimmed b.folder b.binding (with_binding b.folder b.binding old) h ∙ sym e))

-- the same of the folders that are left
pub at_end : (b : Bound) (shims : List (List ℕ)) (vars : List Var) → is_shimmed b.binding ≡ true → length shims < 1
    → (bs : List Bound) → bound_in (in_shims (b ∷ bs) shims) vars ≡ bound_in (in_shims bs shims) vars
at_end b [] vars h lt bs = with_none b vars h bs
at_end b (f ∷ fs) vars h lt bs = absurd (omega arith)

pub at_first : (b : Bound) (shims : List (List ℕ)) (folder : List ℕ) (old new : List Var) → is_shimmed b.binding ≡ true → 1 ≤ length shims → folder ≡ get_or shims 0 folder
    → new ≡ with_shim folder b.binding old → (bs : List Bound) → bound_in (in_shims (b ∷ bs) shims) old ≡ bound_in (in_shims bs (take (length shims - 1) (drop 1 shims))) new
at_first b [] folder old new h some at e bs = absurd (omega arith)
at_first b (f ∷ fs) folder old new h some at e bs =
    with_first b f fs old new h (e ∙ ap (λ x. with_shim x b.binding old) at) bs
    ∙ ap (λ gs. bound_in (in_shims bs gs) new) (sym (take_all (length (f ∷ fs) - 1) fs (omega arith)))

-- a binding that is refused, as the plan tells it
pub next_refused : (b : Bound) (old new : List Var) (f : ApplyFault) (r : PlanFault) → r ≡ fault_by f → AppliesOne b.folder b.binding old (Err f) new
    → UnlessMemory r (option_map fault_by (fault_of b.binding) ≡ Some r)
next_refused b old new (apply.Unbuilt e) r is h = subst (λ q. UnlessMemory q (option_map fault_by (fault_of b.binding) ≡ Some q)) (sym is) (ap (option_map fault_by) h.0)
next_refused b old new (apply.BadPath p) r is h = subst (λ q. UnlessMemory q (option_map fault_by (fault_of b.binding) ≡ Some q)) (sym is) (ap (option_map fault_by) h.0)
next_refused b old new apply.Memory r is h = subst (λ q. UnlessMemory q (option_map fault_by (fault_of b.binding) ≡ Some q)) (sym is) tt

-- The list, from a place on.
pub at_place : (bounds : List BoundTo) (i : ℕ) (x : BoundTo) → i < length bounds → x ≡ get_or bounds i x → drop i (map bound_seen bounds) ≡ bound_seen x ∷ drop (i + 1) (map bound_seen bounds)
at_place [] i x lt e = absurd (omega arith)
at_place (y ∷ ys) zero x lt e = ap (λ z. bound_seen z ∷ map bound_seen ys) (sym e)
at_place (y ∷ ys) (suc i) x lt e = let q : suc i + 1 ≡ suc (i + 1) = omega arith in rw q (at_place ys i x (omega arith) e)

pub none_left : (bounds : List BoundTo) (i : ℕ) → length bounds ≤ i → drop i (map bound_seen bounds) ≡ []
none_left [] zero le = refl
none_left [] (suc i) le = refl
none_left (x ∷ xs) zero le = absurd (omega arith)
none_left (x ∷ xs) (suc i) le = none_left xs i (omega arith)

-- the fault of the list is that of what is left of it
pub fault_behind : (b : Bound) (bs : List Bound) → fault_of b.binding ≡ None → binding_fault (b ∷ bs) ≡ binding_fault bs
fault_behind b bs h = ap (λ o. option_or o (binding_fault bs)) h

pub fault_here : (b : Bound) (bs : List Bound) (r : PlanFault) → option_map fault_by (fault_of b.binding) ≡ Some r → option_map fault_by (binding_fault (b ∷ bs)) ≡ Some r
fault_here b bs r h = by_fault (fault_of b.binding) h
  where
    by_fault : (o : Option ApplyFault) → option_map fault_by o ≡ Some r → option_map fault_by (option_or o (binding_fault bs)) ≡ Some r
    by_fault None e = absurd (cc)
    by_fault (Some x) e = e

-- Folders of shims are exposed.
abbrev dir_in : Bound → List ℕ → Dir
dir_in b f = record { interface = b.interface; folder = f }

pub exposes_other : (b : Bound) (shims : List (List ℕ)) (dirs : List Dir) → is_shimmed b.binding ≡ false → ExposesNext b shims dirs shims dirs
exposes_other b [] dirs h bs = rw h (rw h refl)
exposes_other b (f ∷ fs) dirs h bs = rw h (rw h refl)

pub exposes_end : (b : Bound) (shims : List (List ℕ)) (dirs : List Dir) → is_shimmed b.binding ≡ true → length shims < 1 → ExposesNext b shims dirs shims dirs
exposes_end b [] dirs h lt bs = rw h refl
exposes_end b (f ∷ fs) dirs h lt bs = absurd (omega arith)

pub exposes_first : (b : Bound) (shims : List (List ℕ)) (folder : List ℕ) (dirs new : List Dir) → is_shimmed b.binding ≡ true → 1 ≤ length shims → folder ≡ get_or shims 0 folder
    → new ≡ dirs ++ record { interface = b.interface; folder = folder } ∷ [] → ExposesNext b shims dirs (take (length shims - 1) (drop 1 shims)) new
exposes_first b [] folder dirs new h some at more bs = absurd (omega arith)
exposes_first b (f ∷ fs) folder dirs new h some at more bs =
    rw h (rw h (ap (λ x. dirs ++ dir_in b x ∷ shims_exposed (in_shims bs fs)) (sym at)
    ∙ sym (append_assoc dirs (dir_in b folder ∷ []) (shims_exposed (in_shims bs fs)))
    ∙ ap (λ ds. ds ++ shims_exposed (in_shims bs fs)) (sym more)
    ∙ ap (λ gs. new ++ shims_exposed (in_shims bs gs)) (sym (take_all (length (f ∷ fs) - 1) fs (omega arith)))))

-- An empty text for each shim.
pub empty_here : {X E : Type 0} (b : Bound) (t : List ℕ) (old new : List (List ℕ)) (r : Result X E) → is_shimmed b.binding ≡ true → t ≡ [] → OnOk r (new ≡ old ++ t ∷ [])
    → OnOk r (new ≡ old ++ empty_texts (shimmed (b ∷ [])))
empty_here b t old new (Ok u) h e k = rw h (k ∙ ap (λ x. old ++ x ∷ []) e)
empty_here b t old new (Err f) h e k = tt

pub empty_none : (b : Bound) (texts : List (List ℕ)) → is_shimmed b.binding ≡ false → texts ≡ texts ++ empty_texts (shimmed (b ∷ []))
empty_none b texts h = rw h (sym (append-nil texts))

pub empty_more : (bounds : List BoundTo) (i : ℕ) (x : BoundTo) (texts new : List (List ℕ)) → i < length bounds → x ≡ get_or bounds i x → texts ≡ empty_texts (shimmed (map bound_seen (take i bounds)))
    → new ≡ texts ++ empty_texts (shimmed (bound_seen x ∷ [])) → new ≡ empty_texts (shimmed (map bound_seen (take (i + 1) bounds)))
empty_more bounds i x texts new within at h k =
    k ∙ ap (λ ts. ts ++ empty_texts (shimmed (bound_seen x ∷ []))) h ∙ sym (both (map bound_seen (take i bounds)) (bound_seen x ∷ []))
    ∙ ap (λ bs. empty_texts (shimmed bs)) (sym (map-append bound_seen (take i bounds) (x ∷ [])))
    ∙ ap (λ ys. empty_texts (shimmed (map bound_seen ys))) (ap (λ y. take i bounds ++ y ∷ []) at ∙ sym (take_more bounds i x within))
  where
    both : (bs cs : List Bound) → empty_texts (shimmed (bs ++ cs)) ≡ empty_texts (shimmed bs) ++ empty_texts (shimmed cs)
    both [] cs = refl
    both (b ∷ bs) cs = elim (is_shimmed b.binding) as (λ t. empty_texts (if t then b ∷ shimmed (bs ++ cs) else shimmed (bs ++ cs)) ≡ empty_texts (if t then b ∷ shimmed bs else shimmed bs) ++ empty_texts (shimmed cs)) [
      | true ↦ ap (λ ts. [] ∷ ts) (both bs cs)
      | false ↦ both bs cs
    ]

pub empty_all : (bounds : List BoundTo) (i : ℕ) (texts : List (List ℕ)) → length bounds ≤ i → texts ≡ empty_texts (shimmed (map bound_seen (take i bounds))) → texts ≡ empty_texts (shimmed (map bound_seen bounds))
empty_all bounds i texts le h = h ∙ ap (λ ys. empty_texts (shimmed (map bound_seen ys))) (take_all i bounds le)
