-- Bindings that are put one after another into the one list.
use Rattle.std.proofs.Common.{◌≡◌, ℕ, ◌+◌, ◌<◌, ◌≤◌, List, [], ◌∷◌, ◌++◌, length, take, get_or, refl, sym, ap, ◌∙◌, map, Some, None, Result, Ok, Err, append_assoc}
use Rattle.std.specs.Prelude.{OnOk}
use Rattle.std.specs.List.{flat_map}
use Rattle.std.proofs.lemmas.List.{take_more, take_all, append-nil}
use Rattle.std.proofs.lemmas.List.Elements.{filter_map-append}
use Rattle.std.proofs.lemmas.Grind.{flat_map-append}
use Rattle.zi_parts.specs.declared.types.Binding.{Binding}
use Rattle.zi_parts.specs.declared.types.Dep.{Dep}
use Rattle.zi_plan.specs.declared.fault.PlanFault.{PlanFault}
use Rattle.zi_plan.specs.declared.fault.PlanFault.TheVariants as fault
use Rattle.zi_plan.specs.declared.placing.InFolder.{InFolder}
use Rattle.zi_plan.specs.Placed.{Placed, placed_for}
use Rattle.zi_plan.specs.Launches.{Bound, bound_to, in_folder, where_selected, of_dep, of_placed, all_bindings}
use Rattle.zi_plan.specs.Plans.{UnlessMemory}
use Rattle.zi_plan.specs.Steps.{placed_seen}

-- what is told but for want of memory follows from what is told so
pub unless_memory : {A B : Type 0} (e : PlanFault) → (A → B) → UnlessMemory e A → UnlessMemory e B
unless_memory (fault.NoSelection i) f h = f h
unless_memory (fault.NoCommand i k) f h = f h
unless_memory (fault.NoPath i k) f h = f h
unless_memory (fault.Loop i k) f h = f h
unless_memory (fault.Bind b) f h = f h
unless_memory (fault.Unbuilt t) f h = f h
unless_memory (fault.BadPath t) f h = f h
unless_memory (fault.NoFolder i) f h = f h
unless_memory fault.Memory f h = tt

-- those of one more
pub put_more : {X : Type 0} (g : X → List Bound) (xs : List X) (i : ℕ) (x : X) (old mid new : List Bound) → i < length xs → x ≡ get_or xs i x
    → mid ≡ old ++ flat_map g (take i xs) → new ≡ mid ++ g x → new ≡ old ++ flat_map g (take (i + 1) xs)
put_more g xs i x old mid new within at h k =
    k ∙ ap (λ bs. bs ++ g x) h ∙ append_assoc old (flat_map g (take i xs)) (g x) ∙ ap (λ bs. old ++ bs) (sym front)
  where
    front : flat_map g (take (i + 1) xs) ≡ flat_map g (take i xs) ++ g x
    front = ap (flat_map g) (take_more xs i x within) ∙ flat_map-append g (take i xs) (get_or xs i x ∷ []) ∙ ap (λ ys. flat_map g (take i xs) ++ ys) (append-nil (g (get_or xs i x)) ∙ ap g (sym at))

pub put_end : {X : Type 0} (g : X → List Bound) (xs : List X) (i : ℕ) (old out : List Bound) → length xs ≤ i → out ≡ old ++ flat_map g (take i xs) → out ≡ old ++ flat_map g xs
put_end g xs i old out le h = h ∙ ap (λ ys. old ++ flat_map g ys) (take_all i xs le)

-- the bindings of what is selected: one more
pub put_next : (p : Placed) (bs : List Binding) (i : ℕ) (b : Binding) (old mid new : List Bound) → i < length bs → b ≡ get_or bs i b
    → mid ≡ old ++ in_folder p (take i bs) → new ≡ mid ++ in_folder p (b ∷ []) → new ≡ old ++ in_folder p (take (i + 1) bs)
put_next p bs i b old mid new within at h k =
    k ∙ ap (λ xs. xs ++ in_folder p (b ∷ [])) h ∙ append_assoc old (in_folder p (take i bs)) (in_folder p (b ∷ [])) ∙ ap (λ xs. old ++ xs) (sym front)
  where
    front : in_folder p (take (i + 1) bs) ≡ in_folder p (take i bs) ++ in_folder p (b ∷ [])
    front = ap (in_folder p) (take_more bs i b within) ∙ filter_map-append (bound_to p) (take i bs) (get_or bs i b ∷ []) ∙ ap (λ x. in_folder p (take i bs) ++ in_folder p (x ∷ [])) (sym at)

pub put_last : (p : Placed) (bs : List Binding) (i : ℕ) (old out : List Bound) → length bs ≤ i → out ≡ old ++ in_folder p (take i bs) → out ≡ old ++ in_folder p bs
put_last p bs i old out le h = h ∙ ap (λ ys. old ++ in_folder p ys) (take_all i bs le)

-- three behind one another
pub put_three : (old a b new xs ys zs : List Bound) → a ≡ old ++ xs → b ≡ a ++ ys → new ≡ b ++ zs → new ≡ old ++ (xs ++ (ys ++ zs))
put_three old a b new xs ys zs h k l =
    l ∙ ap (λ bs. bs ++ zs) (k ∙ ap (λ bs. bs ++ ys) h) ∙ append_assoc (old ++ xs) ys zs ∙ append_assoc old xs (ys ++ zs)

pub put_three_on : {X E : Type 0} (old a b new xs ys zs : List Bound) (r : Result X E) → a ≡ old ++ xs → b ≡ a ++ ys → OnOk r (new ≡ b ++ zs) → OnOk r (new ≡ old ++ (xs ++ (ys ++ zs)))
put_three_on old a b new xs ys zs (Ok u) h k l = put_three old a b new xs ys zs h k l
put_three_on old a b new xs ys zs (Err e) h k l = tt

-- those of a dependency, by what is selected for it
pub dep_found : (ps : List Placed) (dep : Dep) (p : Placed) → Some p ≡ placed_for ps dep.interface → of_dep ps dep ≡ in_folder p dep.bindings
dep_found ps dep p e = ap (where_selected dep.bindings) (sym e)

pub dep_absent : (ps : List Placed) (dep : Dep) → None ≡ placed_for ps dep.interface → of_dep ps dep ≡ []
dep_absent ps dep e = ap (where_selected dep.bindings) (sym e)

-- those of all selections, by what is lent of them
abbrev pub of_lent : List Placed → InFolder → List Bound
of_lent ps x = of_placed ps (placed_seen x)

lent_bindings : (ps : List Placed) (xs : List InFolder) → flat_map (of_lent ps) xs ≡ flat_map (of_placed ps) (map placed_seen xs)
lent_bindings ps [] = refl
lent_bindings ps (x ∷ xs) = ap (λ bs. of_placed ps (placed_seen x) ++ bs) (lent_bindings ps xs)

pub all_lent : (ps : List Placed) (xs : List InFolder) → map placed_seen xs ≡ ps → flat_map (of_lent ps) xs ≡ all_bindings ps
all_lent ps xs e = lent_bindings ps xs ∙ ap (flat_map (of_placed ps)) e
