-- Every number within the table is that of a variable.
use Rattle.std.proofs.Common.{◌≡◌, ℕ, suc, ◌+◌, ◌-◌, ◌<◌, ◌≤◌, List, [], ◌∷◌, refl, sym, ap, subst, arith, Some, inl, inr}
use Rattle.std.specs.Prelude.{slice_get}
use Rattle.std.proofs.lemmas.Bool.{cases_lt}
use Rattle.zi_universe.specs.declared.types.Interface.{Interface}
use Rattle.zi_choice.specs.Vars.{Var, Cand, Cmd, Wide, total, before, candidates_of, own_candidates, own_commands, all_commands, var_number, var_count}
use Rattle.zi_choice.proofs.Base.{candidates_at}
use Rattle.zi_build.specs.There.{Listed}
use Rattle.zi_universe.proofs.OfferingLemmas.{item_at}

-- which item a place belongs to, where each has some
pub record Lies {A : Type 0} (size : A → ℕ) (xs : List A) (p : ℕ) : Type 0 where
  pub item : ℕ
  pub value : A
  pub inner : ℕ
  pub there : slice_get xs item ≡ Some value
  pub within : inner < size value
  pub is : p ≡ before size xs item + inner

pub lies : {A : Type 0} (size : A → ℕ) (xs : List A) (p : ℕ) → p < total size xs → Lies size xs p
lies size [] p l = absurd (omega (arith, l))
lies size (x ∷ xs) p l =
    elim (cases_lt p (size x)) [
      | inl h ↦ record { item = 0; value = x; inner = p; there = refl; within = h; is = omega arith }
      | inr h ↦ further (lies size xs (p - size x) (omega (arith, h, l))) h
    ]
  where
    further : Lies size xs (p - size x) → size x ≤ p → Lies size (x ∷ xs) p
    further r h = let i = r.is in record { item = suc r.item; value = r.value; inner = r.inner; there = r.there; within = r.within; is = omega (arith, i, h) }

-- the variable of a number
pub variable_of : (u : List Interface) (x : ℕ) → 1 ≤ x → x ≤ var_count u → (y : Var) × Listed u y × (var_number u y ≡ x)
variable_of u x low high =
    let n : ℕ = x - 1 in
    elim (cases_lt (x - 1) (total own_candidates u)) [
      | inl l ↦ cand (lies own_candidates u (x - 1) l)
      | inr l ↦ elim (cases_lt (x - 1) (total own_candidates u + total all_commands u)) [
        | inl m ↦ command l (lies all_commands u ((x - 1) - total own_candidates u) (omega (arith, l, m)))
        | inr m ↦ (Wide, tt, omega (arith, low, high, m))
      ]
    ]
  where
    cand : Lies own_candidates u (x - 1) → (y : Var) × Listed u y × (var_number u y ≡ x)
    cand r =
        let k = item_at r.value.candidates r.inner r.within in
        let i = r.is in
        (Cand r.item r.inner, (k.0, subst (λ ks. slice_get ks r.inner ≡ Some k.0) (sym (candidates_at u r.item r.value r.there)) k.1), omega (arith, i, low))

    command : total own_candidates u ≤ x - 1 → Lies all_commands u ((x - 1) - total own_candidates u) → (y : Var) × Listed u y × (var_number u y ≡ x)
    command l r = inner l r (lies own_commands r.value.candidates r.inner r.within)
      where
        inner : total own_candidates u ≤ x - 1 → (r : Lies all_commands u ((x - 1) - total own_candidates u)) → Lies own_commands r.value.candidates r.inner → (y : Var) × Listed u y × (var_number u y ≡ x)
        inner l r q =
            let m = item_at q.value.imp.commands q.inner q.within in
            let i = r.is in
            let j = q.is in
            let ks = candidates_at u r.item r.value r.there in
            let b : before own_commands (candidates_of u r.item) q.item ≡ before own_commands r.value.candidates q.item = ap (λ cs. before own_commands cs q.item) ks in
            (Cmd r.item q.item q.inner, (q.value, m.0, subst (λ cs. slice_get cs q.item ≡ Some q.value) (sym ks) q.there, m.1), omega (arith, i, j, b, l, low))
