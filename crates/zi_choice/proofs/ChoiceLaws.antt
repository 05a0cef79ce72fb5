-- Choices are the same, or they aren't.
use Rattle.std.proofs.Common.{◌≡◌, ◌≢◌, ℕ, zero, suc, [], ◌∷◌, length, refl, ap, arith, Option, Some, None, ◌⊎◌, inl, inr}
use Rattle.std.proofs.lemmas.Option.{same_Some}
use Rattle.zi_choice.specs.Choice.{Choice, pick}

pub same_number : (m n : ℕ) → (m ≡ n) ⊎ (m ≢ n)
same_number zero zero = inl refl
same_number zero (suc n) = inr (λ e. omega (arith, e))
same_number (suc m) zero = inr (λ e. omega (arith, e))
same_number (suc m) (suc n) = elim (same_number m n) [ inl e ↦ inl (ap suc e) | inr apart ↦ inr (λ e. apart (omega (arith, e))) ]

option_apart : (c d : ℕ) → c ≢ d → Some c ≢ Some d
option_apart c d apart e = apart (same_Some _ _ e)

pub same_pick : (p q : Option ℕ) → (p ≡ q) ⊎ (p ≢ q)
same_pick None None = inl refl
same_pick None (Some d) = inr (λ e. cc)
same_pick (Some c) None = inr (λ e. cc)
same_pick (Some c) (Some d) = elim (same_number c d) [ inl e ↦ inl (ap (λ x. Some x) e) | inr apart ↦ inr (option_apart c d apart) ]

pick_heads : {x y : Option ℕ} {xs ys : Choice} → x ∷ xs ≡ y ∷ ys → x ≡ y
pick_heads e = cc

pick_tails : {x y : Option ℕ} {xs ys : Choice} → x ∷ xs ≡ y ∷ ys → xs ≡ ys
pick_tails e = cc

both_same : {x y : Option ℕ} {xs ys : Choice} → x ≡ y → xs ≡ ys → x ∷ xs ≡ y ∷ ys
both_same e f = cc

pub same_choice : (s t : Choice) → (s ≡ t) ⊎ (s ≢ t)
same_choice [] [] = inl refl
same_choice [] (y ∷ ys) = inr (λ e. cc)
same_choice (x ∷ xs) [] = inr (λ e. cc)
same_choice (x ∷ xs) (y ∷ ys) =
    elim (same_pick x y) [
      | inl e ↦ elim (same_choice xs ys) [ inl f ↦ inl (both_same e f) | inr apart ↦ inr (λ g. apart (pick_tails g)) ]
      | inr apart ↦ inr (λ g. apart (pick_heads g))
    ]

-- what gives each interface the same is the same choice
pub same_list : (s t : Choice) → length s ≡ length t → ((i : ℕ) → pick s i ≡ pick t i) → s ≡ t
same_list [] [] e h = refl
same_list [] (y ∷ t) e h = absurd (omega (arith, e))
same_list (x ∷ s) [] e h = absurd (omega (arith, e))
same_list (x ∷ s) (y ∷ t) e h = cons_same (h 0) (same_list s t (omega (arith, e)) (λ i. h (suc i)))
  where
    cons_same : {x y : Option ℕ} {s t : Choice} → x ≡ y → s ≡ t → x ∷ s ≡ y ∷ t
    cons_same e f = cc
