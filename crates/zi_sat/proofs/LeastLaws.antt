-- The first undecided variable.
use Rattle.std.proofs.Common.{◌≡◌, ℕ, zero, suc, ◌+◌, ◌<◌, true, false, cond, sym, ap, ◌∙◌, subst, arith, Some, None, ◌⊎◌, inl, inr}
use native.Mathlib.Decide.{dec_lt}
use Rattle.zi_formula.specs.declared.formula.Lit.{Lit}
use Rattle.zi_proof.specs.Known.{Known, is_open}
use Rattle.zi_sat.specs.Least.{first_of, least_open}

abbrev denied : ℕ → Lit
denied x = record { variable = x; positive = false }

lt_cases : (x m : ℕ) → x < suc m → (x < m) ⊎ (x ≡ m)
lt_cases x m h = elim (dec_lt x m) [ Prim.yes p ↦ inl p | Prim.no q ↦ inr (omega (arith, q)) ]

least_at : (k : Known) (x n : ℕ) → least_open x k ≡ None → is_open (k (suc x)) ≡ true → x < n → least_open n k ≡ Some (denied (suc x))
least_at k x zero e o h = absurd (omega (arith, h))
least_at k x (suc m) e o h =
    elim (lt_cases x m h) [
      | inl p ↦ ap (λ r. first_of r (cond (is_open (k (suc m))) (Some (denied (suc m))) None)) (least_at k x m e o p)
      | inr q ↦
          ap (λ r. first_of r (cond (is_open (k (suc m))) (Some (denied (suc m))) None)) (subst (λ y. least_open y k ≡ None) q e) ∙ (ap (λ b. cond b (Some (denied (suc m))) None) (subst (λ y. is_open (k (suc y)) ≡ true) q o) ∙ ap (λ y. Some (denied (suc y))) (sym q))
    ]

pub least_next : (k : Known) (x n : ℕ) → least_open x k ≡ None → is_open (k (x + 1)) ≡ true → x < n → Some (record { variable = x + 1; positive = false }) ≡ least_open n k
least_next k x n e o h =
    let s : x + 1 ≡ suc x = omega arith in
    ap (λ y. Some (denied y)) s ∙ sym (least_at k x n e (subst (λ y. is_open (k y) ≡ true) s o) h)
