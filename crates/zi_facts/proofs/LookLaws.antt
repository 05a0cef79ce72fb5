-- What isn't there has no candidates.
use Rattle.std.proofs.Common.{◌≡◌, ℕ, zero, suc, ◌≤◌, List, [], ◌∷◌, length, refl, sym, subst, arith}
use Rattle.zi_universe.specs.declared.types.Interface.{Interface}
use Rattle.zi_choice.specs.Vars.{candidates_of}

pub none_there : (u us : List Interface) (i : ℕ) → us ≡ u → length us ≤ i → [] ≡ candidates_of u i
none_there u us i e l = sym (none u i (subst (λ v. length v ≤ i) e l))
  where
    none : (u : List Interface) (i : ℕ) → length u ≤ i → candidates_of u i ≡ []
    none [] i l = refl
    none (x ∷ u) zero l = absurd (omega (arith, l))
    none (x ∷ u) (suc i) l = none u i (omega (arith, l))
