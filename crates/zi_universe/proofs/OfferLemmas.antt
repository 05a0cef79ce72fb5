-- A language is spoken where its place isn't behind the wanted ones.
use Rattle.std.proofs.Common.{◌≡◌, ℕ, suc, ◌+◌, bytes_eq, Bool, true, false, ◌||◌, eqb, ltb, List, [], ◌∷◌, length, refl, arith, if◌then◌else◌}
use Rattle.std.specs.List.{list_any}
use Rattle.std.proofs.lemmas.Bool.Decides.{nat_tests}
use Rattle.zi_rank.specs.Languages.{first_place, language_place, base}
use Rattle.zi_universe.specs.Candidates.{speaks}

-- a test of the first place
first_step : (b r : Bool) (n m : ℕ) → ltb n m ≡ r → ltb (if b then 0 else 1 + n) (suc m) ≡ (b || r)
first_step true r n m e = grind (arith, nat_tests)
first_step false r n m e = grind (arith, nat_tests)

pub first_place_within : {X : Type 0} (test : X → Bool) (xs : List X) → ltb (first_place test xs) (length xs) ≡ list_any test xs
first_place_within test [] = refl
first_place_within test (x ∷ xs) = first_step (test x) (list_any test xs) (first_place test xs) (length xs) (first_place_within test xs)

pub suits_by_place : (wanted langs : List (List ℕ)) → eqb (length langs) 0 ≡ false → ltb (language_place base wanted langs) (length wanted) ≡ speaks wanted langs
unfolding language_place
suits_by_place wanted [] e = absurd (different e)
  where
    different : true ≡ false → ⊥
    different s = cc
suits_by_place wanted (l ∷ ls) e = first_place_within (λ w. list_any (λ t. bytes_eq (base t) (base w)) (l ∷ ls)) wanted
