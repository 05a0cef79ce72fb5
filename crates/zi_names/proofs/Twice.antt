-- Items that are alike a later one, front by front.
use Rattle.std.proofs.Common.{◌≡◌, ◌<◌, Bool, true, false, cond, ◌||◌, not, List, [], ◌∷◌, ◌++◌, length, refl, ap, ◌∙◌, arith}
use Rattle.std.specs.List.{list_any}
use Rattle.std.proofs.lemmas.List.Folds.{list_any-append}
use Rattle.std.proofs.lemmas.Bool.{or_parts}
use Rattle.std.proofs.Math.Bool.{or-false, or-true}
use Rattle.zi_names.specs.Names.{has_twice}
use Rattle.zi_text.proofs.ListLaws.{by_or, any_push, any_among}

-- an item that none before is alike
pub twice_push : {X : Type 0} (alike : X → X → Bool) (xs : List X) (x : X) → has_twice alike xs ≡ false → list_any (λ y. alike y x) xs ≡ false
    → has_twice alike (xs ++ x ∷ []) ≡ false
twice_push alike [] x h k = refl
twice_push alike (y ∷ xs) x h k =
    let a = or_parts (list_any (alike y) xs) (has_twice alike xs) h in
    let b = or_parts (alike y x) (list_any (λ z. alike z x) xs) k in
    let none : list_any (alike y) (xs ++ x ∷ []) ≡ false = any_push (alike y) xs x ∙ (ap (λ v. v || alike y x) a.0 ∙ b.0) in
    ap (λ v. v || has_twice alike (xs ++ x ∷ [])) none ∙ twice_push alike xs x a.1 b.1

-- an item that one before is alike
pub twice_found : {X : Type 0} (alike : X → X → Bool) (xs : List X) (x : X) (ys : List X) → list_any (λ y. alike y x) xs ≡ true
    → has_twice alike (xs ++ x ∷ ys) ≡ true
twice_found alike [] x ys h = cc
twice_found alike (y ∷ xs) x ys h =
    by_or (alike y x) (list_any (λ z. alike z x) xs) h
    (λ e. ap (λ v. v || has_twice alike (xs ++ x ∷ ys)) (any_among (alike y) xs x ys e))
    (λ e. ap (λ v. list_any (alike y) (xs ++ x ∷ ys) || v) (twice_found alike xs x ys e) ∙ or-true (list_any (alike y) (xs ++ x ∷ ys)))

-- fewer than two
pub few_once : {X : Type 0} (alike : X → X → Bool) (xs : List X) → length xs < 2 → false ≡ has_twice alike xs
few_once alike [] few = refl
few_once alike (x ∷ []) few = refl
few_once alike (x ∷ y ∷ xs) few = absurd (omega (arith, few))
