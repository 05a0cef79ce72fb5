-- Options that may not stand together, one more at the end.
use Rattle.std.proofs.Common.{◌≡◌, Bool, true, false, ◌||◌, ◌&&◌, List, [], ◌∷◌, ◌++◌, refl, ap, ◌∙◌}
use Rattle.std.specs.List.{list_any}
use Rattle.std.proofs.lemmas.Bool.{or_parts}
use Rattle.std.proofs.Math.Bool.{or-true}
use Rattle.zi_words.specs.Options.{Item, clash, any_clash}
use Rattle.zi_text.proofs.ListLaws.{by_or, any_push, any_among}

-- an option that may stand with each before
pub clash_push : (xs : List Item) (x : Item) → any_clash xs ≡ false → list_any (λ y. clash y x) xs ≡ false → any_clash (xs ++ x ∷ []) ≡ false
clash_push [] x h k = refl
clash_push (y ∷ xs) x h k =
    let a = or_parts (list_any (λ j. clash y j) xs) (any_clash xs) h in
    let b = or_parts (clash y x) (list_any (λ z. clash z x) xs) k in
    let none : list_any (λ j. clash y j) (xs ++ x ∷ []) ≡ false = any_push (λ j. clash y j) xs x ∙ (ap (λ v. v || clash y x) a.0 ∙ b.0) in
    ap (λ v. v || any_clash (xs ++ x ∷ [])) none ∙ clash_push xs x a.1 b.1

-- one that may not
pub clash_found : (xs : List Item) (x : Item) (ys : List Item) → list_any (λ y. clash y x) xs ≡ true → any_clash (xs ++ x ∷ ys) ≡ true
clash_found [] x ys h = cc
clash_found (y ∷ xs) x ys h =
    by_or (clash y x) (list_any (λ z. clash z x) xs) h
    (λ e. ap (λ v. v || any_clash (xs ++ x ∷ ys)) (any_among (λ j. clash y j) xs x ys e))
    (λ e. ap (λ v. list_any (λ j. clash y j) (xs ++ x ∷ ys) || v) (clash_found xs x ys e) ∙ or-true (list_any (λ j. clash y j) (xs ++ x ∷ ys)))

-- no two tests that are alike at each item
pub any_same : {X : Type 0} (p q : X → Bool) → ((x : X) → p x ≡ q x) → (xs : List X) → list_any p xs ≡ list_any q xs
any_same p q e [] = refl
any_same p q e (x ∷ xs) = ap (λ v. v || list_any p xs) (e x) ∙ ap (λ v. q x || v) (any_same p q e xs)

pub any_never : {X : Type 0} (p : X → Bool) → ((x : X) → p x ≡ false) → (xs : List X) → list_any p xs ≡ false
any_never p e [] = refl
any_never p e (x ∷ xs) = ap (λ v. v || list_any p xs) (e x) ∙ any_never p e xs
