-- What is left of the parts of a path, walked from its front.
use Rattle.std.specs.Prelude.{option_and_then}
use Rattle.std.proofs.Common.{◌≡◌, ℕ, zero, suc, ◌-◌, ◌<◌, ◌≤◌, ◌==◌, arith, ◌||◌, Bool, true, false, List, [], ◌∷◌, ◌++◌, length, drop, reverse, Option, Some, None, if◌then◌else◌, refl, sym, ap, ◌∙◌, codes, append_assoc}
use Rattle.std.proofs.lemmas.Bool.Decides.{nat_tests}
use Rattle.std.proofs.lemmas.List.{reverse-append, append-nil}
use Rattle.zi_address.specs.Texts.{is_none, same}
use Rattle.zi_address.specs.Address.{taken, names_left, settled}

-- without the innermost part, where there is one
abbrev outward : List (List ℕ) → Option (List (List ℕ))
outward [] = None
outward (x ∷ xs) = Some xs

-- the parts that are left behind these ones, the innermost of which stands first
abbrev pub walked : List (List ℕ) → List (List ℕ) → Option (List (List ℕ))
walked before [] = Some (reverse before)
walked before (x ∷ xs) =
    if is_none x || same x (codes ".") then walked before xs
    else if same x (codes "..") then option_and_then (λ b. walked b xs) (outward before)
    else walked (x ∷ before) xs

abbrev all_left : List (List ℕ) → ℕ → List (List ℕ) → List (List ℕ)
all_left before n left = reverse (drop n before) ++ left

some_taken : (m : ℕ) → (suc m == 0) ≡ false
some_taken m = grind (arith, nat_tests)

-- a name is kept, or one of those that the parts behind it take
name_walked : (before xs : List (List ℕ)) (x : List ℕ) (n : ℕ) → taken xs ≡ n → n - 1 ≤ length before
    → (taken xs ≤ length (x ∷ before) → walked (x ∷ before) xs ≡ Some (all_left (x ∷ before) (taken xs) (names_left xs)))
    → walked (x ∷ before) xs ≡ Some (all_left before (n - 1) (if n == 0 then x ∷ names_left xs else names_left xs))
name_walked before xs x zero e h more =
    let front : reverse (x ∷ before) ≡ reverse before ++ x ∷ [] = reverse-append (x ∷ []) before in
    more (omega (arith, e)) ∙ ap (λ n. Some (all_left (x ∷ before) n (names_left xs))) e
    ∙ ap Some (ap (λ l. l ++ names_left xs) front ∙ append_assoc (reverse before) (x ∷ []) (names_left xs))
name_walked before xs x (suc m) e h more =
    let less : suc m - 1 ≡ m = omega arith in
    let there : taken xs ≤ length (x ∷ before) = omega (arith, e, h) in
    more there ∙ ap (λ n. Some (all_left (x ∷ before) n (names_left xs))) e ∙ rw (less, some_taken m) refl

-- where as many stand before them as they take
walks : (before xs : List (List ℕ)) → taken xs ≤ length before → walked before xs ≡ Some (all_left before (taken xs) (names_left xs))
walks before [] h = ap Some (sym (append-nil (reverse before)))
walks before (x ∷ xs) h = by (is_none x || same x (codes ".")) (same x (codes "..")) before h (λ b k. walks b xs k)
  where
    by : (b c : Bool) (before : List (List ℕ)) → (if b then taken xs else if c then suc (taken xs) else taken xs - 1) ≤ length before
        → ((ps : List (List ℕ)) → taken xs ≤ length ps → walked ps xs ≡ Some (all_left ps (taken xs) (names_left xs)))
        → (if b then walked before xs else if c then option_and_then (λ b. walked b xs) (outward before) else walked (x ∷ before) xs)
        ≡ Some (all_left before (if b then taken xs else if c then suc (taken xs) else taken xs - 1) (if b || c then names_left xs else if taken xs == 0 then x ∷ names_left xs else names_left xs))
    by true c before h more = more before h
    by false true [] h more = absurd (omega (arith, h))
    by false true (y ∷ before) h more = more before (omega (arith, h))
    by false false before h more = name_walked before xs x (taken xs) refl h (λ k. more (x ∷ before) k)

-- where fewer do
walks_out : (before xs : List (List ℕ)) → length before < taken xs → walked before xs ≡ None
walks_out before [] h = absurd (omega (arith, h))
walks_out before (x ∷ xs) h = by (is_none x || same x (codes ".")) (same x (codes "..")) before h (λ b k. walks_out b xs k)
  where
    by : (b c : Bool) (before : List (List ℕ)) → length before < (if b then taken xs else if c then suc (taken xs) else taken xs - 1)
        → ((ps : List (List ℕ)) → length ps < taken xs → walked ps xs ≡ None)
        → (if b then walked before xs else if c then option_and_then (λ b. walked b xs) (outward before) else walked (x ∷ before) xs) ≡ None
    by true c before h more = more before h
    by false true [] h more = refl
    by false true (y ∷ before) h more = more before (omega (arith, h))
    by false false before h more = more (x ∷ before) (omega (arith, h))

-- walked from the front is settled
pub walk_settles : (ps : List (List ℕ)) → walked [] ps ≡ settled ps
walk_settles ps = by (taken ps) refl
  where
    by : (n : ℕ) → taken ps ≡ n → walked [] ps ≡ (if n == 0 then Some (names_left ps) else None)
    by zero e = walks [] ps (omega (arith, e)) ∙ ap (λ n. Some (all_left [] n (names_left ps))) e
    by (suc n) e = rw (some_taken n) (walks_out [] ps (omega (arith, e)))
