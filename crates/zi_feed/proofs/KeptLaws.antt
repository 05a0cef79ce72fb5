-- The latest of a list that grows, and lists of which a part is kept.
use Rattle.std.proofs.Common.{◌≡◌, Bool, true, false, cond, ◌||◌, List, [], ◌∷◌, ◌++◌, ◌≤◌, length, arith, map, Option, Some, None, refl, sym, ap, ◌∙◌, append-nil}
use Rattle.std.specs.List.{list_any, filter, filter_map, cons_option, flat_map}
use Rattle.std.specs.Option.{option_map}
use Rattle.std.proofs.lemmas.Bool.{false≢true}
use Rattle.std.proofs.lemmas.List.{map-append}
use Rattle.std.proofs.lemmas.List.Elements.{filter-append}
use Rattle.std.proofs.lemmas.List.Folds.{list_any-append}
use Rattle.std.proofs.Math.Bool.{or-true}
use Rattle.zi_reading.specs.Words.{latest}

or_same : (a b : Bool) → (a ≡ true → b ≡ true) → b ≡ (a || b)
or_same true b h = h refl
or_same false b h = refl

-- Where no item is like x, none of the latest is.
none_latest : {X : Type 0} (like : X → X → Bool) (test : X → Bool) (xs : List X) → list_any test xs ≡ false → list_any test (latest like xs) ≡ false
none_latest like test [] h = refl
none_latest like test (x ∷ xs) h = by (list_any (like x) xs) (test x) refl (none_latest like test xs) h
  where
    by : (b a : Bool) → test x ≡ a → (list_any test xs ≡ false → list_any test (latest like xs) ≡ false) → (a || list_any test xs) ≡ false → list_any test (cond b (latest like xs) (x ∷ latest like xs)) ≡ false
    by true true e k h = absurd (false≢true (sym h))
    by true false e k h = k h
    by false true e k h = absurd (false≢true (sym h))
    by false false e k h = ap (λ v. v || list_any test (latest like xs)) e ∙ k h

-- The latest of the latest and of more are the latest of all.
pub latest_again : {X : Type 0} (like : X → X → Bool) (xs ys : List X) → latest like (latest like xs ++ ys) ≡ latest like (xs ++ ys)
latest_again like [] ys = refl
latest_again like (x ∷ xs) ys = by (list_any (like x) xs) (latest_again like xs ys) refl
  where
    by : (b : Bool) → latest like (latest like xs ++ ys) ≡ latest like (xs ++ ys) → list_any (like x) xs ≡ b
        → latest like (cond b (latest like xs) (x ∷ latest like xs) ++ ys) ≡ cond (list_any (like x) (xs ++ ys)) (latest like (xs ++ ys)) (x ∷ latest like (xs ++ ys))
    by true k h =
        k
        ∙ ap (λ b. cond b (latest like (xs ++ ys)) (x ∷ latest like (xs ++ ys))) (sym (list_any-append (like x) xs ys ∙ ap (λ b. b || list_any (like x) ys) h))
    by false k h =
        let left : list_any (like x) (latest like xs ++ ys) ≡ list_any (like x) ys = list_any-append (like x) (latest like xs) ys ∙ ap (λ b. b || list_any (like x) ys) (none_latest like (like x) xs h) in
        let right : list_any (like x) (xs ++ ys) ≡ list_any (like x) ys = list_any-append (like x) xs ys ∙ ap (λ b. b || list_any (like x) ys) h in
        ap (λ b. cond b (latest like (latest like xs ++ ys)) (x ∷ latest like (latest like xs ++ ys))) (left ∙ sym right)
        ∙ ap (λ v. cond (list_any (like x) (xs ++ ys)) v (x ∷ v)) k

-- Once more, they are as they were.
pub latest_twice : {X : Type 0} (like : X → X → Bool) (xs : List X) → latest like (latest like xs) ≡ latest like xs
latest_twice like xs = ap (latest like) (sym (append-nil (latest like xs))) ∙ (latest_again like xs [] ∙ ap (latest like) (append-nil xs))

-- They are no more, and as many where they are all.
pub latest_short : {X : Type 0} (like : X → X → Bool) (xs : List X) → length (latest like xs) ≤ length xs
latest_short like [] = omega arith
latest_short like (x ∷ xs) = by (list_any (like x) xs) (latest_short like xs)
  where
    by : (b : Bool) → length (latest like xs) ≤ length xs → length (cond b (latest like xs) (x ∷ latest like xs)) ≤ length (x ∷ xs)
    by true h = omega (arith, h)
    by false h = omega (arith, h)

pub latest_whole : {X : Type 0} (like : X → X → Bool) (xs : List X) → length (latest like xs) ≡ length xs → latest like xs ≡ xs
latest_whole like [] h = refl
latest_whole like (x ∷ xs) h = by (list_any (like x) xs) (latest_whole like xs) h
  where
    by : (b : Bool) → (length (latest like xs) ≡ length xs → latest like xs ≡ xs) → length (cond b (latest like xs) (x ∷ latest like xs)) ≡ length (x ∷ xs)
        → cond b (latest like xs) (x ∷ latest like xs) ≡ x ∷ xs
    by true k e = absurd (omega (arith, e, latest_short like xs))
    by false k e = ap (λ v. x ∷ v) (k (omega (arith, e)))

-- What items that are alike share is in the list where it is among the latest.
shared_by : {X : Type 0} (like : X → X → Bool) (test : X → Bool) → ((x y : X) → like x y ≡ true → test x ≡ test y) → (x : X) (xs : List X)
    → list_any (like x) xs ≡ true → test x ≡ true → list_any test xs ≡ true
shared_by like test alike x [] h t = absurd (false≢true h)
shared_by like test alike x (y ∷ ys) h t = by (like x y) (λ k. shared_by like test alike x ys k t) refl h
  where
    by : (b : Bool) → (list_any (like x) ys ≡ true → list_any test ys ≡ true) → like x y ≡ b → (b || list_any (like x) ys) ≡ true → (test y || list_any test ys) ≡ true
    by true k e h = ap (λ v. v || list_any test ys) (sym (alike x y e) ∙ t)
    by false k e h = ap (λ v. test y || v) (k h) ∙ or-true (test y)

pub any_latest : {X : Type 0} (like : X → X → Bool) (test : X → Bool) → ((x y : X) → like x y ≡ true → test x ≡ test y) → (xs : List X)
    → list_any test (latest like xs) ≡ list_any test xs
any_latest like test alike [] = refl
any_latest like test alike (x ∷ xs) = by (list_any (like x) xs) (any_latest like test alike xs) refl
  where
    by : (b : Bool) → list_any test (latest like xs) ≡ list_any test xs → list_any (like x) xs ≡ b → list_any test (cond b (latest like xs) (x ∷ latest like xs)) ≡ (test x || list_any test xs)
    by true k h = k ∙ or_same (test x) (list_any test xs) (shared_by like test alike x xs h)
    by false k h = ap (λ v. test x || v) k

-- What doesn't change the likeness.
any_map : {X Y : Type 0} (h : X → Y) (test : Y → Bool) (own : X → Bool) → ((x : X) → test (h x) ≡ own x) → (xs : List X) → list_any test (map h xs) ≡ list_any own xs
any_map h test own same [] = refl
any_map h test own same (x ∷ xs) = ap (λ v. v || list_any test (map h xs)) (same x) ∙ ap (λ v. own x || v) (any_map h test own same xs)

map_cond : {X Y : Type 0} (h : X → Y) (b : Bool) (xs ys : List X) → map h (cond b xs ys) ≡ cond b (map h xs) (map h ys)
map_cond h true xs ys = refl
map_cond h false xs ys = refl

pub latest_map : {X Y : Type 0} (like : X → X → Bool) (likes : Y → Y → Bool) (h : X → Y) → ((x y : X) → likes (h x) (h y) ≡ like x y) → (xs : List X)
    → latest likes (map h xs) ≡ map h (latest like xs)
latest_map like likes h same [] = refl
latest_map like likes h same (x ∷ xs) =
    ap (λ b. cond b (latest likes (map h xs)) (h x ∷ latest likes (map h xs))) (any_map h (likes (h x)) (like x) (same x) xs)
    ∙ (ap (λ v. cond (list_any (like x) xs) v (h x ∷ v)) (latest_map like likes h same xs)
    ∙ sym (map_cond h (list_any (like x) xs) (latest like xs) (x ∷ latest like xs)))

-- A part of what each gives.
pub filter_each : {A X : Type 0} (test : X → Bool) (h : A → List X) (xs : List A) → flat_map (λ a. filter test (h a)) xs ≡ filter test (flat_map h xs)
filter_each test h [] = refl
filter_each test h (x ∷ xs) = ap (λ v. filter test (h x) ++ v) (filter_each test h xs) ∙ sym (filter-append test (h x) (flat_map h xs))

pub map_each : {A X Y : Type 0} (k : X → Y) (h : A → List X) (xs : List A) → flat_map (λ a. map k (h a)) xs ≡ map k (flat_map h xs)
map_each k h [] = refl
map_each k h (x ∷ xs) = ap (λ v. map k (h x) ++ v) (map_each k h xs) ∙ sym (map-append k (h x) (flat_map h xs))

option_more : {X Y : Type 0} (k : X → Y) (o : Option X) (ys : List Y) (xs : List X) → ys ≡ map k xs → cons_option (option_map k o) ys ≡ map k (cons_option o xs)
option_more k None ys xs e = e
option_more k (Some x) ys xs e = ap (λ v. k x ∷ v) e

pub filter_map_each : {A X Y : Type 0} (k : X → Y) (h : A → Option X) (xs : List A) → filter_map (λ a. option_map k (h a)) xs ≡ map k (filter_map h xs)
filter_map_each k h [] = refl
filter_map_each k h (x ∷ xs) = option_more k (h x) _ _ (filter_map_each k h xs)

pub option_map_through : {A X Y : Type 0} (k : X → Y) (h : A → X) (g : A → Y) → ((a : A) → g a ≡ k (h a)) → (o : Option A) → option_map g o ≡ option_map k (option_map h o)
option_map_through k h g same None = refl
option_map_through k h g same (Some a) = ap Some (same a)
