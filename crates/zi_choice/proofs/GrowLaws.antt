-- A walk only grows: what is listed stays listed, and in its place.
use Rattle.std.proofs.Common.{◌≡◌, ℕ, ◌==◌, Bool, true, false, ◌||◌, List, [], ◌∷◌, ◌++◌, refl, sym, subst, ap, ◌∙◌, append_assoc, eq-eqb, ◌⊎◌, inl, inr}
use Rattle.std.specs.List.{list_any}
use Rattle.std.proofs.lemmas.List.{append-nil}
use Rattle.std.proofs.lemmas.Bool.{false≢true}
use Rattle.zi_parts.specs.declared.types.Dep.{Dep}
use Rattle.zi_universe.specs.declared.types.Interface.{Interface}
use Rattle.zi_choice.specs.Choice.{Choice, pick}
use Rattle.zi_choice.specs.Walk.{Place, Walk, Visits, Needs, NeedsEach, Follows, listed, comes, lacks, again, uses, no_more, one_more, ends, passes, goes, is_listed, with_place}

pub any_left : {A : Type 0} (test : A → Bool) (xs ys : List A) → list_any test xs ≡ true → list_any test (xs ++ ys) ≡ true
any_left test [] ys e = absurd (false≢true e)
any_left test (x ∷ xs) ys e = at (test x) e (λ g. any_left test xs ys g)
  where
    at : (b : Bool) → (b || list_any test xs) ≡ true → (list_any test xs ≡ true → list_any test (xs ++ ys) ≡ true) → (b || list_any test (xs ++ ys)) ≡ true
    at true g later = refl
    at false g later = later g

pub any_right : {A : Type 0} (test : A → Bool) (xs : List A) (y : A) → test y ≡ true → list_any test (xs ++ y ∷ []) ≡ true
any_right test [] y e = ap (λ b. b || false) e
any_right test (x ∷ xs) y e = at (test x) (any_right test xs y e)
  where
    at : (b : Bool) → list_any test (xs ++ y ∷ []) ≡ true → (b || list_any test (xs ++ y ∷ [])) ≡ true
    at true rest = refl
    at false rest = rest

-- one of a list with one more behind is one of the list, or that one
pub any_of : {A : Type 0} (test : A → Bool) (xs : List A) (y : A) → list_any test (xs ++ y ∷ []) ≡ true → (list_any test xs ≡ true) ⊎ (test y ≡ true)
any_of test [] y e = inr (or_false (test y) e)
  where
    or_false : (b : Bool) → (b || false) ≡ true → b ≡ true
    or_false true f = refl
    or_false false f = f
any_of test (x ∷ xs) y e = at (test x) e (λ g. any_of test xs y g)
  where
    at : (b : Bool) → (b || list_any test (xs ++ y ∷ [])) ≡ true → (list_any test (xs ++ y ∷ []) ≡ true → (list_any test xs ≡ true) ⊎ (test y ≡ true)) → ((b || list_any test xs) ≡ true) ⊎ (test y ≡ true)
    at true g later = inl refl
    at false g later = later g

pub place_there : (s : Choice) (i : ℕ) (a : Walk) → is_listed (with_place s i a) i ≡ true
place_there s i a = any_right (λ p. p.interface == i) a.places (record { interface = i; pick = pick s i }) (eq-eqb i i refl)

-- the places of the one are those of the other, and more behind them
pub record Grows (a b : Walk) : Type 0 where
  pub more : List Place
  pub is : b.places ≡ a.places ++ more

grows_none : (a : Walk) → Grows a a
grows_none a = record { more = []; is = sym (append-nil a.places) }

grows_on : {a b c : Walk} → Grows a b → Grows b c → Grows a c
grows_on {a} {b} {c} g h = record { more = g.more ++ h.more; is = h.is ∙ ap (λ ps. ps ++ h.more) g.is ∙ append_assoc a.places g.more h.more }

grows_place : (s : Choice) (i : ℕ) (a b : Walk) → Grows (with_place s i a) b → Grows a b
grows_place s i a b g =
    let p : Place = record { interface = i; pick = pick s i } in
    record { more = p ∷ g.more; is = g.is ∙ append_assoc a.places (p ∷ []) g.more }

mutual
  pub grow_visit : {u : List Interface} {s : Choice} {i : ℕ} {a b : Walk} → Visits u s i a b → Grows a b
  grow_visit (listed {a = a} e) = grows_none a
  grow_visit {u} {s} (comes {i = i} {a = a} {b = b} e f) = grows_place s i a b (grow_follow f)

  pub grow_need : {u : List Interface} {s : Choice} {i : ℕ} {name : List ℕ} {a b : Walk} → Needs u s i name a b → Grows a b
  grow_need (lacks {a = a} e) = grows_none a
  grow_need (again {a = a} e) = grows_none a
  grow_need (uses m e g h) = let on = grow_follow h in record { more = on.more; is = on.is }

  pub grow_each : {u : List Interface} {s : Choice} {i : ℕ} {names : List (List ℕ)} {a b : Walk} → NeedsEach u s i names a b → Grows a b
  grow_each (no_more {a = a}) = grows_none a
  grow_each (one_more n e) = grows_on (grow_need n) (grow_each e)

  pub grow_follow : {u : List Interface} {s : Choice} {ds : List Dep} {a b : Walk} → Follows u s ds a b → Grows a b
  grow_follow (ends {a = a}) = grows_none a
  grow_follow (passes e f) = grow_follow f
  grow_follow (goes i e v n f) = grows_on (grow_visit v) (grows_on (grow_each n) (grow_follow f))

-- what is listed stays listed
pub stays_listed : {a b : Walk} (i : ℕ) → Grows a b → is_listed a i ≡ true → is_listed b i ≡ true
stays_listed {a} {b} i g e =
    subst (λ ps. list_any (λ (p : Place). p.interface == i) ps ≡ true) (sym g.is) (any_left (λ (p : Place). p.interface == i) a.places g.more e)

-- what is visited is listed
pub visit_lists : {u : List Interface} {s : Choice} {i : ℕ} {a b : Walk} → Visits u s i a b → is_listed b i ≡ true
visit_lists (listed e) = e
visit_lists {u} {s} (comes {i = i} {a = a} e f) = stays_listed i (grow_follow f) (place_there s i a)
