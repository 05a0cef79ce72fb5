-- A choice has a walk: each visit that goes on lists an interface more, and each need that goes on uses a command more, so
-- that what is left grows less.
use Rattle.std.proofs.Common.{◌≡◌, ℕ, zero, suc, ◌==◌, ◌<◌, ◌≤◌, Bool, true, false, cond, ◌&&◌, List, [], ◌∷◌, ◌++◌, length, refl, sym, subst, ap, ◌∙◌, arith, Option, Some, None, ◌⊎◌, inl, inr, eq-eqb}
use Rattle.std.specs.Prelude.{bytes_eq, find, option_and_then}
use Rattle.std.specs.Cmp.Lexicographic.{bytes_decides}
use Rattle.std.proofs.lemmas.Bool.{and_from}
use Rattle.zi_parts.specs.declared.types.Command.{Command}
use Rattle.zi_parts.specs.declared.types.Dep.{Dep}
use Rattle.zi_universe.specs.declared.types.Candidate.{Candidate}
use Rattle.zi_universe.specs.declared.types.Interface.{Interface}
use Rattle.zi_choice.specs.Choice.{Choice, pick, chosen, candidate_at, command_of, command_at, deps_of, needs_of}
use Rattle.zi_choice.specs.Walk.{Use, Walk, Visits, Needs, NeedsEach, Follows, listed, comes, lacks, again, uses, no_more, one_more, ends, passes, goes, is_listed, is_used, with_place, with_use, leads_to, wanted, nothing}
use Rattle.zi_choice.specs.Left.{left, below, uses_in, commands_in, all_uses, used_in, to_come}
use Rattle.zi_choice.specs.Laws.{WalkIsThere}
use Rattle.zi_choice.proofs.GrowLaws.{any_left, any_right, place_there}
use Rattle.zi_choice.proofs.WalkLaws.{true_false}
use Rattle.zi_feed.specs.IdLaws.{none_some}

-- an item is one of a list
abbrev pub In : {A : Type 0} → A → List A → Type 0
In y [] = ⊥
In y (x ∷ xs) = (x ≡ y) ⊎ In y xs

-- what passes the one passes the other
abbrev Passes : {A : Type 0} → (A → Bool) → (A → Bool) → Type 0
Passes {A} f g = (x : A) → f x ≡ true → g x ≡ true

left_keeps : {A : Type 0} (f g : A → Bool) (xs : List A) → Passes f g → left g xs ≤ left f xs
unfolding left
left_keeps f g [] h = omega arith
left_keeps f g (x ∷ xs) h = at (f x) (g x) refl refl (left_keeps f g xs h)
  where
    at : (p q : Bool) → f x ≡ p → g x ≡ q → left g xs ≤ left f xs → cond q (left g xs) (suc (left g xs)) ≤ cond p (left f xs) (suc (left f xs))
    at true true e d rest = rest
    at true false e d rest = true_false (h x e) d
    at false true e d rest = omega (arith, rest)
    at false false e d rest = omega (arith, rest)

left_falls : {A : Type 0} (f g : A → Bool) (xs : List A) (y : A) → Passes f g → In y xs → f y ≡ false → g y ≡ true → left g xs < left f xs
unfolding left
left_falls f g [] y h inside e d = absurd inside
left_falls f g (x ∷ xs) y h (inl same) e d =
    subst (λ (b : Bool). cond (g x) (left g xs) (suc (left g xs)) < cond b (left f xs) (suc (left f xs))) (sym e ∙ ap f (sym same))
    (subst (λ (b : Bool). cond b (left g xs) (suc (left g xs)) < suc (left f xs)) (sym d ∙ ap g (sym same)) (omega (arith, left_keeps f g xs h)))
left_falls f g (x ∷ xs) y h (inr inside) e d = at (f x) (g x) refl refl (left_falls f g xs y h inside e d)
  where
    at : (p q : Bool) → f x ≡ p → g x ≡ q → left g xs < left f xs → cond q (left g xs) (suc (left g xs)) < cond p (left f xs) (suc (left f xs))
    at true true a b rest = rest
    at true false a b rest = true_false (h x a) b
    at false true a b rest = omega (arith, rest)
    at false false a b rest = omega (arith, rest)

pub at_or_below : (i n : ℕ) → i < suc n → (i ≡ n) ⊎ (i < n)
at_or_below zero zero lt = inl refl
at_or_below zero (suc n) lt = inr (omega arith)
at_or_below (suc i) zero lt = absurd (omega (arith, lt))
at_or_below (suc i) (suc n) lt = elim (at_or_below i n (omega (arith, lt))) [ inl e ↦ inl (ap suc e) | inr l ↦ inr (omega (arith, l)) ]

pub below_has : (n i : ℕ) → i < n → In i (below n)
unfolding below
below_has zero i lt = absurd (omega (arith, lt))
below_has (suc n) i lt = elim (at_or_below i n lt) [ inl e ↦ inl (sym e) | inr l ↦ inr (below_has n i l) ]

pub in_left : {A : Type 0} (y : A) (xs ys : List A) → In y xs → In y (xs ++ ys)
in_left y [] ys h = absurd h
in_left y (x ∷ xs) ys (inl e) = inl e
in_left y (x ∷ xs) ys (inr h) = inr (in_left y xs ys h)

pub in_right : {A : Type 0} (y : A) (xs ys : List A) → In y ys → In y (xs ++ ys)
in_right y [] ys h = h
in_right y (x ∷ xs) ys h = inr (in_right y xs ys h)

abbrev a_use : ℕ → List ℕ → Use
a_use i name = record { interface = i; command = name }

found_in : (i : ℕ) (name : List ℕ) (ms : List Command) (m : Command) → find (λ x. bytes_eq x.name name) ms ≡ Some m → In (a_use i name) (uses_in i ms)
unfolding uses_in
found_in i name [] m e = absurd (none_some e)
found_in i name (x ∷ ms) m e = at (bytes_eq x.name name) refl e (λ g. found_in i name ms m g)
  where
    at : (b : Bool) → bytes_eq x.name name ≡ b → cond b (Some x) (find (λ x. bytes_eq x.name name) ms) ≡ Some m
        → (find (λ x. bytes_eq x.name name) ms ≡ Some m → In (a_use i name) (uses_in i ms)) → In (a_use i name) (a_use i x.name ∷ uses_in i ms)
    at true h g later = inl (ap (λ n. a_use i n) ((bytes_decides x.name name).0 h))
    at false h g later = inr (later g)

command_in : (i : ℕ) (name : List ℕ) (o : Option Candidate) (m : Command) → option_and_then (λ c. command_of c name) o ≡ Some m → In (a_use i name) (uses_in i (commands_in o))
unfolding commands_in
command_in i name None m e = absurd (none_some e)
command_in i name (Some c) m e = found_in i name c.imp.commands m e

all_uses_has : (u : List Interface) (s : Choice) (n i : ℕ) (name : List ℕ) (m : Command) → i < n → command_at u s i name ≡ Some m → In (a_use i name) (all_uses u s n)
unfolding all_uses
all_uses_has u s zero i name m lt e = absurd (omega (arith, lt))
all_uses_has u s (suc n) i name m lt e =
    elim (at_or_below i n lt) [
      | inl same ↦ in_left (a_use i name) (uses_in n (commands_in (chosen u s n))) (all_uses u s n) (subst (λ k. In (a_use i name) (uses_in k (commands_in (chosen u s k)))) same (command_in i name (chosen u s i) m e))
      | inr l ↦ in_right (a_use i name) (uses_in n (commands_in (chosen u s n))) (all_uses u s n) (all_uses_has u s n i name m l e)
    ]

within : (u : List Interface) (i c : ℕ) (k : Candidate) → candidate_at u i c ≡ Some k → i < length u
within [] i c k e = absurd (none_some e)
within (x ∷ u) zero c k e = omega arith
within (x ∷ u) (suc i) c k e = omega (arith, within u i c k e)

pub pick_within : (u : List Interface) (i : ℕ) (p : Option ℕ) (k : Candidate) → option_and_then (λ c. candidate_at u i c) p ≡ Some k → i < length u
pick_within u i None k e = absurd (none_some e)
pick_within u i (Some c) k e = within u i c k e

command_within : (u : List Interface) (s : Choice) (i : ℕ) (name : List ℕ) (m : Command) → command_at u s i name ≡ Some m → i < length u
command_within u s i name m e = at (chosen u s i) refl e
  where
    at : (o : Option Candidate) → chosen u s i ≡ o → option_and_then (λ c. command_of c name) o ≡ Some m → i < length u
    at None h g = absurd (none_some g)
    at (Some k) h g = pick_within u i (pick s i) k h

place_keeps : (s : Choice) (i : ℕ) (a : Walk) → Passes (λ j. is_listed a j) (λ j. is_listed (with_place s i a) j)
place_keeps s i a j e = any_left (λ p. p.interface == j) a.places (record { interface = i; pick = pick s i } ∷ []) e

use_keeps : (i : ℕ) (name : List ℕ) (a : Walk) → Passes (λ x. used_in a x) (λ x. used_in (with_use i name a) x)
use_keeps i name a x e = any_left (λ y. y.interface == x.interface && bytes_eq y.command x.command) a.used (a_use i name ∷ []) e

pub use_there : (i : ℕ) (name : List ℕ) (a : Walk) → is_used (with_use i name a) i name ≡ true
use_there i name a = any_right (λ y. y.interface == i && bytes_eq y.command name) a.used (a_use i name) (and_from (i == i) (bytes_eq name name) (eq-eqb i i refl) ((bytes_decides name name).1 refl))

place_not_more : (u : List Interface) (s : Choice) (i : ℕ) (a : Walk) → to_come u s (with_place s i a) ≤ to_come u s a
unfolding to_come
place_not_more u s i a = omega (arith, left_keeps (λ j. is_listed a j) (λ j. is_listed (with_place s i a) j) (below (length u)) (place_keeps s i a))

pub place_less : (u : List Interface) (s : Choice) (i : ℕ) (a : Walk) → i < length u → is_listed a i ≡ false → to_come u s (with_place s i a) < to_come u s a
unfolding to_come
place_less u s i a lt new =
    omega (arith, left_falls (λ j. is_listed a j) (λ j. is_listed (with_place s i a) j) (below (length u)) i (place_keeps s i a) (below_has (length u) i lt) new (place_there s i a))

pub use_less : (u : List Interface) (s : Choice) (i : ℕ) (name : List ℕ) (m : Command) (a : Walk) → command_at u s i name ≡ Some m → is_used a i name ≡ false → to_come u s (with_use i name a) < to_come u s a
unfolding to_come
use_less u s i name m a e new =
    let inside : In (a_use i name) (all_uses u s (length u)) = all_uses_has u s (length u) i name m (command_within u s i name m e) e in
    omega (arith, left_falls (λ x. used_in a x) (λ x. used_in (with_use i name a) x) (all_uses u s (length u)) (a_use i name) (use_keeps i name a) inside new (use_there i name a))

-- The walk goes from here to there, where not more is left.
record Comes (u : List Interface) (s : Choice) (R : Walk → Walk → Type 0) (a : Walk) : Type 0 where
  there : Walk
  goes_there : R a there
  not_more : to_come u s there ≤ to_come u s a

abbrev AllFollow : List Interface → Choice → ℕ → Type 0
AllFollow u s n = (ds : List Dep) (a : Walk) → to_come u s a ≤ n → Comes u s (Follows u s ds) a

-- what is known of those with less left
abbrev LessFollow : List Interface → Choice → ℕ → Type 0
LessFollow u s zero = Unit {0}
LessFollow u s (suc n) = AllFollow u s n

-- following where less is left
deeper : (u : List Interface) (s : Choice) (n : ℕ) (ds : List Dep) (a b : Walk) → LessFollow u s n → to_come u s a ≤ n → to_come u s b < to_come u s a → Comes u s (Follows u s ds) b
deeper u s zero ds a b less few fall = absurd (omega (arith, few, fall))
deeper u s (suc n) ds a b less few fall = less ds b (omega (arith, few, fall))

no_further : (u : List Interface) (s : Choice) (i : ℕ) (a : Walk) → is_listed a i ≡ false → chosen u s i ≡ None → Comes u s (Visits u s i) a
no_further u s i a new none =
    let b : Walk = with_place s i a in
    let stays : Follows u s [] b b = ends in
    record { there = b; goes_there = comes new (subst (λ o. Follows u s (deps_of o) b b) (sym none) stays); not_more = place_not_more u s i a }

further : (u : List Interface) (s : Choice) (n i : ℕ) (a : Walk) (k : Candidate) → LessFollow u s n → to_come u s a ≤ n → is_listed a i ≡ false → chosen u s i ≡ Some k → Comes u s (Visits u s i) a
further u s n i a k less few new some =
    let fall : to_come u s (with_place s i a) < to_come u s a = place_less u s i a (pick_within u i (pick s i) k some) new in
    let on : Comes u s (Follows u s (deps_of (chosen u s i))) (with_place s i a) = deeper u s n (deps_of (chosen u s i)) a (with_place s i a) less few fall in
    record { there = on.there; goes_there = comes new on.goes_there; not_more = omega (arith, fall, on.not_more) }

visit_there : (u : List Interface) (s : Choice) (n i : ℕ) (a : Walk) → LessFollow u s n → to_come u s a ≤ n → Comes u s (Visits u s i) a
visit_there u s n i a less few = at (is_listed a i) refl
  where
    new_at : (o : Option Candidate) → chosen u s i ≡ o → is_listed a i ≡ false → Comes u s (Visits u s i) a
    new_at None e new = no_further u s i a new e
    new_at (Some k) e new = further u s n i a k less few new e

    at : (b : Bool) → is_listed a i ≡ b → Comes u s (Visits u s i) a
    at true e = record { there = a; goes_there = listed e; not_more = omega arith }
    at false e = new_at (chosen u s i) refl e

use_on : (u : List Interface) (s : Choice) (n i : ℕ) (name : List ℕ) (m : Command) (a : Walk) → LessFollow u s n → to_come u s a ≤ n → command_at u s i name ≡ Some m → is_used a i name ≡ false → Comes u s (Needs u s i name) a
use_on u s n i name m a less few e new =
    let fall : to_come u s (with_use i name a) < to_come u s a = use_less u s i name m a e new in
    let on : Comes u s (Follows u s (needs_of m)) (with_use i name a) = deeper u s n (needs_of m) a (with_use i name a) less few fall in
    record { there = on.there; goes_there = uses m e new on.goes_there; not_more = omega (arith, fall, on.not_more) }

need_there : (u : List Interface) (s : Choice) (n i : ℕ) (name : List ℕ) (a : Walk) → LessFollow u s n → to_come u s a ≤ n → Comes u s (Needs u s i name) a
need_there u s n i name a less few = at (command_at u s i name) refl
  where
    new_at : (m : Command) → command_at u s i name ≡ Some m → (b : Bool) → is_used a i name ≡ b → Comes u s (Needs u s i name) a
    new_at m e true new = record { there = a; goes_there = again new; not_more = omega arith }
    new_at m e false new = use_on u s n i name m a less few e new

    at : (o : Option Command) → command_at u s i name ≡ o → Comes u s (Needs u s i name) a
    at None e = record { there = a; goes_there = lacks e; not_more = omega arith }
    at (Some m) e = new_at m e (is_used a i name) refl

each_there : (u : List Interface) (s : Choice) (n i : ℕ) (names : List (List ℕ)) (a : Walk) → LessFollow u s n → to_come u s a ≤ n → Comes u s (NeedsEach u s i names) a
each_there u s n i [] a less few = record { there = a; goes_there = no_more; not_more = omega arith }
each_there u s n i (name ∷ names) a less few =
    let one : Comes u s (Needs u s i name) a = need_there u s n i name a less few in
    let more : Comes u s (NeedsEach u s i names) one.there = each_there u s n i names one.there less (omega (arith, few, one.not_more)) in
    record { there = more.there; goes_there = one_more one.goes_there more.goes_there; not_more = omega (arith, one.not_more, more.not_more) }

-- along a dependency that leads somewhere
along : (u : List Interface) (s : Choice) (n i : ℕ) (d : Dep) (ds : List Dep) (a : Walk) → LessFollow u s n → to_come u s a ≤ n → leads_to u d ≡ Some i → ((b : Walk) → to_come u s b ≤ n → Comes u s (Follows u s ds) b) → Comes u s (Follows u s (d ∷ ds)) a
along u s n i d ds a less few e rest =
    let came : Comes u s (Visits u s i) a = visit_there u s n i a less few in
    let each : Comes u s (NeedsEach u s i d.commands) came.there = each_there u s n i d.commands came.there less (omega (arith, few, came.not_more)) in
    let on : Comes u s (Follows u s ds) each.there = rest each.there (omega (arith, few, came.not_more, each.not_more)) in
    record { there = on.there; goes_there = goes i e came.goes_there each.goes_there on.goes_there; not_more = omega (arith, came.not_more, each.not_more, on.not_more) }

follows_from : (u : List Interface) (s : Choice) (n : ℕ) → LessFollow u s n → AllFollow u s n
follows_from u s n less [] a few = record { there = a; goes_there = ends; not_more = omega arith }
follows_from u s n less (d ∷ ds) a few = at (leads_to u d) refl (λ b g. follows_from u s n less ds b g)
  where
    past : leads_to u d ≡ None → Comes u s (Follows u s ds) a → Comes u s (Follows u s (d ∷ ds)) a
    past e on = record { there = on.there; goes_there = passes e on.goes_there; not_more = on.not_more }

    at : (o : Option ℕ) → leads_to u d ≡ o → ((b : Walk) → to_come u s b ≤ n → Comes u s (Follows u s ds) b) → Comes u s (Follows u s (d ∷ ds)) a
    at None e rest = past e (rest a few)
    at (Some i) e rest = along u s n i d ds a less few e rest

all_follow : (u : List Interface) (s : Choice) (n : ℕ) → AllFollow u s n
all_follow u s zero = follows_from u s zero tt
all_follow u s (suc n) = follows_from u s (suc n) (all_follow u s n)

less_follow : (u : List Interface) (s : Choice) (n : ℕ) → LessFollow u s n
less_follow u s zero = tt
less_follow u s (suc n) = all_follow u s n

pub walk_there : WalkIsThere
walk_there u req s =
    let n : ℕ = to_come u s nothing in
    let came : Comes u s (Visits u s 0) nothing = visit_there u s n 0 nothing (less_follow u s n) (omega arith) in
    let each : Comes u s (NeedsEach u s 0 (wanted req.command)) came.there = each_there u s n 0 (wanted req.command) came.there (less_follow u s n) came.not_more in
    (each.there, record { from_root = came.there; visits = came.goes_there; needs = each.goes_there })
