-- Each selection is shown exactly once.
use Rattle.std.proofs.Common.{◌≡◌, ℕ, Bool, true, false, ◌||◌, cond, List, [], ◌∷◌, ◌++◌, map, refl, sym, ap, ◌∙◌, subst, append_assoc, Option, Some, None, is_some}
use Rattle.std.specs.Prelude.{bytes_eq, if◌then◌else◌, find}
use Rattle.std.proofs.lemmas.List.{map-append}
use Rattle.std.proofs.lemmas.Slice.Eq.{bytes_eq-Decides}
use Rattle.zi_policy.specs.Platform.{listed}
use Rattle.zi_feed.proofs.LatestLaws.{text_swap}
use Rattle.zi_sels.specs.declared.types.Selection.{Selection}
use Rattle.zi_sels.specs.declared.types.Selections.{Selections}
use Rattle.zi_showing.specs.Tree.{needs, selected_for, still_to_show, Trees, none, tree, all_in, addresses_in, Grow, ends, passes, grows, all_asked, AreTrees}
use Rattle.zi_showing.specs.Laws.{AreOnce, ShowsEachOnce}

abbrev address : Selection → List ℕ
address x = x.interface

-- an address among some that stand one behind the other
among_both : (u : List ℕ) (xs ys : List (List ℕ)) → listed u (xs ++ ys) ≡ (listed u xs || listed u ys)
among_both u [] ys = refl
among_both u (x ∷ xs) ys = by (bytes_eq u x) (among_both u xs ys)
  where
    by : (b : Bool) → listed u (xs ++ ys) ≡ (listed u xs || listed u ys) → (b || listed u (xs ++ ys)) ≡ ((b || listed u xs) || listed u ys)
    by true e = refl
    by false e = e

-- the addresses of a tree and those behind it
in_tree : (x : Selection) (below next : Trees) → addresses_in (tree x below next) ≡ address x ∷ (addresses_in below ++ addresses_in next)
in_tree x below next = ap (λ v. address x ∷ v) (map-append address (all_in below) (all_in next))

-- a selection that is found has the address
found_at : (items : List Selection) (u : List ℕ) (x : Selection) → selected_for items u ≡ Some x → address x ≡ u
found_at [] u x e = absurd (cc e)
found_at (y ∷ items) u x e = by (bytes_eq (address y) u) refl e (found_at items u x)
  where
    by : (b : Bool) → bytes_eq (address y) u ≡ b → cond b (Some y) (selected_for items u) ≡ Some x → (selected_for items u ≡ Some x → address x ≡ u) → address x ≡ u
    by true t f go = let same : y ≡ x = cc f in ap address (sym same) ∙ (bytes_eq-Decides (address y) u).0 t
    by false t f go = go f

-- something is selected for an address where a selection has it
is_selected : (items : List Selection) (u : List ℕ) → is_some (selected_for items u) ≡ listed u (map address items)
is_selected [] u = refl
is_selected (y ∷ items) u = by (bytes_eq (address y) u) (bytes_eq u (address y)) (text_swap (address y) u) (is_selected items u)
  where
    by : (a b : Bool) → a ≡ b → is_some (selected_for items u) ≡ listed u (map address items) → is_some (cond a (Some y) (selected_for items u)) ≡ (b || listed u (map address items))
    by true true t e = refl
    by true false t e = cc
    by false true t e = cc
    by false false t e = e

-- what has something still to show hasn't been shown, and something is selected for it
to_show : (items : List Selection) (shown : List (List ℕ)) (u : List ℕ) (x : Selection) → still_to_show items shown u ≡ Some x → (listed u shown ≡ false) × (selected_for items u ≡ Some x)
to_show items shown u x e = by (listed u shown) refl e
  where
    by : (b : Bool) → listed u shown ≡ b → cond b None (selected_for items u) ≡ Some x → (listed u shown ≡ false) × (selected_for items u ≡ Some x)
    by true t f = absurd (cc f)
    by false t f = (t, f)

-- and what has nothing has been shown, or nothing is selected for it
nothing_to_show : (items : List Selection) (shown : List (List ℕ)) (u : List ℕ) → still_to_show items shown u ≡ None → is_some (selected_for items u) ≡ true → listed u shown ≡ true
nothing_to_show items shown u e h = by (listed u shown) refl e
  where
    by : (b : Bool) → listed u shown ≡ b → cond b None (selected_for items u) ≡ None → listed u shown ≡ true
    by true t f = t
    by false t f = let g : false ≡ true = sym (ap is_some f) ∙ h in absurd cc

-- What trees that grew show: only selections, no address twice, and none that had been shown; and behind them those have been shown.
pub record Fresh (items : List Selection) (shown : List (List ℕ)) (us : List (List ℕ)) (ts : Trees) (after : List (List ℕ)) : Type 0 where
  pub are : (v : List ℕ) → listed v after ≡ (listed v (addresses_in ts) || listed v shown)
  pub only : (v : List ℕ) → listed v (addresses_in ts) ≡ true → is_some (selected_for items v) ≡ true
  pub fresh : (v : List ℕ) → listed v (addresses_in ts) ≡ true → listed v shown ≡ false
  pub once : AreOnce (addresses_in ts)
  pub all : (v : List ℕ) → listed v us ≡ true → is_some (selected_for items v) ≡ true → listed v after ≡ true

or_right : (a b : Bool) → b ≡ true → (a || b) ≡ true
or_right true b e = refl
or_right false b e = e

or_left : (a b : Bool) → a ≡ true → (a || b) ≡ true
or_left true b e = refl
or_left false b e = cc

-- of what one of two is that isn't the first
or_either : {P : Type 0} (a b : Bool) → (a || b) ≡ true → (a ≡ true → P) → (b ≡ true → P) → P
or_either true b e f g = f refl
or_either false b e f g = g e

or_last : (a b : Bool) → (a || b) ≡ false → b ≡ false
or_last true b e = absurd (cc e)
or_last false b e = e

or_first : (a b : Bool) → (a || b) ≡ false → a ≡ false
or_first true b e = absurd (cc e)
or_first false b e = refl

or_neither : (a b : Bool) → a ≡ false → b ≡ false → (a || b) ≡ false
or_neither true b e f = cc
or_neither false b e f = f

or_four : (a c e s : Bool) → (c || (a || (e || s))) ≡ ((e || (a || c)) || s)
or_four true true true s = refl
or_four true true false s = refl
or_four true false true s = refl
or_four true false false s = refl
or_four false true true s = refl
or_four false true false s = refl
or_four false false true s = refl
or_four false false false s = refl

never : (b : Bool) → b ≡ true → b ≡ false → ⊥
never true e f = cc
never false e f = cc

isnt : (b : Bool) → (b ≡ true → ⊥) → b ≡ false
isnt true n = absurd (n refl)
isnt false n = refl

alike : (a b : Bool) → (a ≡ true → b ≡ true) → (b ≡ true → a ≡ true) → a ≡ b
alike true b f g = sym (f refl)
alike false true f g = g refl
alike false false f g = refl

same_word : (v u : List ℕ) → bytes_eq v u ≡ true → v ≡ u
same_word v u t = (bytes_eq-Decides v u).0 t

itself : (u : List ℕ) → bytes_eq u u ≡ true
itself u = (bytes_eq-Decides u u).1 refl

-- two lists that have none in common
once_both : (xs ys : List (List ℕ)) → AreOnce xs → AreOnce ys → ((v : List ℕ) → listed v xs ≡ true → listed v ys ≡ false) → AreOnce (xs ++ ys)
once_both [] ys a b apart = b
once_both (x ∷ xs) ys (n, a) b apart = (
  among_both x xs ys ∙ or_neither (listed x xs) (listed x ys) n (apart x (or_left (bytes_eq x x) (listed x xs) (itself x))),
  once_both xs ys a b (λ v h. apart v (or_right (bytes_eq v x) (listed v xs) h)),
)

fresh_none : (items : List Selection) (shown : List (List ℕ)) → Fresh items shown [] none shown
fresh_none items shown = record {
  are = λ v. refl;
  only = λ v h. absurd (never false h refl);
  fresh = λ v h. absurd (never false h refl);
  once = tt;
  all = λ v h s. absurd (never false h refl);
}

fresh_passed : (items : List Selection) (shown us after : List (List ℕ)) (u : List ℕ) (ts : Trees) → still_to_show items shown u ≡ None → Fresh items shown us ts after → Fresh items shown (u ∷ us) ts after
fresh_passed items shown us after u ts e f = record {
  are = f.are;
  only = f.only;
  fresh = f.fresh;
  once = f.once;
  all = λ v h s. or_either (bytes_eq v u) (listed v us) h (λ t. here v (same_word v u t) s) (λ k. f.all v k s);
}
  where
    here : (v : List ℕ) → v ≡ u → is_some (selected_for items v) ≡ true → listed v after ≡ true
    here v same s =
        let shown_too : listed u shown ≡ true = nothing_to_show items shown u e (ap (λ w. is_some (selected_for items w)) (sym same) ∙ s) in
        f.are v ∙ or_right (listed v (addresses_in ts)) (listed v shown) (ap (λ w. listed w shown) same ∙ shown_too)

module _ (items : List Selection) (shown us mid after : List (List ℕ)) (u : List ℕ) (below next : Trees) (x : Selection) (e : still_to_show items shown u ≡ Some x) (b : Fresh items (u ∷ shown) (needs x) below mid)
    (n : Fresh items mid us next after) where
  parts : (listed u shown ≡ false) × (selected_for items u ≡ Some x)
  parts = to_show items shown u x e

  abbrev here : List (List ℕ)
  here = addresses_in below ++ addresses_in next

  shows : addresses_in (tree x below next) ≡ u ∷ here
  shows = in_tree x below next ∙ ap (λ v. v ∷ here) (found_at items u x parts.1)

  within : (v : List ℕ) → listed v (addresses_in (tree x below next)) ≡ (bytes_eq v u || (listed v (addresses_in below) || listed v (addresses_in next)))
  within v = ap (listed v) shows ∙ ap (λ c. bytes_eq v u || c) (among_both v (addresses_in below) (addresses_in next))

  -- an address that is shown is the first, or below it, or behind it
  one_of : {P : Type 0} (v : List ℕ) → listed v (addresses_in (tree x below next)) ≡ true → (v ≡ u → P) → (listed v (addresses_in below) ≡ true → P) → (listed v (addresses_in next) ≡ true → P) → P
  one_of v h f g k =
      or_either (bytes_eq v u) (listed v (addresses_in below) || listed v (addresses_in next)) (sym (within v) ∙ h) (λ t. f (same_word v u t))
      (λ t. or_either (listed v (addresses_in below)) (listed v (addresses_in next)) t g k)

  in_mid : (v : List ℕ) → (bytes_eq v u || listed v shown) ≡ true → listed v mid ≡ true
  in_mid v t = b.are v ∙ or_right (listed v (addresses_in below)) (bytes_eq v u || listed v shown) t

  u_in_mid : listed u mid ≡ true
  u_in_mid = in_mid u (or_left (bytes_eq u u) (listed u shown) (itself u))

  below_in_mid : (v : List ℕ) → listed v (addresses_in below) ≡ true → listed v mid ≡ true
  below_in_mid v h = b.are v ∙ or_left (listed v (addresses_in below)) (bytes_eq v u || listed v shown) h

  selected : is_some (selected_for items u) ≡ true
  selected = ap is_some parts.1

  fresh_shown : Fresh items shown (u ∷ us) (tree x below next) after
  fresh_shown = record {
    are = λ v.
        n.are v ∙ ap (λ c. listed v (addresses_in next) || c) (b.are v)
        ∙ or_four (listed v (addresses_in below)) (listed v (addresses_in next)) (bytes_eq v u) (listed v shown) ∙ ap (λ c. c || listed v shown) (sym (within v));
    only = λ v h. one_of v h (λ same. ap (λ w. is_some (selected_for items w)) same ∙ selected) (b.only v) (n.only v);
    fresh = λ v h.
        one_of v h (λ same. ap (λ w. listed w shown) same ∙ parts.0) (λ k. or_last (bytes_eq v u) (listed v shown) (b.fresh v k))
        (λ k. or_last (bytes_eq v u) (listed v shown) (or_last (listed v (addresses_in below)) (bytes_eq v u || listed v shown) (sym (b.are v) ∙ n.fresh v k)));
    once = subst AreOnce (sym shows) (
      among_both u (addresses_in below) (addresses_in next) ∙ or_neither (listed u (addresses_in below)) (listed u (addresses_in next))
          (isnt (listed u (addresses_in below)) (λ t. never (bytes_eq u u || listed u shown) (or_left (bytes_eq u u) (listed u shown) (itself u)) (b.fresh u t)))
          (isnt (listed u (addresses_in next)) (λ t. never (listed u mid) u_in_mid (n.fresh u t))),
      once_both (addresses_in below) (addresses_in next) b.once n.once (λ v h. isnt (listed v (addresses_in next)) (λ t. never (listed v mid) (below_in_mid v h) (n.fresh v t))),
    );
    all = λ v h s. or_either (bytes_eq v u) (listed v us) h
        (λ t. n.are v ∙ or_right (listed v (addresses_in next)) (listed v mid) (in_mid v (or_left (bytes_eq v u) (listed v shown) t))) (λ k. n.all v k s);
  }

fresh_of : (items : List Selection) {shown us after : List (List ℕ)} {ts : Trees} → Grow items shown us ts after → Fresh items shown us ts after
fresh_of items (ends {shown}) = fresh_none items shown
fresh_of items (passes {shown} {us} {after} {u} {ts} e g) = fresh_passed items shown us after u ts e (fresh_of items g)
fresh_of items (grows {shown} {us} {mid} {after} {u} {below} {next} x e g h) = fresh_shown items shown us mid after u below next x e (fresh_of items g) (fresh_of items h)

pub each_once : (sels : Selections) (trees : Trees) → AreTrees sels trees → ShowsEachOnce sels trees
each_once sels trees (after, g) =
    let f = fresh_of sels.items g in
    record {
      same = λ u. alike (listed u (addresses_in trees)) (listed u (map address sels.items)) (λ h. sym (is_selected sels.items u) ∙ f.only u h) (λ h.
          by_shown u (listed u (addresses_in trees)) (f.are u) (f.all u (or_right (bytes_eq u sels.interface) (listed u (map address sels.items)) h) (is_selected sels.items u ∙ h)));
      once = f.once;
    }
  where
    by_shown : (u : List ℕ) (b : Bool) → listed u after ≡ (b || false) → listed u after ≡ true → b ≡ true
    by_shown u true e h = refl
    by_shown u false e h = let k : false ≡ true = sym e ∙ h in absurd cc
