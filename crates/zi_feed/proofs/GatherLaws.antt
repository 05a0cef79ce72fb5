-- What a walk gives where its state goes inward and elements of one name alone give something: those that stand in the root and in
-- groups.
use Rattle.std.proofs.Common.{◌≡◌, ℕ, Bool, true, false, ◌&&◌, ◌||◌, List, [], ◌∷◌, ◌++◌, codes, refl, sym, ap, ◌∙◌, append-nil}
use Rattle.std.specs.Prelude.{if◌then◌else◌, not}
use Rattle.std.specs.List.{list_any}
use Rattle.std.proofs.lemmas.Bool.{false≢true, false_from_ne_true, and_right, and_left, and_parts, or_parts}
use Rattle.zi_elements.specs.Forest.{Forest, none, words, child, Elem, elements}
use Rattle.zi_address.specs.Texts.{same}
use Rattle.zi_reading.specs.Words.{is_among}
use Rattle.zi_reading.specs.Ways.{Ways}
use Rattle.zi_reading.specs.Reading.{stands, is_closed, is_unclear, is_unbuilt, is_other_step, is_ours, is, read_in}
use Rattle.zi_faults.specs.Faults.{is_impl, counts}
use Rattle.zi_faults.specs.Carrying.{carry}
use Rattle.zi_feed.specs.Natives.{is_package, counts_native}
use Rattle.zi_reading.proofs.TextLaws.{same_text}

-- The table: what stands in none, and what stands in the root and in groups alone.
ten_free : (name : List ℕ) (r s t u v w x y z q : List (List ℕ)) (a b c d e f g h i j : Bool)
    → is_among r name ≡ false → is_among s name ≡ false → is_among t name ≡ false → is_among u name ≡ false → is_among v name ≡ false
    → is_among w name ≡ false → is_among x name ≡ false → is_among y name ≡ false → is_among z name ≡ false → is_among q name ≡ false → is_among [] name ≡ false
    → is_among (if a then r else if b then s else if c then t else if d then u else if e then v else if f then w else if g then x else if h then y else if i then z else if j then q else []) name ≡ false
ten_free name r s t u v w x y z q true b c d e f g h i j p1 p2 p3 p4 p5 p6 p7 p8 p9 p10 p0 = p1
ten_free name r s t u v w x y z q false true c d e f g h i j p1 p2 p3 p4 p5 p6 p7 p8 p9 p10 p0 = p2
ten_free name r s t u v w x y z q false false true d e f g h i j p1 p2 p3 p4 p5 p6 p7 p8 p9 p10 p0 = p3
ten_free name r s t u v w x y z q false false false true e f g h i j p1 p2 p3 p4 p5 p6 p7 p8 p9 p10 p0 = p4
ten_free name r s t u v w x y z q false false false false true f g h i j p1 p2 p3 p4 p5 p6 p7 p8 p9 p10 p0 = p5
ten_free name r s t u v w x y z q false false false false false true g h i j p1 p2 p3 p4 p5 p6 p7 p8 p9 p10 p0 = p6
ten_free name r s t u v w x y z q false false false false false false true h i j p1 p2 p3 p4 p5 p6 p7 p8 p9 p10 p0 = p7
ten_free name r s t u v w x y z q false false false false false false false true i j p1 p2 p3 p4 p5 p6 p7 p8 p9 p10 p0 = p8
ten_free name r s t u v w x y z q false false false false false false false false true j p1 p2 p3 p4 p5 p6 p7 p8 p9 p10 p0 = p9
ten_free name r s t u v w x y z q false false false false false false false false false true p1 p2 p3 p4 p5 p6 p7 p8 p9 p10 p0 = p10
ten_free name r s t u v w x y z q false false false false false false false false false false p1 p2 p3 p4 p5 p6 p7 p8 p9 p10 p0 = p0

eight_free : (name : List ℕ) (r s t u v w x y z q : List (List ℕ)) (a b c d e f g h i j : Bool) → a ≡ false → b ≡ false
    → is_among t name ≡ false → is_among u name ≡ false → is_among v name ≡ false → is_among w name ≡ false
    → is_among x name ≡ false → is_among y name ≡ false → is_among z name ≡ false → is_among q name ≡ false → is_among [] name ≡ false
    → is_among (if a then r else if b then s else if c then t else if d then u else if e then v else if f then w else if g then x else if h then y else if i then z else if j then q else []) name ≡ false
eight_free name r s t u v w x y z q a b c d e f g h i j k l p3 p4 p5 p6 p7 p8 p9 p10 p0 =
    rw k (rw l (ten_free name [] [] t u v w x y z q false false c d e f g h i j p0 p0 p3 p4 p5 p6 p7 p8 p9 p10 p0))

-- a root stands in no element
no_root : (parent : List ℕ) → is_among (read_in parent) (codes "interface") ≡ false
unfolding read_in is_among same
no_root parent =
    ten_free (codes "interface") _ _ _ _ _ _ _ _ _ _ (same parent (codes "interface")) (same parent (codes "group")) (same parent (codes "implementation")) (same parent (codes "package-implementation"))
    (same parent (codes "requires")) (same parent (codes "restricts")) (same parent (codes "command")) (same parent (codes "runner")) (same parent (codes "for-each")) (same parent (codes "recipe"))
    refl refl refl refl refl refl refl refl refl refl refl

no_group : (parent : List ℕ) → same parent (codes "interface") ≡ false → same parent (codes "group") ≡ false → is_among (read_in parent) (codes "group") ≡ false
unfolding read_in is_among same
no_group parent p q =
    eight_free (codes "group") _ _ _ _ _ _ _ _ _ _ (same parent (codes "interface")) (same parent (codes "group")) (same parent (codes "implementation")) (same parent (codes "package-implementation"))
    (same parent (codes "requires")) (same parent (codes "restricts")) (same parent (codes "command")) (same parent (codes "runner")) (same parent (codes "for-each")) (same parent (codes "recipe"))
    p q refl refl refl refl refl refl refl refl refl

no_implementation : (parent : List ℕ) → same parent (codes "interface") ≡ false → same parent (codes "group") ≡ false → is_among (read_in parent) (codes "implementation") ≡ false
unfolding read_in is_among same
no_implementation parent p q =
    eight_free (codes "implementation") _ _ _ _ _ _ _ _ _ _ (same parent (codes "interface")) (same parent (codes "group")) (same parent (codes "implementation")) (same parent (codes "package-implementation"))
    (same parent (codes "requires")) (same parent (codes "restricts")) (same parent (codes "command")) (same parent (codes "runner")) (same parent (codes "for-each")) (same parent (codes "recipe"))
    p q refl refl refl refl refl refl refl refl refl

no_package : (parent : List ℕ) → same parent (codes "interface") ≡ false → same parent (codes "group") ≡ false → is_among (read_in parent) (codes "package-implementation") ≡ false
unfolding read_in is_among same
no_package parent p q =
    eight_free (codes "package-implementation") _ _ _ _ _ _ _ _ _ _ (same parent (codes "interface")) (same parent (codes "group")) (same parent (codes "implementation")) (same parent (codes "package-implementation"))
    (same parent (codes "requires")) (same parent (codes "restricts")) (same parent (codes "command")) (same parent (codes "runner")) (same parent (codes "for-each")) (same parent (codes "recipe"))
    p q refl refl refl refl refl refl refl refl refl

-- what stands has a name of the table
both_hold : (a b c d : Bool) → (a && b && c && d) ≡ true → (a ≡ true) × (b ≡ true)
both_hold true true c d h = (refl, refl)
both_hold true false c d h = absurd (false≢true h)
both_hold false b c d h = absurd (false≢true h)

stands_named : (ways : Ways) (parent : List ℕ) (e : Elem) → stands ways parent e ≡ true → is_among (read_in parent) e.name ≡ true
unfolding stands
stands_named ways parent e h = (both_hold _ _ _ _ h).1

stands_ours : (ways : Ways) (parent : List ℕ) (e : Elem) → stands ways parent e ≡ true → is_ours e ≡ true
unfolding stands
stands_ours ways parent e h = (both_hold _ _ _ _ h).0

other_name : (row : List (List ℕ)) (name word : List ℕ) → is_among row name ≡ true → is_among row word ≡ false → same name word ≡ false
other_name row name word h k = false_from_ne_true (same name word) (λ s. false≢true (sym k ∙ (sym (ap (is_among row) (same_text name word s)) ∙ h)))

-- one of this name in which something is read
abbrev pub is_clear : List ℕ → Elem → Bool
is_clear word e = is word e && not (is_unclear e)

-- an element of another name is none
clear_not : (word : List ℕ) (e : Elem) → same e.name word ≡ false → is_clear word e ≡ false
clear_not word e h = and_left (is word e) (not (is_unclear e)) (and_right (is_ours e) (same e.name word) h)

-- one that is named otherwise
renamed : (name word : List ℕ) (e : Elem) → is name e ≡ true → same name word ≡ false → same e.name word ≡ false
renamed name word e h k = ap (λ n. same n word) (same_text e.name name (and_parts (is_ours e) (same e.name name) h).1) ∙ k

nothing : {X : Type 0} (b : Bool) (xs : List X) → b ≡ false → (if b then xs else []) ≡ []
nothing b xs h = ap (λ v. if v then xs else []) h

empty_step : {X : Type 0} (st cl : Bool) (own inner later : List X) → later ≡ [] → (st ≡ true → own ≡ []) → (st ≡ true → inner ≡ [])
    → (if not st then later else if cl then own ++ later else own ++ (inner ++ later)) ≡ []
empty_step false cl own inner later p q r = p
empty_step true true own inner later p q r = ap (λ v. v ++ later) (q refl) ∙ p
empty_step true false own inner later p q r = ap (λ v. v ++ (inner ++ later)) (q refl) ∙ (ap (λ v. v ++ later) (r refl) ∙ p)

none_behind : {X : Type 0} (st cl : Bool) (own inner : List X) → (if not st then [] else if cl then own ++ [] else own ++ (inner ++ [])) ≡ (if not st then [] else if cl then own else own ++ inner)
none_behind false cl own inner = refl
none_behind true true own inner = append-nil own
none_behind true false own inner = ap (λ v. own ++ v) (append-nil inner)

not_named : (ours b : Bool) → ours ≡ true → (ours && b) ≡ false → b ≡ false
not_named true b h k = k
not_named false b h k = absurd (false≢true h)

not_both : (u r o : Bool) → (r ≡ true → o ≡ false) → (u || (r && true)) ≡ true → (o && not u) ≡ false
not_both true r true h k = refl
not_both true r false h k = refl
not_both false true o h k = ap (λ v. v && true) (h refl)
not_both false false o h k = absurd (false≢true k)

weaken : (u r b : Bool) → (u || (r && b)) ≡ true → (u || (r && true)) ≡ true
weaken true r b h = refl
weaken false true b h = refl
weaken false false b h = h

-- a closed element is none, unless it is a recipe
closed_not : (word : List ℕ) (e : Elem) → same (codes "recipe") word ≡ false → is_closed e ≡ true → is_clear word e ≡ false
unfolding is_unbuilt
closed_not word e apart h =
    not_both (is_unclear e) (is (codes "recipe") e) (is word e)
    (λ r. and_right (is_ours e) (same e.name word) (renamed (codes "recipe") word e r apart))
    (weaken (is_unclear e) (is (codes "recipe") e) (list_any is_other_step (elements e.inside)) h)

-- An implementation or one that names a package.
by_or : {X : Type 0} (a b : Bool) → (a || b) ≡ true → (a ≡ true → X) → (b ≡ true → X) → X
by_or true b h left right = left refl
by_or false b h left right = right h

one_apart : (word : List ℕ) (e : Elem) → same (codes "implementation") word ≡ false → same (codes "package-implementation") word ≡ false → (is_impl e || is_package e) ≡ true
    → same e.name word ≡ false
one_apart word e p q h = by_or (is_impl e) (is_package e) h (λ i. renamed (codes "implementation") word e i p) (λ n. renamed (codes "package-implementation") word e n q)

no_root_one : (e : Elem) → (is_impl e || is_package e) ≡ true → same e.name (codes "interface") ≡ false
unfolding same
no_root_one e h = one_apart (codes "interface") e refl refl h

no_group_one : (e : Elem) → (is_impl e || is_package e) ≡ true → same e.name (codes "group") ≡ false
unfolding same
no_group_one e h = one_apart (codes "group") e refl refl h

-- One in which something is looked for: a group, an implementation or one that names a package, and it isn't closed.
by_opening : {X : Type 0} (g i n c : Bool) → ((g || (i || n)) && not c) ≡ false → (c ≡ true → X) → (g ≡ false → i ≡ false → n ≡ false → X) → X
by_opening g i n true h closed other = closed refl
by_opening true i n false h closed other = absurd (false≢true (sym h))
by_opening false true n false h closed other = absurd (false≢true (sym h))
by_opening false false true false h closed other = absurd (false≢true (sym h))
by_opening false false false false h closed other = other refl refl refl

pub is_open : (g i c : Bool) → ((g || i) && not c) ≡ true → c ≡ false
is_open g i false h = refl
is_open g i true h = absurd (false≢true (sym (and_right (g || i) false refl) ∙ h))

pub is_second : (g i c : Bool) → ((g || i) && not c) ≡ true → g ≡ false → i ≡ true
is_second true i c h e = absurd (false≢true (sym e))
is_second false true c h e = refl
is_second false false c h e = absurd (false≢true h)

-- what elements of a name give where a state goes inward: what is made of the state behind them
abbrev pub made_in : {S X : Type 0} → List ℕ → (S → Elem → S) → (S → Elem → List X) → S → Elem → List X
made_in word step make s e = if is_clear word e then make (step s e) e else []

-- A name that stands in the root and in groups alone.
pub record IsOuter (word : List ℕ) : Type 0 where
  pub inside : (parent : List ℕ) → same parent (codes "interface") ≡ false → same parent (codes "group") ≡ false → is_among (read_in parent) word ≡ false
  pub apart_group : same (codes "group") word ≡ false
  pub apart_recipe : same (codes "recipe") word ≡ false

pub outer_implementation : IsOuter (codes "implementation")
unfolding same
outer_implementation = record { inside = no_implementation; apart_group = refl; apart_recipe = refl }

pub outer_package : IsOuter (codes "package-implementation")
unfolding same
outer_package = record { inside = no_package; apart_group = refl; apart_recipe = refl }

-- The walk, at elements of such a name.
module _ {S X : Type 0} (word : List ℕ) (outer : IsOuter word) (step : S → Elem → S) (make : S → Elem → List X) (ways : Ways) where
  -- nothing in another element than the root and groups
  pub gives_nothing : (s : S) (parent : List ℕ) (f : Forest) → same parent (codes "interface") ≡ false → same parent (codes "group") ≡ false
      → carry step (made_in word step make) ways s parent f ≡ []
  gives_nothing s parent none p q = refl
  gives_nothing s parent (words t k) p q = gives_nothing s parent k p q
  gives_nothing s parent (child sp n attrs f at k) p q =
      let e : Elem = record { space = sp; name = n; attrs = attrs; inside = f; place = at } in
      empty_step (stands ways parent e) (is_closed e) (made_in word step make s e) (carry step (made_in word step make) ways (step s e) n f) (carry step (made_in word step make) ways s parent k)
      (gives_nothing s parent k p q)
      (λ h. nothing (is_clear word e) (make (step s e) e) (clear_not word e (other_name (read_in parent) n word (stands_named ways parent e h) (outer.inside parent p q))))
      (λ h. gives_nothing (step s e) n f (other_name (read_in parent) n (codes "interface") (stands_named ways parent e h) (no_root parent))
      (other_name (read_in parent) n (codes "group") (stands_named ways parent e h) (no_group parent p q)))

  at_one : (s : S) (parent : List ℕ) (e : Elem)
      → carry step (made_in word step make) ways s parent (child e.space e.name e.attrs e.inside e.place none)
      ≡ (if not (stands ways parent e) then [] else if is_closed e then made_in word step make s e else made_in word step make s e ++ carry step (made_in word step make) ways (step s e) e.name e.inside)
  at_one s parent e = none_behind (stands ways parent e) (is_closed e) (made_in word step make s e) (carry step (made_in word step make) ways (step s e) e.name e.inside)

  -- one that isn't read
  pub gives_none : (s : S) (parent : List ℕ) (e : Elem) → stands ways parent e ≡ false
      → carry step (made_in word step make) ways s parent (child e.space e.name e.attrs e.inside e.place none) ≡ []
  gives_none s parent e h = at_one s parent e ∙ rw h refl

  -- one that is neither a group nor of the name
  gives_other : (s : S) (parent : List ℕ) (e : Elem) → is (codes "group") e ≡ false → is word e ≡ false
      → carry step (made_in word step make) ways s parent (child e.space e.name e.attrs e.inside e.place none) ≡ []
  gives_other s parent e g i =
      empty_step (stands ways parent e) (is_closed e) (made_in word step make s e) (carry step (made_in word step make) ways (step s e) e.name e.inside) [] refl
      (λ h. nothing (is_clear word e) (make (step s e) e) (and_left (is word e) (not (is_unclear e)) i))
      (λ h. gives_nothing (step s e) e.name e.inside (other_name (read_in parent) e.name (codes "interface") (stands_named ways parent e h) (no_root parent))
      (not_named (is_ours e) (same e.name (codes "group")) (stands_ours ways parent e h) g))

  -- one that nothing is read in
  gives_closed : (s : S) (parent : List ℕ) (e : Elem) → is_closed e ≡ true
      → carry step (made_in word step make) ways s parent (child e.space e.name e.attrs e.inside e.place none) ≡ []
  gives_closed s parent e h =
      at_one s parent e
      ∙ rw h (either (stands ways parent e) (made_in word step make s e) (nothing (is_clear word e) (make (step s e) e) (closed_not word e outer.apart_recipe h)))
    where
      either : (b : Bool) (xs : List X) → xs ≡ [] → (if not b then [] else xs) ≡ []
      either true xs h = h
      either false xs h = refl

  -- one in which nothing is looked for
  pub gives_seen : (s : S) (parent : List ℕ) (e : Elem) → (is word e ≡ true → (is_impl e || is_package e) ≡ true)
      → ((is (codes "group") e || (is_impl e || is_package e)) && not (is_closed e)) ≡ false
      → carry step (made_in word step make) ways s parent (child e.space e.name e.attrs e.inside e.place none) ≡ []
  gives_seen s parent e one h =
      by_opening (is (codes "group") e) (is_impl e) (is_package e) (is_closed e) h (gives_closed s parent e)
      (λ g i n. gives_other s parent e g (false_from_ne_true (is word e) (λ w. false≢true (sym (ap (λ v. v || is_package e) i ∙ n) ∙ one w))))

  -- a group
  group_gives : (s : S) (parent : List ℕ) (e : Elem) → stands ways parent e ≡ true → is_closed e ≡ false → is (codes "group") e ≡ true
      → carry step (made_in word step make) ways s parent (child e.space e.name e.attrs e.inside e.place none) ≡ carry step (made_in word step make) ways (step s e) e.name e.inside
  group_gives s parent e p q g =
      at_one s parent e
      ∙ rw p (rw q (ap (λ v. v ++ carry step (made_in word step make) ways (step s e) e.name e.inside)
      (nothing (is_clear word e) (make (step s e) e) (clear_not word e (renamed (codes "group") word e g outer.apart_group)))))

  pub gives_group : (s inner : S) (parent : List ℕ) (e : Elem) (found new : List X) → stands ways parent e ≡ true → is_closed e ≡ false → is (codes "group") e ≡ true
      → inner ≡ step s e → new ≡ found ++ carry step (made_in word step make) ways inner e.name e.inside
      → new ≡ found ++ carry step (made_in word step make) ways s parent (child e.space e.name e.attrs e.inside e.place none)
  gives_group s inner parent e found new p q g i h =
      h
      ∙ (ap (λ v. found ++ carry step (made_in word step make) ways v e.name e.inside) i ∙ ap (λ v. found ++ v) (sym (group_gives s parent e p q g)))

  -- an implementation, or one that names a package
  one_gives : (s : S) (parent : List ℕ) (e : Elem) → stands ways parent e ≡ true → is_closed e ≡ false → (is_impl e || is_package e) ≡ true
      → carry step (made_in word step make) ways s parent (child e.space e.name e.attrs e.inside e.place none) ≡ made_in word step make s e
  one_gives s parent e p q one =
      at_one s parent e
      ∙ rw p (rw q (ap (λ v. made_in word step make s e ++ v) (gives_nothing (step s e) e.name e.inside (no_root_one e one) (no_group_one e one))
      ∙ append-nil (made_in word step make s e)))

  pub gives_one : (s inner : S) (parent : List ℕ) (e : Elem) (found new : List X) → stands ways parent e ≡ true → is_closed e ≡ false → (is_impl e || is_package e) ≡ true
      → inner ≡ step s e → new ≡ found ++ (if is_clear word e then make inner e else [])
      → new ≡ found ++ carry step (made_in word step make) ways s parent (child e.space e.name e.attrs e.inside e.place none)
  gives_one s inner parent e found new p q one i h =
      h ∙ (ap (λ v. found ++ (if is_clear word e then make v e else [])) i ∙ ap (λ v. found ++ v) (sym (one_gives s parent e p q one)))

-- What is added where nothing is.
pub nothing_added : {X : Type 0} (xs found : List X) → xs ≡ [] → found ≡ found ++ xs
nothing_added xs found h = sym (append-nil found) ∙ ap (λ v. found ++ v) (sym h)

pub both_are : {A B : Type 0} {a c : A} {b d : B} → a ≡ c → b ≡ d → ◌≡◌ {A = A × B} (a, b) (c, d)
both_are {c = c} {b = b} p q = ap (λ v. (v, b)) p ∙ ap (λ v. (c, v)) q

-- What counts of what is looked for.
both_true : (a b : Bool) → a ≡ true → b ≡ false → (a && not b) ≡ true
both_true a b p q = rw p (rw q refl)

clear_one : (word : List ℕ) (e : Elem) → is word e ≡ true → is_closed e ≡ false → is_clear word e ≡ true
clear_one word e p q = both_true (is word e) (is_unclear e) p ((or_parts (is_unclear e) (is_unbuilt e) q).0)

clear_other : (name word : List ℕ) (e : Elem) → same name word ≡ false → is name e ≡ true → is_clear word e ≡ false
clear_other name word e apart h = clear_not word e (renamed name word e h apart)

pub impl_counts : (e : Elem) → is_impl e ≡ true → is_closed e ≡ false → counts e ≡ true
impl_counts e p q = clear_one (codes "implementation") e p q

pub impl_no_package : (e : Elem) → is_impl e ≡ true → counts_native e ≡ false
unfolding same
impl_no_package e h = clear_other (codes "implementation") (codes "package-implementation") e refl h

pub package_counts : (e : Elem) → is_package e ≡ true → is_closed e ≡ false → counts_native e ≡ true
package_counts e p q = clear_one (codes "package-implementation") e p q

pub package_no_impl : (e : Elem) → is_package e ≡ true → counts e ≡ false
unfolding same
package_no_impl e h = clear_other (codes "package-implementation") (codes "implementation") e refl h

pub is_other : (a b : Bool) → (a || b) ≡ true → a ≡ false → b ≡ true
is_other a b h p = rw p at h

-- what is added where it counts, and nothing where it doesn't
pub added_counting : {X : Type 0} (b : Bool) (xs found new : List X) → b ≡ true → new ≡ found ++ xs → new ≡ found ++ (if b then xs else [])
added_counting b xs found new p h = rw p h

pub added_no : {X : Type 0} (b : Bool) (xs found new : List X) → b ≡ false → new ≡ found → new ≡ found ++ (if b then xs else [])
added_no b xs found new p h = rw p (h ∙ sym (append-nil found))
