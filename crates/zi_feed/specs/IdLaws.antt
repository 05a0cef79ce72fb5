-- In a feed without a fault each id stands once.
use Rattle.std.proofs.Common.{◌≡◌, ◌≢◌, ℕ, suc, zero, ◌⊎◌, inl, inr, Bool, true, false, not, ◌&&◌, ◌||◌, List, [], ◌∷◌, ◌++◌, refl, sym, ap, ◌∙◌, Option, Some, None}
use Rattle.std.specs.Prelude.{map, drop, codes, if◌then◌else◌, option_map, is_some, unwrap_or}
use Rattle.std.specs.List.{list_any, filter, filter_map, flat_map, slice_get, cons_option}
use Rattle.std.specs.Str.{bytes_eq}
use Rattle.std.specs.Cmp.Lexicographic.{bytes_decides}
use Rattle.std.proofs.lemmas.Option.{same_Some}
use Rattle.std.proofs.lemmas.Bool.{and_parts, or_parts}
use Rattle.zi_elements.specs.Forest.{Elem, attribute, has, value}
use Rattle.zi_address.specs.Texts.{same, is_none}
use Rattle.zi_reading.specs.Words.{repeated_after}
use Rattle.zi_reading.specs.Ways.{Ways, InFeed}
use Rattle.zi_reading.specs.Reading.{is, is_unclear}
use Rattle.zi_faults.specs.Sites.{Site, path}
use Rattle.zi_faults.specs.Said.{said}
use Rattle.zi_feed.specs.Impls.{impl_of, impl_from}
use Rattle.zi_faults.specs.Faults.{is_impl, share, has_fault, fault_at, kinds_at, faults_with, faults_at, counts, implementations, same_ids, root_faults, repeats_in, shims_in, lesser, least, is_first, all_kinds}
use Rattle.zi_feed.specs.Feeds.{feed_fault, feed_of, feed_sites, all_faults}
use Rattle.zi_parts.specs.declared.types.Impl.{Impl}
use Rattle.zi_faults.specs.declared.fault.Fault.{Fault}
use Rattle.zi_faults.specs.declared.fault.FeedKind.TheVariants.{NoId, NotInterface, BadPart}

-- each id stands once
abbrev pub AreDistinct : List Impl → Type 0
AreDistinct impls = (i k : ℕ) (c d : Impl) → slice_get impls i ≡ Some c → slice_get impls k ≡ Some d → c.id ≡ d.id → i ≡ k

-- by cases of a test
pub by_bool : {G : Type 0} (b : Bool) → (b ≡ true → G) → (b ≡ false → G) → G
by_bool true t f = t refl
by_bool false t f = f refl

pub none_some : {A : Type 0} {x : A} → None ≡ Some x → ⊥
none_some e = cc

pub cons_nil : {A : Type 0} {x : A} {xs : List A} → x ∷ xs ≡ [] → ⊥
cons_nil e = cc

pub true_false : true ≡ false → ⊥
true_false e = cc

pub both_empty : {A : Type 0} (xs ys : List A) → xs ++ ys ≡ [] → (xs ≡ []) × (ys ≡ [])
both_empty [] ys e = (refl, e)
both_empty (x ∷ xs) ys e = absurd (cons_nil e)

-- No fault is the least of none alone.
lesser_is : (f : Fault) (o : Option Fault) → lesser f o ≡ None → ⊥
lesser_is f None e = none_some (sym e)
lesser_is f (Some g) e = chosen (is_first f g) e
  where
    chosen : (b : Bool) → (if b then Some f else Some g) ≡ None → ⊥
    chosen true e = none_some (sym e)
    chosen false e = none_some (sym e)

pub least_none : (fs : List Fault) → least fs ≡ None → fs ≡ []
least_none [] e = refl
least_none (f ∷ fs) e = absurd (lesser_is f (least fs) e)

pub no_faults : (root : Elem) (uri : List ℕ) → feed_fault root uri ≡ None → all_faults uri root ≡ []
unfolding feed_fault
no_faults root uri e = chosen (is (codes "interface") root) e
  where
    chosen : (b : Bool) → (if b then least (all_faults uri root) else Some (fault_at root NotInterface)) ≡ None → all_faults uri root ≡ []
    chosen true e = least_none (all_faults uri root) e
    chosen false e = absurd (none_some (sym e))

-- An implementation has the id of its element.
mapped : (f : List ℕ → Impl) (id : List ℕ) → ((v : List ℕ) → (f v).id ≡ id) → (o : Option (List ℕ)) (i : Impl) → option_map f o ≡ Some i → i.id ≡ id
mapped f id h None i e = absurd (none_some e)
mapped f id h (Some v) i e = sym (ap (λ (j : Impl). j.id) (same_Some _ _ e)) ∙ h v

id_of : (ways : Ways) (t : Site) (i : Impl) → impl_of ways t ≡ Some i → i.id ≡ value (codes "id") t.element
unfolding impl_of impl_from
id_of ways t i e = mapped _ (value (codes "id") t.element) (λ v. refl) _ i e

-- What counts and has no fault has an id.
pub unclear_false : (e : Elem) → counts e ≡ true → (is_impl e ≡ true) × (is_unclear e ≡ false)
unclear_false e c = let p : (is_impl e ≡ true) × (not (is_unclear e) ≡ true) = and_parts (is_impl e) (not (is_unclear e)) c in (p.0, negated (is_unclear e) p.1)
  where
    negated : (b : Bool) → not b ≡ true → b ≡ false
    negated true e = absurd (true_false (sym e))
    negated false e = refl

pub map_nil : {A B : Type 0} (f : A → B) (xs : List A) → map f xs ≡ [] → xs ≡ []
map_nil f [] e = refl
map_nil f (x ∷ xs) e = absurd (cons_nil e)

has_from : (o : Option (List ℕ)) → is_none (unwrap_or o []) ≡ false → is_some o ≡ true
has_from None e = absurd (true_false e)
has_from (Some t) e = refl

pub second_fails : {A : Type 0} (test : A → Bool) (a b : A) (xs : List A) → filter test (a ∷ b ∷ xs) ≡ [] → test b ≡ false
second_fails test a b xs e = cases (test a) (test b) refl refl e
  where
    cases : (p q : Bool) → test a ≡ p → test b ≡ q → filter test (a ∷ b ∷ xs) ≡ [] → test b ≡ false
    cases p false ep eq e = eq
    cases true true ep eq e = absurd (cons_nil (rw (ep, eq) at e))
    cases false true ep eq e = absurd (cons_nil (rw (ep, eq) at e))

has_id : (ways : Ways) (t : Site) → counts t.element ≡ true → faults_at ways t ≡ [] → has (codes "id") t.element ≡ true
unfolding faults_with kinds_at
has_id ways t c none =
    let e : Elem = t.element in
    let p : (is_impl e ≡ true) × (is_unclear e ≡ false) = unclear_false e c in
    let clear : is_unclear e ≡ false = p.1 in
    let found : map (fault_at e) (kinds_at ways (said (path t)) e) ++ map (λ r. fault_at r BadPart) (repeats_in ways e ++ shims_in ways e) ≡ [] = rw clear at none in
    let kinds : kinds_at ways (said (path t)) e ≡ [] = map_nil (fault_at e) (kinds_at ways (said (path t)) e) (both_empty _ _ found).0 in
    let fails : has_fault ways (said (path t)) NoId e ≡ false = second_fails (λ k. has_fault ways (said (path t)) k e) NotInterface NoId (drop 2 all_kinds) kinds in
    let impl : is_impl e ≡ true = p.0 in
    has_from (attribute (codes "id") e) (rw impl at fails)

-- where nothing is repeated, the first is like none before it
first_new : (like : Elem → Elem → Bool) (earlier : List Elem) (x : Elem) (xs : List Elem) → repeated_after like earlier (x ∷ xs) ≡ []
    → (list_any (like x) earlier ≡ false) × (repeated_after like (x ∷ earlier) xs ≡ [])
first_new like earlier x xs e = by_bool (list_any (like x) earlier) (λ t. absurd (cons_nil (rw t at e))) (λ f. (f, rw f at e))

-- Elements among elements.
abbrev IsIn : Elem → List Elem → Type 0
IsIn e [] = ⊥
IsIn e (x ∷ xs) = (e ≡ x) ⊎ IsIn e xs

none_like : (test : Elem → Bool) (xs : List Elem) (e : Elem) → list_any test xs ≡ false → IsIn e xs → test e ≡ false
none_like test [] e none h = absurd h
none_like test (x ∷ xs) e none (inl same_e) = ap test same_e ∙ (or_parts (test x) (list_any test xs) none).0
none_like test (x ∷ xs) e none (inr h) = none_like test xs e (or_parts (test x) (list_any test xs) none).1 h

differ : (e f : Elem) → share (codes "id") e f ≡ false → has (codes "id") e ≡ true → has (codes "id") f ≡ true → value (codes "id") e ≢ value (codes "id") f
unfolding same
differ e f apart he hf alike =
    let h : same (value (codes "id") e) (value (codes "id") f) ≡ false = rw (he, hf) at apart in
    let t : bytes_eq (value (codes "id") e) (value (codes "id") f) ≡ true = (bytes_decides (value (codes "id") e) (value (codes "id") f)).1 alike in
    true_false (sym t ∙ h)

-- no implementation has this id
abbrev IsFresh : List Impl → List ℕ → Type 0
IsFresh is id = (k : ℕ) (d : Impl) → slice_get is k ≡ Some d → d.id ≢ id

abbrev AreApart : List Impl → Type 0
AreApart [] = Unit {0}
AreApart (i ∷ is) = IsFresh is i.id × AreApart is

pub distinct : (is : List Impl) → AreApart is → AreDistinct is
distinct [] apart i k c d at_i at_k e = absurd (none_some at_i)
distinct (x ∷ xs) apart zero zero c d at_i at_k e = refl
distinct (x ∷ xs) apart zero (suc k) c d at_i at_k e = absurd (apart.0 k d at_k (sym e ∙ ap (λ (j : Impl). j.id) (sym (same_Some _ _ at_i))))
distinct (x ∷ xs) apart (suc i) zero c d at_i at_k e = absurd (apart.0 i c at_i (e ∙ ap (λ (j : Impl). j.id) (sym (same_Some _ _ at_k))))
distinct (x ∷ xs) apart (suc i) (suc k) c d at_i at_k e = ap suc (distinct xs apart.1 i k c d at_i at_k e)

-- What is said of the implementations of the elements from here on, these being before them.
record FromHere (earlier : List Elem) (is : List Impl) : Type 0 where
  apart : AreApart is
  fresh : (e : Elem) → IsIn e earlier → has (codes "id") e ≡ true → IsFresh is (value (codes "id") e)

abbrev impls_in : Ways → List Site → List Impl
impls_in ways ts = filter_map (impl_of ways) (implementations ts)

abbrev counted : List Site → List Elem
counted ts = filter counts (map (λ t. t.element) ts)

one_more : (ways : Ways) (earlier : List Elem) (t : Site) (ts : List Site) (o : Option Impl) → impl_of ways t ≡ o → has (codes "id") t.element ≡ true
    → list_any (share (codes "id") t.element) earlier ≡ false → FromHere (t.element ∷ earlier) (impls_in ways ts) → FromHere earlier (cons_option o (impls_in ways ts))
one_more ways earlier t ts None is_o own new from = record { apart = from.apart; fresh = λ e inside he. from.fresh e (inr inside) he }
one_more ways earlier t ts (Some i) is_o own new from =
    let same_id : i.id ≡ value (codes "id") t.element = id_of ways t i is_o in record {
      apart = (rw same_id (from.fresh t.element (inl refl) own), from.apart);
      fresh = λ e inside he k d. at_place e inside he k d;
    }
  where
    at_place : (e : Elem) → IsIn e earlier → has (codes "id") e ≡ true → (k : ℕ) (d : Impl) → slice_get (i ∷ impls_in ways ts) k ≡ Some d → d.id ≢ value (codes "id") e
    at_place e inside he zero d at_k alike =
        differ t.element e (none_like (share (codes "id") t.element) earlier e new inside) own he
        (sym (id_of ways t i is_o) ∙ ap (λ (j : Impl). j.id) (same_Some _ _ at_k) ∙ alike)
    at_place e inside he (suc k) d at_k alike = from.fresh e (inr inside) he k d at_k alike

all_from : (ways : Ways) (earlier : List Elem) (ts : List Site) → flat_map (faults_at ways) ts ≡ [] → repeated_after (share (codes "id")) earlier (counted ts) ≡ []
    → FromHere earlier (impls_in ways ts)
all_from ways earlier [] none once = record { apart = tt; fresh = λ e inside he k d at_k. absurd (none_some at_k) }
all_from ways earlier (t ∷ ts) none once =
    let p : (faults_at ways t ≡ []) × (flat_map (faults_at ways) ts ≡ []) = both_empty (faults_at ways t) (flat_map (faults_at ways) ts) none in
    by_bool (counts t.element)
    (λ c.
    let e : repeated_after (share (codes "id")) earlier (t.element ∷ counted ts) ≡ [] = rw c at once in
    let own : has (codes "id") t.element ≡ true = has_id ways t c p.0 in
    let u : (list_any (share (codes "id") t.element) earlier ≡ false) × (repeated_after (share (codes "id")) (t.element ∷ earlier) (counted ts) ≡ []) = first_new (share (codes "id")) earlier t.element (counted ts) e in
    rw c (one_more ways earlier t ts (impl_of ways t) refl own u.0 (all_from ways (t.element ∷ earlier) ts p.1 u.1)))
    (λ c. let e : repeated_after (share (codes "id")) earlier (counted ts) ≡ [] = rw c at once in rw c (all_from ways earlier ts p.1 e))

-- A feed without a fault has each id once.
pub ids_distinct : (root : Elem) (uri : List ℕ) → feed_fault root uri ≡ None → AreDistinct (feed_of root uri).impls
unfolding feed_of same_ids
ids_distinct root uri right =
    let ts : List Site = feed_sites uri root in
    let none : all_faults uri root ≡ [] = no_faults root uri right in
    let p : flat_map (faults_at (InFeed uri)) ts ++ same_ids (map (λ t. t.element) ts) ≡ [] = (both_empty (root_faults uri root) _ none).1 in
    let q : (flat_map (faults_at (InFeed uri)) ts ≡ []) × (same_ids (map (λ t. t.element) ts) ≡ []) = both_empty (flat_map (faults_at (InFeed uri)) ts) _ p in
    let once : repeated_after (share (codes "id")) [] (counted ts) ≡ [] = map_nil _ _ q.1 in
    distinct (impls_in (InFeed uri) ts) (all_from (InFeed uri) [] ts q.0 once).apart
