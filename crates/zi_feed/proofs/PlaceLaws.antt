-- In a feed without a fault the implementations stand where the elements do that count.
use Rattle.std.proofs.Common.{◌≡◌, ℕ, suc, zero, ◌<◌, ◌⊎◌, inl, inr, Bool, true, false, not, ◌&&◌, List, [], ◌∷◌, ◌++◌, map, drop, Option, Some, None, refl, sym, ap, ◌∙◌, arith}
use Rattle.std.specs.Prelude.{if◌then◌else◌, option_map, option_and_then, is_some}
use Rattle.std.specs.List.{filter, filter_map, flat_map, slice_get, cons_option}
use Rattle.std.proofs.lemmas.Option.{same_Some}
use Rattle.std.proofs.lemmas.Bool.{or_parts}
use Rattle.zi_version.specs.Range.{a_version}
use Rattle.zi_elements.specs.Forest.{Forest, none, words, child, Elem}
use Rattle.zi_reading.specs.Words.{is_amiss}
use Rattle.zi_reading.specs.Forms.{is_version}
use Rattle.zi_reading.specs.Ways.{Ways, InFeed}
use Rattle.zi_reading.specs.Reading.{stands, is_closed, is_unclear}
use Rattle.zi_faults.specs.Sites.{Site, sites, under, here, path}
use Rattle.zi_faults.specs.Said.{said, version_text}
use Rattle.zi_feed.specs.Impls.{impl_of, impl_from}
use Rattle.zi_faults.specs.Faults.{is_impl, has_fault, fault_at, kinds_at, faults_with, faults_at, counts, implementations, same_ids, root_faults, repeats_in, shims_in, all_kinds}
use Rattle.zi_feed.specs.Feeds.{feed_fault, feed_of, feed_sites, all_faults}
use Rattle.zi_feed.specs.IdLaws.{by_bool, true_false, cons_nil, none_some, both_empty, map_nil, second_fails, unclear_false, no_faults}
use Rattle.zi_elements.specs.Places.{places, IsBelow, AreRising}
use Rattle.zi_feed.specs.Places.{impl_places, site_places, StandApart, ImplsAreInOrder}
use Rattle.zi_parts.specs.declared.types.Impl.{Impl}
use Rattle.zi_faults.specs.declared.fault.FeedKind.TheVariants.{NotInterface, NoId, BadVersion, BadPart}

-- What counts and has no fault has a version, and so is an implementation.
tail_fails : {A : Type 0} (test : A → Bool) (a : A) (xs : List A) → filter test (a ∷ xs) ≡ [] → filter test xs ≡ []
tail_fails test a xs e = cases (test a) e
  where
    cases : (p : Bool) → (if p then a ∷ filter test xs else filter test xs) ≡ [] → filter test xs ≡ []
    cases true e = absurd (cons_nil e)
    cases false e = e

version_some : (b : Bool) (t : List ℕ) → not b ≡ false → is_some (if b then Some t else None) ≡ true
version_some true t e = refl
version_some false t e = absurd (true_false e)

has_value : (o : Option (List ℕ)) → is_amiss is_version o ≡ false → is_some (option_and_then a_version o) ≡ true
has_value None e = absurd (true_false e)
has_value (Some t) e = version_some (is_version t) t e

has_version : (ways : Ways) (t : Site) → counts t.element ≡ true → faults_at ways t ≡ [] → is_some (option_and_then a_version (version_text (said (path t)))) ≡ true
unfolding faults_with kinds_at
has_version ways t c right =
    let e : Elem = t.element in
    let p : (is_impl e ≡ true) × (is_unclear e ≡ false) = unclear_false e c in
    let clear : is_unclear e ≡ false = p.1 in
    let found : map (fault_at e) (kinds_at ways (said (path t)) e) ++ map (λ r. fault_at r BadPart) (repeats_in ways e ++ shims_in ways e) ≡ [] = rw clear at right in
    let kinds : kinds_at ways (said (path t)) e ≡ [] = map_nil (fault_at e) (kinds_at ways (said (path t)) e) (both_empty _ _ found).0 in
    let later : filter (λ k. has_fault ways (said (path t)) k e) (drop 1 all_kinds) ≡ [] = tail_fails (λ k. has_fault ways (said (path t)) k e) NotInterface (drop 1 all_kinds) kinds in
    let fails : has_fault ways (said (path t)) BadVersion e ≡ false = second_fails (λ k. has_fault ways (said (path t)) k e) NoId BadVersion (drop 3 all_kinds) later in
    let own : (is_impl e && is_amiss is_version (version_text (said (path t)))) ≡ false = (or_parts _ _ fails).0 in
    let impl : is_impl e ≡ true = p.0 in
    has_value (version_text (said (path t))) (rw impl at own)

placed_as : (f : List ℕ → Impl) (p : ℕ) → ((v : List ℕ) → (f v).place ≡ p) → (o : Option (List ℕ)) → is_some o ≡ true → (cs : List Impl)
    → impl_places (cons_option (option_map f o) cs) ≡ p ∷ impl_places cs
placed_as f p h None some cs = absurd (true_false (sym some))
placed_as f p h (Some v) some cs = ap (λ q. q ∷ impl_places cs) (h v)

one_place : (ways : Ways) (t : Site) (cs : List Impl) → counts t.element ≡ true → faults_at ways t ≡ [] → impl_places (cons_option (impl_of ways t) cs) ≡ t.element.place ∷ impl_places cs
unfolding impl_of impl_from
one_place ways t cs c right = placed_as _ t.element.place (λ v. refl) _ (has_version ways t c right) cs

all_places : (ways : Ways) (ts : List Site) → flat_map (faults_at ways) ts ≡ [] → impl_places (filter_map (impl_of ways) (implementations ts)) ≡ site_places (implementations ts)
all_places ways [] right = refl
all_places ways (t ∷ ts) right =
    let p : (faults_at ways t ≡ []) × (flat_map (faults_at ways) ts ≡ []) = both_empty (faults_at ways t) (flat_map (faults_at ways) ts) right in
    let later : impl_places (filter_map (impl_of ways) (implementations ts)) ≡ site_places (implementations ts) = all_places ways ts p.1 in
    by_bool (counts t.element)
    (λ c. rw c (one_place ways t (filter_map (impl_of ways) (implementations ts)) c p.0 ∙ ap (λ v. t.element.place ∷ v) later))
    (λ c. rw c later)

-- Numbers that stand among others, in their order.
abbrev StandAmong : List ℕ → List ℕ → Type 0
StandAmong [] ys = Unit {0}
StandAmong (x ∷ xs) [] = ⊥
StandAmong (x ∷ xs) (y ∷ ys) = ((x ≡ y) × StandAmong xs ys) ⊎ StandAmong (x ∷ xs) ys

past_one : (xs : List ℕ) (y : ℕ) (ys : List ℕ) → StandAmong xs ys → StandAmong xs (y ∷ ys)
past_one [] y ys h = tt
past_one (x ∷ xs) y ys h = inr h

past_all : (xs ys zs : List ℕ) → StandAmong xs zs → StandAmong xs (ys ++ zs)
past_all xs [] zs h = h
past_all xs (y ∷ ys) zs h = past_one xs y (ys ++ zs) (past_all xs ys zs h)

joined_among : (ps xs qs ys : List ℕ) → StandAmong ps xs → StandAmong qs ys → StandAmong (ps ++ qs) (xs ++ ys)
joined_among [] xs qs ys h k = past_all qs xs ys k
joined_among (p ∷ ps) [] qs ys h k = absurd h
joined_among (p ∷ ps) (x ∷ xs) qs ys (inl e) k = inl (e.0, joined_among ps xs qs ys e.1 k)
joined_among (p ∷ ps) (x ∷ xs) qs ys (inr h) k = inr (joined_among (p ∷ ps) xs qs ys h k)

below_among : (p : ℕ) (xs ys : List ℕ) → StandAmong xs ys → IsBelow p ys → IsBelow p xs
below_among p [] ys h b = tt
below_among p (x ∷ xs) [] h b = absurd h
below_among p (x ∷ xs) (y ∷ ys) (inl q) b = (rw q.0 b.0, below_among p xs ys q.1 b.1)
below_among p (x ∷ xs) (y ∷ ys) (inr h) b = below_among p (x ∷ xs) ys h b.1

rising_among : (xs ys : List ℕ) → StandAmong xs ys → AreRising ys → AreRising xs
rising_among [] ys h r = tt
rising_among (x ∷ xs) [] h r = absurd h
rising_among (x ∷ xs) (y ∷ ys) (inl q) r = (rw q.0 (below_among y xs ys q.1 r.0), rising_among xs ys q.1 r.1)
rising_among (x ∷ xs) (y ∷ ys) (inr h) r = rising_among (x ∷ xs) ys h r.1

-- The elements that are read stand among all elements, and those that count among them.
under_same : (e : Elem) (ts us : List Site) → site_places (map (under e) ts ++ us) ≡ site_places ts ++ site_places us
under_same e [] us = refl
under_same e (t ∷ ts) us = ap (λ v. t.element.place ∷ v) (under_same e ts us)

one_read : (st cl : Bool) (e : Elem) (inner later : List Site) (p : ℕ) (inside behind : List ℕ) → e.place ≡ p
    → StandAmong (site_places inner) inside → StandAmong (site_places later) behind
    → StandAmong (site_places (if not st then later else if cl then here e ∷ later else here e ∷ (map (under e) inner ++ later))) (p ∷ (inside ++ behind))
one_read false cl e inner later p inside behind q h k = past_one (site_places later) p (inside ++ behind) (past_all (site_places later) inside behind k)
one_read true true e inner later p inside behind q h k = inl (q, past_all (site_places later) inside behind k)
one_read true false e inner later p inside behind q h k =
    inl (q, rw (under_same e inner later) (joined_among (site_places inner) inside (site_places later) behind h k))

read_among : (ways : Ways) (parent : List ℕ) (f : Forest) → StandAmong (site_places (sites ways parent f)) (places f)
read_among ways parent none = tt
read_among ways parent (words t k) = read_among ways parent k
read_among ways parent (child s n attrs f p k) =
    let e : Elem = record { space = s; name = n; attrs = attrs; inside = f; place = p } in
    one_read (stands ways parent e) (is_closed e) e (sites ways n f) (sites ways parent k) p (places f) (places k) refl (read_among ways n f) (read_among ways parent k)

counted_among : (ts : List Site) → StandAmong (site_places (implementations ts)) (site_places ts)
counted_among [] = tt
counted_among (t ∷ ts) = one (counts t.element) (counted_among ts)
  where
    one : (b : Bool) → StandAmong (site_places (implementations ts)) (site_places ts)
        → StandAmong (site_places (if b then t ∷ implementations ts else implementations ts)) (t.element.place ∷ site_places ts)
    one true h = inl (refl, h)
    one false h = past_one (site_places (implementations ts)) t.element.place (site_places ts) h

-- Rising places are distinct.
not_below : (p : ℕ) (cs : List Impl) (k : ℕ) (d : Impl) → IsBelow p (impl_places cs) → slice_get cs k ≡ Some d → p ≡ d.place → ⊥
not_below p [] k d b at_k e = none_some at_k
not_below p (x ∷ cs) zero d b at_k e = let f : x ≡ d = same_Some _ _ at_k in let g : p < d.place = rw (sym f) b.0 in omega arith
not_below p (x ∷ cs) (suc k) d b at_k e = not_below p cs k d b.1 at_k e

rising_apart : (cs : List Impl) → AreRising (impl_places cs) → StandApart cs
rising_apart [] r i k c d at_i at_k e = absurd (none_some at_i)
rising_apart (x ∷ cs) r zero zero c d at_i at_k e = refl
rising_apart (x ∷ cs) r zero (suc k) c d at_i at_k e = absurd (not_below x.place cs k d r.0 at_k (ap (λ (j : Impl). j.place) (same_Some _ _ at_i) ∙ e))
rising_apart (x ∷ cs) r (suc i) zero c d at_i at_k e = absurd (not_below x.place cs i c r.0 at_i (ap (λ (j : Impl). j.place) (same_Some _ _ at_k) ∙ sym e))
rising_apart (x ∷ cs) r (suc i) (suc k) c d at_i at_k e = ap suc (rising_apart cs r.1 i k c d at_i at_k e)

-- The law.
stand_there : (root : Elem) (uri : List ℕ) → feed_fault root uri ≡ None → impl_places (feed_of root uri).impls ≡ site_places (implementations (feed_sites uri root))
unfolding feed_of
stand_there root uri right =
    let ts : List Site = feed_sites uri root in
    let faultless : all_faults uri root ≡ [] = no_faults root uri right in
    let p : flat_map (faults_at (InFeed uri)) ts ++ same_ids (map (λ t. t.element) ts) ≡ [] = (both_empty (root_faults uri root) _ faultless).1 in
    all_places (InFeed uri) ts (both_empty (flat_map (faults_at (InFeed uri)) ts) _ p).0

stand_rising : (root : Elem) (uri : List ℕ) → feed_fault root uri ≡ None → AreRising (places root.inside) → AreRising (impl_places (feed_of root uri).impls)
stand_rising root uri right r =
    let ts : List Site = feed_sites uri root in
    let h : AreRising (site_places ts) = rising_among (site_places ts) (places root.inside) (read_among (InFeed uri) root.name root.inside) r in
    rw (stand_there root uri right) (rising_among (site_places (implementations ts)) (site_places ts) (counted_among ts) h)

pub in_order : ImplsAreInOrder
in_order root uri right = record {
  all = stand_there root uri right;
  rising = stand_rising root uri right;
  apart = λ r. rising_apart (feed_of root uri).impls (stand_rising root uri right r);
}
