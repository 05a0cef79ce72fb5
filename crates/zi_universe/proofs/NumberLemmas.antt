-- How many of some versions are less than one: these numbers stand to each other as the versions do.
use Rattle.std.proofs.Common.{◌≡◌, ◌≢◌, ℕ, zero, suc, ◌+◌, ◌<◌, ◌≤◌, ◌∷◌, ◌++◌, take, ◌⊎◌, inl, inr, below_more, Bool, true, false, List, [], length, get_or, Contains, Some, Bor, refl, sym, ap, subst, ◌∙◌, arith}
use Rattle.std.specs.Prelude.{if◌then◌else◌, slice_get, slice_set, unwrap_or, map, option_map, ◌-◌, IsPermutation, IsSortedBy}
use Rattle.std.specs.Ordering.{nat_cmp, is_lt, ordering_reverse, ordering_then}
use Rattle.std.specs.Cmp.{IsTotalOrder, on_total, tied_itself, alike_right}
use Rattle.std.specs.Cmp.Lexicographic.{slice_cmp, lists_total, nat_list_cmp_total}
use Rattle.std.specs.declared.cmp.Ordering.{Ordering}
use Rattle.std.specs.declared.cmp.Ordering.TheVariants.{Less, Equal, Greater}
use Rattle.std.proofs.lemmas.Option.{slice_get_within, get_or_from_slice_get, slice_get-get_or, slice_get-map, same_Some}
use Rattle.std.proofs.lemmas.List.Sorted.{ranks_by, sorted_far, Contains-permutation}
use Rattle.std.proofs.lemmas.List.{get_or-map, get_or_append_left, get_or_push, get_or-set_other, length-append, length-map, length-take-le, map-append, take_more}
use Rattle.std.proofs.lemmas.List.Elements.{All-push}
use Rattle.std.proofs.lemmas.Grind.{get_or-set_at}
use Rattle.std.proofs.lemmas.Cmp.{ranked}
use Rattle.std.proofs.lemmas.Bool.{both_ways}
use Rattle.zi_version.specs.Value.{value, value_cmp, version_cmp}
use Rattle.zi_version.specs.First.{first_item, first_numbers, first_cmp}
use Rattle.zi_rank.specs.declared.rating.VersionNumber.{VersionNumber}
use Rattle.zi_universe.specs.declared.numbers.PlacedVersion.{PlacedVersion}
use Rattle.zi_universe.specs.Offering.{VersionOrder, IsBehindLess, IsCounted, AreNumbersOf, least, versions_of, texts_of, AreAt, HasPlaces}
use Rattle.zi_text.proofs.ListLaws.{is_less}

pub version_total : IsTotalOrder version_cmp
version_total = on_total (λ v. unwrap_or (value v) []) (lists_total nat_list_cmp_total)

pub first_total : IsTotalOrder first_cmp
first_total = on_total (λ v. first_numbers v) nat_list_cmp_total

twice : (o p : Ordering) → ordering_then o (ordering_then o p) ≡ ordering_then o p
twice Less p = refl
twice Equal p = refl
twice Greater p = refl

-- the first dotted list decides nothing that the whole version doesn't
first_decides : (a b : List (List ℕ)) → ordering_then (slice_cmp nat_cmp (first_item a) (first_item b)) (value_cmp a b) ≡ value_cmp a b
first_decides [] [] = refl
first_decides [] ([] ∷ ys) = refl
first_decides [] ((n ∷ b) ∷ ys) = refl
first_decides ([] ∷ xs) [] = refl
first_decides ((n ∷ a) ∷ xs) [] = refl
first_decides (a ∷ xs) (b ∷ ys) = twice (slice_cmp nat_cmp a b) (value_cmp xs ys)

different : {G : Type 0} (b : Bool) → b ≡ true → b ≡ false → G
different b t f = absurd (both_ways b f t)

nat_less : (m n : ℕ) → m < n → nat_cmp m n ≡ Less
nat_less m n lt = sym (by (nat_cmp m n) refl)
  where
    by : (r : Ordering) → r ≡ nat_cmp m n → Less ≡ r
    by Less e = refl
    by Equal e = absurd (let f : m ≡ n = ranked m n Equal e in omega (arith, lt, f))
    by Greater e = absurd (let f : n < m = ranked m n Greater e in omega (arith, lt, f))

nat_greater : (m n : ℕ) → n < m → nat_cmp m n ≡ Greater
nat_greater m n lt = sym (by (nat_cmp m n) refl)
  where
    by : (r : Ordering) → r ≡ nat_cmp m n → Greater ≡ r
    by Less e = absurd (let f : m < n = ranked m n Less e in omega (arith, lt, f))
    by Equal e = absurd (let f : m ≡ n = ranked m n Equal e in omega (arith, lt, f))
    by Greater e = refl

nat_same : (m n : ℕ) → ¬ (m < n) → ¬ (n < m) → nat_cmp m n ≡ Equal
nat_same m n f g = sym (by (nat_cmp m n) refl)
  where
    by : (r : Ordering) → r ≡ nat_cmp m n → Equal ≡ r
    by Less e = absurd (f (ranked m n Less e))
    by Equal e = refl
    by Greater e = absurd (g (ranked m n Greater e))

-- a version is among those in their order
among : (vs ws : List (List ℕ)) (k : ℕ) (v : List ℕ) → IsPermutation vs ws → slice_get vs k ≡ Some v → Contains ws v
among vs ws k v same e = Contains-permutation vs ws v same (k, slice_get_within vs k v e, get_or_from_slice_get vs k v v e)

-- a list is in order where what stands for its items is
pub sorted_map : {P X : Type 0} (f : P → X) (lt : X → X → Bool) (ps : List P) → IsSortedBy (λ p q. lt (f p) (f q)) ps → IsSortedBy lt (map f ps)
sorted_map f lt [] up = λ k d le h. absurd (omega (arith, h))
sorted_map f lt (p ∷ ps) up = λ k d le h.
    let within : k + 1 < length (p ∷ ps) = (let e : length (map f (p ∷ ps)) ≡ length (p ∷ ps) = length-map (p ∷ ps) f in omega (arith, h, e)) in
    let last : get_or (map f (p ∷ ps)) k d ≡ f (get_or (p ∷ ps) k p) =
    get_or_from_slice_get (map f (p ∷ ps)) k (f (get_or (p ∷ ps) k p)) d (slice_get-map f (p ∷ ps) k ∙ ap (option_map f) (slice_get-get_or (p ∷ ps) k p (omega (arith, within)))) in
    let next : get_or (map f (p ∷ ps)) (k + 1) d ≡ f (get_or (p ∷ ps) (k + 1) p) =
    get_or_from_slice_get (map f (p ∷ ps)) (k + 1) (f (get_or (p ∷ ps) (k + 1) p)) d (slice_get-map f (p ∷ ps) (k + 1) ∙ ap (option_map f) (slice_get-get_or (p ∷ ps) (k + 1) p within)) in
    ap (λ x. lt x (get_or (map f (p ∷ ps)) k d)) next ∙ (ap (λ y. lt (f (get_or (p ∷ ps) (k + 1) p)) y) last ∙ up k p le within)

-- By an order of versions.
module _ (cmp : VersionOrder) (total : IsTotalOrder cmp) where
  -- what is before a lesser one is less
  less_before : (x y v : List ℕ) → is_lt (cmp y x) ≡ false → is_lt (cmp y v) ≡ true → is_lt (cmp x v) ≡ true
  less_before x y v up less = by (cmp x y) refl
    where
      by : (r : Ordering) → cmp x y ≡ r → is_lt (cmp x v) ≡ true
      by Less e = ap is_lt (total.trans x y v e (is_less (cmp y v) less))
      by Equal e = ap is_lt (total.congr x y v e) ∙ less
      by Greater e = different (is_lt (cmp y x)) (ap is_lt (total.antisymm y x ∙ ap ordering_reverse e)) up

  -- a lesser version has a smaller number
  smaller : (vs : List (List ℕ)) (v w : List ℕ) (m n : ℕ) → IsBehindLess cmp vs v m → IsBehindLess cmp vs w n → Contains vs v → cmp v w ≡ Less → m < n
  smaller vs v w m n a b c e =
      let k : ℕ = c.0 in
      let lt : k < length vs = c.1 in
      let is : get_or vs k v ≡ v = c.2 in
      let itself : is_lt (cmp (get_or vs k v) v) ≡ false = ap (λ q. is_lt (cmp q v)) is ∙ ap is_lt (tied_itself total v) in
      let below : is_lt (cmp (get_or vs k v) w) ≡ true = ap (λ q. is_lt (cmp q w)) is ∙ ap is_lt e in
      let f : ¬ (k < m) = λ l. different (is_lt (cmp (get_or vs k v) v)) (a.less k v l) itself in
      let g : ¬ (n ≤ k) = λ l. different (is_lt (cmp (get_or vs k v) w)) below (b.others k v l lt) in
      omega (arith, f, g)

  -- those of two that tie are one
  not_smaller : (vs : List (List ℕ)) (v w : List ℕ) (m n : ℕ) → IsBehindLess cmp vs v m → IsBehindLess cmp vs w n → cmp v w ≡ Equal → ¬ (m < n)
  not_smaller vs v w m n a b e lt =
      let x : List ℕ = get_or vs m v in
      let within : m < length vs = omega (arith, lt, b.within) in
      different (is_lt (cmp x w)) (b.less m v lt) (ap is_lt (sym (alike_right total v w x e)) ∙ a.others m v (omega arith) within)

  turned : (v w : List ℕ) (r : Ordering) → cmp v w ≡ r → cmp w v ≡ ordering_reverse r
  turned v w r e = total.antisymm w v ∙ ap ordering_reverse e

  numbers_alike : (vs : List (List ℕ)) (v w : List ℕ) (m n : ℕ) → IsBehindLess cmp vs v m → IsBehindLess cmp vs w n → Contains vs v → Contains vs w → nat_cmp m n ≡ cmp v w
  numbers_alike vs v w m n a b c d = by (cmp v w) refl
    where
      by : (r : Ordering) → cmp v w ≡ r → nat_cmp m n ≡ cmp v w
      by Less e = nat_less m n (smaller vs v w m n a b c e) ∙ sym e
      by Equal e = nat_same m n (not_smaller vs v w m n a b e) (not_smaller vs w v n m b a (turned v w Equal e)) ∙ sym e
      by Greater e = nat_greater m n (smaller vs w v n m b a d (turned v w Greater e)) ∙ sym e

  tied : (u v : List ℕ) → is_lt (cmp u v) ≡ false → is_lt (cmp v u) ≡ false → cmp u v ≡ Equal
  tied u v f g = by (cmp u v) refl
    where
      by : (r : Ordering) → cmp u v ≡ r → cmp u v ≡ Equal
      by Less e = different (is_lt (cmp u v)) (ap is_lt e) f
      by Equal e = e
      by Greater e = different (is_lt (cmp v u)) (ap is_lt (turned u v Greater e)) g

  module _ (vs : List (List ℕ)) (up : IsSortedBy (λ x y. is_lt (cmp x y)) vs) where
    far : (i j : ℕ) (d : List ℕ) → i ≤ j → j < length vs → is_lt (cmp (get_or vs j d) (get_or vs i d)) ≡ false
    far i j d le within = sorted_far (λ (x y : List ℕ). is_lt (cmp x y)) (ranks_by total (λ (x : List ℕ). x)) vs up i j d le within

    -- as many are less as stand before one that is greater than the last of those
    pub begins : (i : ℕ) (v : List ℕ) → slice_get vs i ≡ Some v → ((u : List ℕ) → 0 < i → slice_get vs (i - 1) ≡ Some u → is_lt (cmp u v) ≡ true) → IsBehindLess cmp vs v i
    begins i v here step =
        let within : i < length vs = slice_get_within vs i v here in
        record {
          within = omega (arith, within);
          less = λ k d lt.
              let u : List ℕ = get_or vs (i - 1) v in
              let there : slice_get vs (i - 1) ≡ Some u = slice_get-get_or vs (i - 1) v (omega (arith, lt, within)) in
              less_before (get_or vs k d) (get_or vs (i - 1) d) v (far k (i - 1) d (omega (arith, lt)) (omega (arith, lt, within)))
              (ap (λ q. is_lt (cmp q v)) (get_or_from_slice_get vs (i - 1) u d there) ∙ step u (omega (arith, lt)) there);
          others = λ k d le lt. ap (λ q. is_lt (cmp (get_or vs k d) q)) (sym (get_or_from_slice_get vs i v d here)) ∙ far i k d le lt;
        }

    -- as many are less than one as than the one before it, which is no less
    pub goes_on : (i n : ℕ) (u v : List ℕ) → 0 < i → slice_get vs (i - 1) ≡ Some u → slice_get vs i ≡ Some v → is_lt (cmp u v) ≡ false → IsBehindLess cmp vs u n → IsBehindLess cmp vs v n
    goes_on i n u v some before here no_less b =
        let within : i < length vs = slice_get_within vs i v here in
        let back : is_lt (cmp v u) ≡ false =
        ap (λ q. is_lt (cmp q u)) (sym (get_or_from_slice_get vs i v v here))
        ∙ (ap (λ q. is_lt (cmp (get_or vs i v) q)) (sym (get_or_from_slice_get vs (i - 1) u v before)) ∙ far (i - 1) i v (omega arith) within) in
        let tie : cmp u v ≡ Equal = tied u v no_less back in
        record {
          within = b.within;
          less = λ k d lt. ap is_lt (sym (alike_right total u v (get_or vs k d) tie)) ∙ b.less k d lt;
          others = λ k d le lt. ap is_lt (sym (alike_right total u v (get_or vs k d) tie)) ∙ b.others k d le lt;
        }

-- numbers of versions, each counted among all of them
pub numbers_of : (vs ws : List (List ℕ)) (ns : List VersionNumber) → IsPermutation vs ws → length ns ≡ length vs
    → ((k : ℕ) (v : List ℕ) → k < length vs → slice_get vs k ≡ Some v → IsCounted ws v (get_or ns k least)) → AreNumbersOf vs ns
numbers_of vs ws ns same count each = record {
  count = count;
  first = λ i j v w e f.
      let a = each i v (slice_get_within vs i v e) e in
      let b = each j w (slice_get_within vs j w f) f in
      numbers_alike first_cmp first_total ws v w (get_or ns i least).first (get_or ns j least).first a.first b.first (among vs ws i v same e) (among vs ws j w same f);
  whole = λ i j v w e f.
      let a = each i v (slice_get_within vs i v e) e in
      let b = each j w (slice_get_within vs j w f) f in
      numbers_alike version_cmp version_total ws v w (get_or ns i least).whole (get_or ns j least).whole a.whole b.whole (among vs ws i v same e) (among vs ws j w same f);
}

-- Versions with their places.

take_read : {X : Type 0} (xs : List X) (i : ℕ) (x : X) → i < length xs → x ≡ get_or xs i x → take (i + 1) xs ≡ take i xs ++ x ∷ []
take_read xs i x within is = take_more xs i x within ∙ ap (λ q. take i xs ++ q ∷ []) (sym is)

nat_decided : (a b : ℕ) → (a ≡ b) ⊎ (a ≢ b)
nat_decided zero zero = inl refl
nat_decided zero (suc b) = inr (λ e. omega (arith, e))
nat_decided (suc a) zero = inr (λ e. omega (arith, e))
nat_decided (suc a) (suc b) = elim (nat_decided a b) [ inl e ↦ inl (ap suc e) | inr f ↦ inr (λ e. f (omega (arith, e))) ]

kept : {X : Type 0} (ps : List X) (q p : X) (j : ℕ) → slice_get ps j ≡ Some p → slice_get (ps ++ q ∷ []) j ≡ Some p
kept ps q p j e =
    let lt : j < length ps = slice_get_within ps j p e in
    let more : j < length (ps ++ q ∷ []) = (let a = length-append ps (q ∷ []) in omega (arith, lt, a)) in
    slice_get-get_or (ps ++ q ∷ []) j p more ∙ ap Some (get_or_append_left ps (q ∷ []) p j lt ∙ get_or_from_slice_get ps j p p e)

newest : {X : Type 0} (ps : List X) (q : X) (i : ℕ) → length ps ≡ i → slice_get (ps ++ q ∷ []) i ≡ Some q
newest ps q i h =
    let more : i < length (ps ++ q ∷ []) = (let a = length-append ps (q ∷ []) in omega (arith, h, a)) in
    slice_get-get_or (ps ++ q ∷ []) i q more ∙ ap Some (get_or_push ps q q i h)

-- what is lent at a place
pub lent_at : (vs : List (Bor (List ℕ))) (i : ℕ) (b : Bor (List ℕ)) → i < length vs → b ≡ get_or vs i b → b.now ≡ get_or (texts_of vs) i b.now
lent_at vs i b lt is = ap (λ (q : Bor (List ℕ)). q.now) is ∙ sym (get_or-map (λ (v : Bor (List ℕ)). v.now) vs i b b.now lt)

-- those of the first places, which stand in their order
pub record AreFirst (vs : List (List ℕ)) (ps : List PlacedVersion) (i : ℕ) : Type 0 where
  pub at : AreAt vs ps
  pub same : versions_of ps ≡ take i vs
  pub places : HasPlaces i ps

pub none_yet : (vs : List (List ℕ)) → AreFirst vs [] 0
none_yet vs = record { at = λ k d lt. absurd (omega (arith, lt)); same = refl; places = λ k lt. absurd (omega (arith, lt)) }

pub one_more : (vs : List (List ℕ)) (ps qs : List PlacedVersion) (i : ℕ) (p : PlacedVersion) → i < length vs → p.version.now ≡ get_or vs i p.version.now → p.place ≡ i → qs ≡ ps ++ p ∷ []
    → AreFirst vs ps i → AreFirst vs qs (i + 1)
one_more vs ps qs i p within is here grown first =
    let stands : slice_get vs p.place ≡ Some p.version.now = ap (slice_get vs) here ∙ (slice_get-get_or vs i p.version.now within ∙ ap Some (sym is)) in
    let long : length ps ≡ i = (let a = length-map ps (λ (q : PlacedVersion). q.version.now) in let b = ap length first.same in let c = length-take-le i vs (omega (arith, within)) in omega (arith, a, b, c)) in
    let P : List PlacedVersion → Type 0 = λ q. AreFirst vs q (i + 1) in
    subst P (sym grown) (record {
      at = All-push (λ (q : PlacedVersion). slice_get vs q.place ≡ Some q.version.now) ps p first.at stands;
      same = map-append (λ (q : PlacedVersion). q.version.now) ps (p ∷ []) ∙ (ap (λ q. q ++ p.version.now ∷ []) first.same ∙ sym (take_read vs i p.version.now within is));
      places = λ k lt. below_more (λ (q : ℕ). (j : ℕ) × (r : PlacedVersion) × (slice_get (ps ++ p ∷ []) j ≡ Some r) × (r.place ≡ q)) i
          (λ q h. let there = first.places q h in (there.0, there.1, kept ps p there.1 there.0 there.2, there.3))
          (i, p, newest ps p i long, here) k lt;
    })

-- One number after the other.

abbrev pub ByVersion : List PlacedVersion → Type 0
ByVersion ps = IsSortedBy (λ p q. is_lt (version_cmp p.version.now q.version.now)) ps

pub sorted_versions : (ps : List PlacedVersion) → ByVersion ps → IsSortedBy (λ x y. is_lt (version_cmp x y)) (versions_of ps)
sorted_versions ps up = sorted_map (λ (p : PlacedVersion). p.version.now) (λ x y. is_lt (version_cmp x y)) ps up

version_there : (ps : List PlacedVersion) (i : ℕ) (p : PlacedVersion) → slice_get ps i ≡ Some p → slice_get (versions_of ps) i ≡ Some p.version.now
version_there ps i p e = slice_get-map (λ (q : PlacedVersion). q.version.now) ps i ∙ ap (option_map (λ (q : PlacedVersion). q.version.now)) e

-- the version of one at a place
version_at_place : (ps : List PlacedVersion) (i : ℕ) (x : PlacedVersion) → i < length ps → x ≡ get_or ps i x → slice_get (versions_of ps) i ≡ Some x.version.now
version_at_place ps i x within is = version_there ps i x (slice_get-get_or ps i x within ∙ ap Some (sym is))

same_there : (ps : List PlacedVersion) (i : ℕ) (x p : PlacedVersion) → x ≡ get_or ps i x → slice_get ps i ≡ Some p → x ≡ p
same_there ps i x p is e = is ∙ get_or_from_slice_get ps i p x e

-- two that stand in a list are compared where they stand
pub cmp_there : (cmp : VersionOrder) (ps : List PlacedVersion) (i j : ℕ) (x y : PlacedVersion) → x ≡ get_or ps i x → y ≡ get_or ps j y → cmp (get_or ps i x).version.now (get_or ps j y).version.now ≡ cmp x.version.now y.version.now
cmp_there cmp ps i j x y a b = ap (λ (q : PlacedVersion). cmp q.version.now (get_or ps j y).version.now) (sym a) ∙ ap (λ (q : PlacedVersion). cmp x.version.now q.version.now) (sym b)

-- One number after the other, by an order in which they stand.
module _ (cmp : VersionOrder) (total : IsTotalOrder cmp) (ps : List PlacedVersion) (up : IsSortedBy (λ x y. is_lt (cmp x y)) (versions_of ps)) where
  pub first_place : (i : ℕ) (p : PlacedVersion) → i ≡ 0 → slice_get ps i ≡ Some p → IsBehindLess cmp (versions_of ps) p.version.now 0
  first_place i p zero_is e =
      let P : ℕ → Type 0 = λ q. IsBehindLess cmp (versions_of ps) p.version.now q in
      subst P zero_is (begins cmp total (versions_of ps) up i p.version.now (version_there ps i p e) (λ u some f. absurd (omega (arith, some, zero_is))))

  next_less : (i : ℕ) (x y p : PlacedVersion) → i < length ps → x ≡ get_or ps (i - 1) x → y ≡ get_or ps i y → slice_get ps i ≡ Some p
      → is_lt (cmp x.version.now y.version.now) ≡ true → IsBehindLess cmp (versions_of ps) p.version.now i
  next_less i x y p within x_is y_is e less =
      begins cmp total (versions_of ps) up i p.version.now (version_there ps i p e)
      (λ u some f.
      let u_is : x.version.now ≡ u = same_Some _ _ (sym (version_at_place ps (i - 1) x (omega (arith, within, some)) x_is) ∙ f) in
      ap (λ q. is_lt (cmp q p.version.now)) (sym u_is) ∙ (ap (λ q. is_lt (cmp x.version.now q.version.now)) (sym (same_there ps i y p y_is e)) ∙ less))

  next_same : (i n : ℕ) (x y p : PlacedVersion) → i < length ps → 0 < i → x ≡ get_or ps (i - 1) x → y ≡ get_or ps i y → slice_get ps i ≡ Some p
      → is_lt (cmp x.version.now y.version.now) ≡ false → ((q : PlacedVersion) → 0 < i → slice_get ps (i - 1) ≡ Some q → IsBehindLess cmp (versions_of ps) q.version.now n)
      → IsBehindLess cmp (versions_of ps) p.version.now n
  next_same i n x y p within some x_is y_is e no_less before =
      let last : slice_get ps (i - 1) ≡ Some x = slice_get-get_or ps (i - 1) x (omega (arith, within)) ∙ ap Some (sym x_is) in
      goes_on cmp total (versions_of ps) up i n x.version.now p.version.now some (version_there ps (i - 1) x last) (version_there ps i p e)
      (ap (λ q. is_lt (cmp x.version.now q.version.now)) (sym (same_there ps i y p y_is e)) ∙ no_less) (before x some last)

  pub next_by : (i n m : ℕ) (x y p : PlacedVersion) → i < length ps → 0 < i → x ≡ get_or ps (i - 1) x → y ≡ get_or ps i y → slice_get ps i ≡ Some p
      → m ≡ (if is_lt (cmp x.version.now y.version.now) then i else n) → ((q : PlacedVersion) → 0 < i → slice_get ps (i - 1) ≡ Some q → IsBehindLess cmp (versions_of ps) q.version.now n)
      → IsBehindLess cmp (versions_of ps) p.version.now m
  next_by i n m x y p within some x_is y_is e is before = by (is_lt (cmp x.version.now y.version.now)) refl
    where
      by : (b : Bool) → is_lt (cmp x.version.now y.version.now) ≡ b → IsBehindLess cmp (versions_of ps) p.version.now m
      by true t = subst (IsBehindLess cmp (versions_of ps) p.version.now) (sym (is ∙ ap (λ b. if b then i else n) t)) (next_less i x y p within x_is y_is e t)
      by false t = subst (IsBehindLess cmp (versions_of ps) p.version.now) (sym (is ∙ ap (λ b. if b then i else n) t)) (next_same i n x y p within some x_is y_is e t before)

-- versions in their order have their first dotted lists in order
first_behind : (x y : List ℕ) → is_lt (version_cmp x y) ≡ false → is_lt (first_cmp x y) ≡ false
first_behind x y h = by (first_cmp x y) refl
  where
    by : (r : Ordering) → first_cmp x y ≡ r → is_lt (first_cmp x y) ≡ false
    by Less e = different (is_lt (version_cmp x y)) (ap is_lt (sym (first_decides (unwrap_or (value x) []) (unwrap_or (value y) [])) ∙ ap (λ q. ordering_then q (version_cmp x y)) e)) h
    by Equal e = ap is_lt e
    by Greater e = ap is_lt e

pub firsts_sorted : (ps : List PlacedVersion) → ByVersion ps → IsSortedBy (λ x y. is_lt (first_cmp x y)) (versions_of ps)
firsts_sorted ps up = λ k d le h. first_behind (get_or (versions_of ps) (k + 1) d) (get_or (versions_of ps) k d) (sorted_versions ps up k d le h)

pub first_counted : (ps : List PlacedVersion) (i : ℕ) (p : PlacedVersion) → ByVersion ps → i ≡ 0 → slice_get ps i ≡ Some p → IsCounted (versions_of ps) p.version.now (record { first = 0; whole = 0 })
first_counted ps i p up zero_is e = record {
  first = first_place first_cmp first_total ps (firsts_sorted ps up) i p zero_is e;
  whole = first_place version_cmp version_total ps (sorted_versions ps up) i p zero_is e;
}

pub next_counted : (ps : List PlacedVersion) (i : ℕ) (n m : VersionNumber) (x y p : PlacedVersion) → ByVersion ps → i < length ps → 0 < i → x ≡ get_or ps (i - 1) x → y ≡ get_or ps i y → slice_get ps i ≡ Some p
    → m.first ≡ (if is_lt (first_cmp x.version.now y.version.now) then i else n.first) → m.whole ≡ (if is_lt (version_cmp x.version.now y.version.now) then i else n.whole)
    → ((q : PlacedVersion) → 0 < i → slice_get ps (i - 1) ≡ Some q → IsCounted (versions_of ps) q.version.now n) → IsCounted (versions_of ps) p.version.now m
next_counted ps i n m x y p up within some x_is y_is e f w before = record {
  first = next_by first_cmp first_total ps (firsts_sorted ps up) i n.first m.first x y p within some x_is y_is e f (λ q s t. (before q s t).first);
  whole = next_by version_cmp version_total ps (sorted_versions ps up) i n.whole m.whole x y p within some x_is y_is e w (λ q s t. (before q s t).whole);
}

-- places go with their versions in any order
pub places_in_order : (n : ℕ) (ps qs : List PlacedVersion) → IsPermutation ps qs → HasPlaces n ps → HasPlaces n qs
places_in_order n ps qs same has k lt =
    let there = has k lt in
    let p : PlacedVersion = there.1 in
    let e : slice_get ps there.0 ≡ Some p = there.2 in
    let found = Contains-permutation ps qs p same (there.0, slice_get_within ps there.0 p e, get_or_from_slice_get ps there.0 p p e) in
    (found.0, p, slice_get-get_or qs found.0 p found.1 ∙ ap Some found.2, there.3)

-- those so far have the numbers of their versions
pub record AreCounted (ws : List (List ℕ)) (ps : List PlacedVersion) (ns : List VersionNumber) (i : ℕ) (n : VersionNumber) : Type 0 where
  pub last : (p : PlacedVersion) → 0 < i → slice_get ps (i - 1) ≡ Some p → IsCounted ws p.version.now n
  pub each : (j : ℕ) (p : PlacedVersion) → j < i → slice_get ps j ≡ Some p → IsCounted ws p.version.now (get_or ns p.place least)

pub counted_more : (vs ws : List (List ℕ)) (ps : List PlacedVersion) (ns ms : List VersionNumber) (i : ℕ) (m n : VersionNumber) (p : PlacedVersion) → AreAt vs ps → length ns ≡ length vs → slice_get ps i ≡ Some p
    → ms ≡ slice_set ns p.place n → ((q : PlacedVersion) → slice_get ps i ≡ Some q → IsCounted ws q.version.now n) → AreCounted ws ps ns i m → AreCounted ws ps ms (i + 1) n
counted_more vs ws ps ns ms i m n p at count here set counts c = record {
  last = λ q some e. counts q (ap (slice_get ps) (let h : i ≡ i + 1 - 1 = omega arith in h) ∙ e);
  each = λ j q lt e. below_more (λ (k : ℕ). (r : PlacedVersion) → slice_get ps k ≡ Some r → IsCounted ws r.version.now (get_or ms r.place least)) i before (λ r f. at_place r f (counts r f)) j lt q e;
}
  where
    stands : (k : ℕ) (r : PlacedVersion) → slice_get ps k ≡ Some r → slice_get vs r.place ≡ Some r.version.now
    stands k r e =
        let Q : PlacedVersion → Type 0 = λ q. slice_get vs q.place ≡ Some q.version.now in
        subst Q (get_or_from_slice_get ps k r r e) (at k r (slice_get_within ps k r e))

    at_place : (r : PlacedVersion) → slice_get ps i ≡ Some r → IsCounted ws r.version.now n → IsCounted ws r.version.now (get_or ms r.place least)
    at_place r e b =
        let same : r.place ≡ p.place = ap (λ q. q.place) (sym (get_or_from_slice_get ps i r r e) ∙ get_or_from_slice_get ps i p r here) in
        let within : p.place < length ns = (let w = slice_get_within vs p.place p.version.now (stands i p here) in omega (arith, w, count)) in
        let P : VersionNumber → Type 0 = λ q. IsCounted ws r.version.now q in
        subst P (sym (ap (λ q. get_or q r.place least) set ∙ get_or-set_at ns p.place r.place n least same within)) b

    before : (k : ℕ) → k < i → (r : PlacedVersion) → slice_get ps k ≡ Some r → IsCounted ws r.version.now (get_or ms r.place least)
    before k lt r e = elim (nat_decided r.place p.place) [
      | inl same ↦
          let v : r.version.now ≡ p.version.now = same_Some _ _ (sym (stands k r e) ∙ (ap (slice_get vs) same ∙ stands i p here)) in
          let P : List ℕ → Type 0 = λ q. IsCounted ws q (get_or ms r.place least) in
          let Q : ℕ → Type 0 = λ q. IsCounted ws p.version.now (get_or ms q least) in
          subst P (sym v) (subst Q (sym same) (at_place p here (counts p here)))
      | inr other ↦
          let P : VersionNumber → Type 0 = λ q. IsCounted ws r.version.now q in
          subst P (sym (ap (λ q. get_or q r.place least) set ∙ get_or-set_other ns p.place r.place n least other)) (c.each k r lt e)
    ]

-- all numbers, counted in order
pub all_counted : (vs : List (List ℕ)) (ps : List PlacedVersion) (ns : List VersionNumber) (i : ℕ) (n : VersionNumber) → length ps ≤ i → AreAt vs ps → IsPermutation vs (versions_of ps) → HasPlaces (length vs) ps → length ns ≡ length vs
    → AreCounted (versions_of ps) ps ns i n → AreNumbersOf vs ns
all_counted vs ps ns i n all at same has count c = numbers_of vs (versions_of ps) ns same count each
  where
    each : (k : ℕ) (v : List ℕ) → k < length vs → slice_get vs k ≡ Some v → IsCounted (versions_of ps) v (get_or ns k least)
    each k v lt e =
        let there = has k lt in
        let p : PlacedVersion = there.1 in
        let f : slice_get ps there.0 ≡ Some p = there.2 in
        let within : there.0 < length ps = slice_get_within ps there.0 p f in
        let Q : PlacedVersion → Type 0 = λ q. slice_get vs q.place ≡ Some q.version.now in
        let stands : slice_get vs p.place ≡ Some p.version.now = subst Q (get_or_from_slice_get ps there.0 p p f) (at there.0 p within) in
        let v_is : p.version.now ≡ v = same_Some _ _ (sym stands ∙ (ap (slice_get vs) there.3 ∙ e)) in
        let P : List ℕ → Type 0 = λ q. IsCounted (versions_of ps) q (get_or ns k least) in
        let R : ℕ → Type 0 = λ q. IsCounted (versions_of ps) p.version.now (get_or ns q least) in
        subst P v_is (subst R there.3 (c.each there.0 p (omega (arith, within, all)) f))
