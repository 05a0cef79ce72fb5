-- What feeds have under their numbers, and what maps by these find.
use Rattle.std.proofs.Common.{◌≡◌, ℕ, zero, suc, ◌<◌, Bool, true, false, cond, ◌&&◌, eqb, List, [], ◌∷◌, ◌++◌, length, map, get_or, Option, Some, None, All, Bor, refl, sym, ap, subst, ◌∙◌, arith}
use Rattle.std.specs.Prelude.{slice_get, option_and_then}
use Rattle.std.specs.Ordering.{nat_cmp}
use Rattle.std.proofs.lemmas.Option.{slice_get_within, slice_get-get_or}
use Rattle.std.proofs.lemmas.List.Elements.{All-head, All-tail, All-nil, All-cons}
use Rattle.std.proofs.lemmas.List.{length-map, map-append}
use Rattle.std.proofs.lemmas.Bool.{and_parts, eqb-true}
use Rattle.zi_parts.specs.declared.types.Dep.{Dep}
use Rattle.zi_feed.specs.declared.shares.Shares.{Shares}
use Rattle.zi_feed.specs.Shares.{Grows, deps_at}
use Rattle.zi_feed.proofs.ShareLaws.{at_grown, at_new, grows_by}
use Rattle.zi_rank.specs.declared.rating.VersionNumber.{VersionNumber}
use Rattle.zi_universe.specs.declared.offers.Offered.{Offered}
use Rattle.zi_universe.specs.declared.offers.Key.{Key}
use Rattle.zi_universe.specs.Offering.{IsNumbered, version_at, langs_at, deps_of, HasLevel, found_at, StandsAt, FindsVersions, texts_of, versions_in, ArePlacedIn, AreNumbersOf, least}

-- Keys that are alike are one.

abbrev key : ℕ → ℕ → Key
key f n = record { feed = f; number = n }

pub same_key : (k q : Key) → (eqb k.feed q.feed && eqb k.number q.number) ≡ true → k ≡ q
same_key k q e =
    let h = and_parts (eqb k.feed q.feed) (eqb k.number q.number) e in
    ap (λ f. key f k.number) (eqb-true k.feed q.feed h.0) ∙ ap (λ n. key q.feed n) (eqb-true k.number q.number h.1)

pub one_value : {X : Type 0} (o : Option X) (x y : X) → o ≡ Some x → o ≡ Some y → x ≡ y
one_value o x y e f = cc

-- What a candidate's feed has.
under : {X : Type 0} (feeds : List Shares) (n : ℕ) (s : Shares) (f : Shares → Option X) → slice_get feeds n ≡ Some s → option_and_then f (slice_get feeds n) ≡ f s
under feeds n s f e = ap (option_and_then f) e

pub version_there : (feeds : List Shares) (o : Offered) (n : ℕ) → IsNumbered feeds o → o.version ≡ Some n → version_at feeds (record { feed = o.feed; number = n }) ≡ Some (Some o.candidate.standing.version)
version_there feeds o n h e = under feeds o.feed h.shares (λ s. slice_get s.versions n) h.there ∙ h.version n e

pub langs_there : (feeds : List Shares) (o : Offered) → IsNumbered feeds o → langs_at feeds (record { feed = o.feed; number = o.langs }) ≡ Some o.candidate.standing.langs
langs_there feeds o h = under feeds o.feed h.shares (λ s. slice_get s.langs o.langs) h.there ∙ h.langs

pub deps_there : (feeds : List Shares) (k : Key) (s : Shares) (ds : List Dep) → slice_get feeds k.feed ≡ Some s → deps_at s.levels k.number ≡ Some ds → deps_of feeds k ≡ Some ds
deps_there feeds k s ds there at = under feeds k.feed s (λ q. deps_at q.levels k.number) there ∙ at

pub level_there : (feeds : List Shares) (o : Offered) → IsNumbered feeds o → HasLevel feeds (record { feed = o.feed; number = o.level })
level_there feeds o h = record { shares = h.shares; there = h.there; levels = h.levels; deps = o.candidate.imp.deps; at = h.level }

-- what is there is within the lists
pub feed_within : {X : Type 0} (feeds : List Shares) (n : ℕ) (f : Shares → Option X) (x : X) → option_and_then f (slice_get feeds n) ≡ Some x → n < length feeds
feed_within [] n f x e = (cc)
feed_within (s ∷ feeds) zero f x e = omega arith
feed_within (s ∷ feeds) (suc n) f x e = let r = feed_within feeds n f x e in omega (arith, r)

pub version_in : (feeds : List Shares) (k : Key) (s : Shares) (v : Option (List ℕ)) → slice_get feeds k.feed ≡ Some s → version_at feeds k ≡ Some v → slice_get s.versions k.number ≡ Some v
version_in feeds k s v there e = sym (under feeds k.feed s (λ q. slice_get q.versions k.number) there) ∙ e

pub version_out : (feeds : List Shares) (k : Key) (s : Shares) (v : Option (List ℕ)) → slice_get feeds k.feed ≡ Some s → slice_get s.versions k.number ≡ Some v → version_at feeds k ≡ Some v
version_out feeds k s v there e = under feeds k.feed s (λ q. slice_get q.versions k.number) there ∙ e

pub langs_in : (feeds : List Shares) (k : Key) (s : Shares) (ls : List (List ℕ)) → slice_get feeds k.feed ≡ Some s → langs_at feeds k ≡ Some ls → slice_get s.langs k.number ≡ Some ls
langs_in feeds k s ls there e = sym (under feeds k.feed s (λ q. slice_get q.langs k.number) there) ∙ e

pub langs_out : (feeds : List Shares) (k : Key) (s : Shares) (ls : List (List ℕ)) → slice_get feeds k.feed ≡ Some s → slice_get s.langs k.number ≡ Some ls → langs_at feeds k ≡ Some ls
langs_out feeds k s ls there e = under feeds k.feed s (λ q. slice_get q.langs k.number) there ∙ e

-- Maps by keys.
module _ {X : Type 0} (P : Key → X → Type 0) (k : Key) (x : X) (old new : List (Key × X)) (u : (q : Key) → found_at q new ≡ cond (eqb k.feed q.feed && eqb k.number q.number) (Some x) (found_at q old)) where
  -- what holds of all that is found holds with one more
  pub finds_more : P k x → ((q : Key) (y : X) → found_at q old ≡ Some y → P q y) → (q : Key) (y : X) → found_at q new ≡ Some y → P q y
  finds_more here h q y e = by (eqb k.feed q.feed && eqb k.number q.number) refl
    where
      by : (b : Bool) → (eqb k.feed q.feed && eqb k.number q.number) ≡ b → P q y
      by true t =
          let same : x ≡ y = one_value (found_at q new) x y (u q ∙ ap (λ b. cond b (Some x) (found_at q old)) t) e in
          let A : Key → Type 0 = λ z. P z x in
          let B : X → Type 0 = λ z. P q z in
          subst B same (subst A (same_key k q t) here)
      by false t = h q y (sym (u q ∙ ap (λ b. cond b (Some x) (found_at q old)) t) ∙ e)

pub finds_none : {X : Type 0} (P : Key → X → Type 0) (es : List (Key × X)) → es ≡ [] → (q : Key) (y : X) → found_at q es ≡ Some y → P q y
finds_none P es none q y e = absurd (let bad : None ≡ Some y = sym (ap (found_at q) none) ∙ e in cc)

-- the version of a key stands where it is put
stands_new : (feeds : List Shares) (k : Key) (vs ws : List (List ℕ)) (v : List ℕ) (n : ℕ) → version_at feeds k ≡ Some (Some v) → ws ≡ vs ++ v ∷ [] → n ≡ length vs → StandsAt feeds k ws n
stands_new feeds k vs ws v n at grown new w other =
    let same : Some v ≡ Some w = one_value (version_at feeds k) (Some v) (Some w) at other in
    at_new vs ws n v grown new ∙ same

stands_grown : (feeds : List Shares) (k : Key) (vs ws : List (List ℕ)) (n : ℕ) → Grows vs ws → StandsAt feeds k vs n → StandsAt feeds k ws n
stands_grown feeds k vs ws n g h v e = at_grown vs ws n v g (h v e)

-- what is found stays where it is when more are put behind
pub finds_grown : (feeds : List Shares) (known : List (Key × ℕ)) (vs ws : List (List ℕ)) → Grows vs ws → FindsVersions feeds known vs → FindsVersions feeds known ws
finds_grown feeds known vs ws g h k n e = stands_grown feeds k vs ws n g (h k n e)

pub versions_more : (feeds : List Shares) (k : Key) (old new : List (Key × ℕ)) (vs ws : List (List ℕ)) (v : List ℕ) (n : ℕ) → version_at feeds k ≡ Some (Some v) → ws ≡ vs ++ v ∷ [] → n ≡ length vs
    → ((q : Key) → found_at q new ≡ cond (eqb k.feed q.feed && eqb k.number q.number) (Some n) (found_at q old))
    → FindsVersions feeds old vs → FindsVersions feeds new ws × StandsAt feeds k ws n
versions_more feeds k old new vs ws v n at grown place u h =
    let stands : StandsAt feeds k ws n = stands_new feeds k vs ws v n at grown place in
    (finds_more (λ q m. StandsAt feeds q ws m) k n old new u stands (λ q m e. stands_grown feeds q vs ws m (grows_by vs ws v grown) (h q m e)), stands)

-- Candidates with places.
pub places_more : (vs ws : List (List ℕ)) → Grows vs ws → (os : List Offered) (ns : List ℕ) (o : Offered) (n : ℕ) → slice_get ws n ≡ Some o.candidate.standing.version → ArePlacedIn vs os ns → ArePlacedIn ws (os ++ o ∷ []) (ns ++ n ∷ [])
places_more vs ws g [] [] o n here h = (here, tt)
places_more vs ws g [] (m ∷ ns) o n here h = absurd h
places_more vs ws g (q ∷ os) [] o n here h = absurd h
places_more vs ws g (q ∷ os) (m ∷ ns) o n here h = (at_grown vs ws m q.candidate.standing.version g h.0, places_more vs ws g os ns o n here h.1)

-- there are as many places as candidates
places_count : (vs : List (List ℕ)) (os : List Offered) (ns : List ℕ) → ArePlacedIn vs os ns → length ns ≡ length os
places_count vs [] [] h = refl
places_count vs [] (n ∷ ns) h = absurd h
places_count vs (o ∷ os) [] h = absurd h
places_count vs (o ∷ os) (n ∷ ns) h = ap suc (places_count vs os ns h.1)

-- the places of all are within the numbers
pub all_within : (vs : List (List ℕ)) (ns : List VersionNumber) (os : List Offered) (places : List ℕ) → length ns ≡ length vs → ArePlacedIn vs os places → All (λ n. n < length ns) places
all_within vs ns [] [] same h = All-nil (λ n. n < length ns)
all_within vs ns [] (n ∷ places) same h = absurd h
all_within vs ns (o ∷ os) [] same h = absurd h
all_within vs ns (o ∷ os) (n ∷ places) same h =
    All-cons (λ m. m < length ns) n places (let w : n < length vs = slice_get_within vs n o.candidate.standing.version h.0 in omega (arith, w, same)) (all_within vs ns os places same h.1)

-- the place of a candidate, with the number there
at_place : (vs : List (List ℕ)) (ns : List VersionNumber) (os : List Offered) (places : List ℕ) → ArePlacedIn vs os places → (i : ℕ) (v : List ℕ) → slice_get (versions_in os) i ≡ Some v
    → (n : ℕ) × (slice_get vs n ≡ Some v) × (get_or (map (λ k. get_or ns k least) places) i least ≡ get_or ns n least)
at_place vs ns [] [] h i v e = cc
at_place vs ns [] (n ∷ places) h i v e = absurd h
at_place vs ns (o ∷ os) [] h i v e = absurd h
at_place vs ns (o ∷ os) (n ∷ places) h zero v e = (n, h.0 ∙ e, refl)
at_place vs ns (o ∷ os) (n ∷ places) h (suc i) v e = at_place vs ns os places h.1 i v e

-- the numbers at the places of candidates are those of their versions
pub numbers_placed : (vs : List (List ℕ)) (ns : List VersionNumber) (os : List Offered) (places : List ℕ) (ms : List VersionNumber) → AreNumbersOf vs ns → ArePlacedIn vs os places → ms ≡ map (λ k. get_or ns k least) places → AreNumbersOf (versions_in os) ms
numbers_placed vs ns os places ms numbers h is =
    let P : List VersionNumber → Type 0 = λ q. AreNumbersOf (versions_in os) q in
    subst P (sym is) (record {
      count = length-map places (λ k. get_or ns k least) ∙ places_count vs os places h ∙ sym (length-map os (λ (o : Offered). o.candidate.standing.version));
      first = λ i j v w e f.
          let a = at_place vs ns os places h i v e in
          let b = at_place vs ns os places h j w f in
          ap (λ (q : VersionNumber). nat_cmp q.first (get_or (map (λ k. get_or ns k least) places) j least).first) a.2 ∙ ap (λ (q : VersionNumber). nat_cmp (get_or ns a.0 least).first q.first) b.2
          ∙ numbers.first a.0 b.0 v w a.1 b.1;
      whole = λ i j v w e f.
          let a = at_place vs ns os places h i v e in
          let b = at_place vs ns os places h j w f in
          ap (λ (q : VersionNumber). nat_cmp q.whole (get_or (map (λ k. get_or ns k least) places) j least).whole) a.2 ∙ ap (λ (q : VersionNumber). nat_cmp (get_or ns a.0 least).whole q.whole) b.2
          ∙ numbers.whole a.0 b.0 v w a.1 b.1;
    })

-- one more that is lent
pub texts_more : (vs ws : List (Bor (List ℕ))) (b : Bor (List ℕ)) → ws ≡ vs ++ b ∷ [] → texts_of ws ≡ texts_of vs ++ b.now ∷ []
texts_more vs ws b e = ap texts_of e ∙ map-append (λ (v : Bor (List ℕ)). v.now) vs (b ∷ [])

-- What holds of mapped items.
pub All-into : {X Y : Type 0} (f : X → Y) (P : Y → Type 0) (xs : List X) → All P (map f xs) → All (λ x. P (f x)) xs
All-into f P [] h = All-nil (λ x. P (f x))
All-into f P (x ∷ xs) h = All-cons (λ y. P (f y)) x xs (All-head P (f x) (map f xs) h) (All-into f P xs (All-tail P (f x) (map f xs) h))

pub All-out : {X Y : Type 0} (f : X → Y) (P : Y → Type 0) (xs : List X) → All (λ x. P (f x)) xs → All P (map f xs)
All-out f P [] h = All-nil P
All-out f P (x ∷ xs) h = All-cons P (f x) (map f xs) (All-head (λ y. P (f y)) x xs h) (All-out f P xs (All-tail (λ y. P (f y)) x xs h))

-- what holds of all holds of the one at a place
pub All-turn : {X : Type 0} (P : X → Type 0) (xs : List X) (k : ℕ) (x : X) → All P xs → (k < length xs) × (x ≡ get_or xs k x) → P x
All-turn P xs k x h t = subst P (sym t.1) (h k x t.0)

-- the element at an index, where it is lent
pub at_index : {X : Type 0} (xs : List X) (n : ℕ) (x y : X) → n < length xs → x ≡ get_or xs n x → y ≡ x → slice_get xs n ≡ Some y
at_index xs n x y lt is same = slice_get-get_or xs n x lt ∙ ap (λ q. Some q) (sym is ∙ sym same)
