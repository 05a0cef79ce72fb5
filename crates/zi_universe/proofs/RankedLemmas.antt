-- Sorted candidates that stand at different places each stand before all behind them.
use Rattle.std.proofs.Common.{◌≡◌, ◌≢◌, ◌⊎◌, inl, inr, ℕ, zero, suc, ◌+◌, ◌<◌, ◌≤◌, Bool, true, false, ◌&&◌, ◌||◌, eqb, cond, List, [], ◌∷◌, ◌++◌, map, filter, length, get_or, take, All, bytes_eq, refl, sym, ap, subst, ◌∙◌, arith}
use Rattle.std.specs.Prelude.{IsPermutation, IsSortedBy, slice_get, Some, None}
use Rattle.std.specs.Ordering.{is_lt}
use Rattle.std.specs.List.{IsDistinct, AllByRecursion}
use Rattle.std.specs.Option.{option_map}
use Rattle.std.proofs.lemmas.Option.{slice_get-map, slice_get-get_or}
use Rattle.std.proofs.lemmas.List.{get_or-map, length-append, length-map, take_more}
use Rattle.std.proofs.lemmas.List.Elements.{All-push}
use Rattle.std.proofs.lemmas.List.Sorted.{ranks_by, sorted_far, IsPermutation-map, IsPermutation-refl, All-permutation}
use Rattle.std.proofs.lemmas.Map.Keys.{IsDistinct-IsPermutation, IsDistinct-head, IsDistinct-tail, IsDistinct-cons, apart_from_distinct, IsDistinct-from_apart}
use Rattle.std.proofs.lemmas.Bool.Decides.{nat_tests}
use Rattle.std.proofs.lemmas.Bool.{both_ways}
use Rattle.zi_policy.specs.declared.types.Policy.{Policy}
use Rattle.zi_policy.specs.Platform.{listed}
use Rattle.zi_rank.specs.Laws.{RanksAreStrict}
use Rattle.zi_rank.specs.Rank.{rank_cmp}
use Rattle.zi_rank.specs.declared.rating.Rating.{Rating}
use Rattle.zi_rank.specs.declared.rating.VersionNumber.{VersionNumber}
use Rattle.zi_rank.specs.declared.types.Standing.{Standing}
use Rattle.zi_rank.specs.Ratings.{rating_of, Numbered, numbered_cmp}
use Rattle.zi_rank.specs.RankOrder.{rank_total}
use Rattle.zi_rank.proofs.RankLemmas.{numbered_ranks}
use Rattle.zi_feed.specs.declared.shares.Shares.{Shares}
use Rattle.zi_feed.specs.declared.feed.Feed.{Feed}
use Rattle.zi_parts.specs.declared.types.Impl.{Impl}
use Rattle.zi_universe.specs.declared.types.Candidate.{Candidate}
use Rattle.zi_universe.specs.declared.offers.Offered.{Offered}
use Rattle.zi_universe.specs.declared.ranking.RatedCandidate.{RatedCandidate}
use Rattle.zi_universe.specs.declared.types.Requirement.{Requirement}
use Rattle.zi_universe.specs.Naming.{Uri, Uris, AreApart}
use Rattle.zi_universe.specs.Candidates.{Store, standing_of, candidate_of, offered_from, all_impls, is_admitted, admitted_by, admitted, AreRanked}
use Rattle.zi_universe.specs.Tables.{addresses}
use Rattle.zi_universe.specs.Stages.{place_of, alike, ArePlaced, IsSorting}
use Rattle.zi_universe.specs.Offering.{candidates_of, IsNumbered, AreNumbered, versions_in, AreNumbersOf, HaveRatings, least}
use Rattle.zi_universe.proofs.KeyLemmas.{All-into, All-out}
use Rattle.zi_universe.proofs.NamingLemmas.{bytes_eq-true, bytes_eq-refl, bytes_eq-false, listed-cons, listed-Contains, map-append}

-- Two places are alike, or not, either way.
bytes_eq-flips : (x y : Uri) → bytes_eq x y ≡ bytes_eq y x
bytes_eq-flips x y = by (bytes_eq x y) (bytes_eq y x) refl refl
  where
    by : (b c : Bool) → bytes_eq x y ≡ b → bytes_eq y x ≡ c → b ≡ c
    by true true e f = refl
    by false false e f = refl
    by true false e f = absurd (bytes_eq-false y x f (sym (bytes_eq-true x y e)))
    by false true e f = absurd (bytes_eq-false x y e (sym (bytes_eq-true y x f)))

eqb-flips : (m n : ℕ) → eqb m n ≡ eqb n m
eqb-flips m n = grind (arith, nat_tests)

eqb-less : (m n : ℕ) → m < n → eqb m n ≡ false
eqb-less m n lt = grind (arith, nat_tests)

flips : (a b : Uri × ℕ) → alike a b ≡ alike b a
flips a b = ap (λ q. q && eqb a.1 b.1) (bytes_eq-flips a.0 b.0) ∙ ap (λ q. bytes_eq b.0 a.0 && q) (eqb-flips a.1 b.1)

-- the places differ in any order
placed_sorted : (cs ds : List Candidate) → IsPermutation cs ds → ArePlaced cs → ArePlaced ds
placed_sorted cs ds same placed = IsDistinct-IsPermutation alike flips (map place_of cs) (map place_of ds) (IsPermutation-map place_of cs ds same) placed

pub parts_differ : (a b : Uri × ℕ) → alike a b ≡ false → (a.0 ≢ b.0) ⊎ (a.1 ≢ b.1)
parts_differ a b n = by (bytes_eq a.0 b.0) refl
  where
    by : (t : Bool) → bytes_eq a.0 b.0 ≡ t → (a.0 ≢ b.0) ⊎ (a.1 ≢ b.1)
    by true e = let f : eqb a.1 b.1 ≡ false = ap (λ q. q && eqb a.1 b.1) (sym e) ∙ n in inr (λ q. grind (arith, nat_tests))
    by false e = inl (bytes_eq-false a.0 b.0 e)

ranked_pairs : RanksAreStrict → (p : Policy) (cs : List Candidate) → IsSortedBy (λ c d. is_lt (rank_cmp p c.standing d.standing)) cs → ArePlaced cs → AreRanked p cs
ranked_pairs strict p cs up placed i j d lt in_list =
    let c : Candidate = get_or cs i d in
    let e : Candidate = get_or cs j d in
    let apart : alike (get_or (map place_of cs) i (place_of d)) (get_or (map place_of cs) j (place_of d)) ≡ false =
    apart_from_distinct alike (map place_of cs) i j (place_of d) placed lt (omega (arith, in_list, length-map cs place_of)) in
    let far : alike (place_of c) (place_of e) ≡ false =
    ap (λ q. alike q (place_of e)) (sym (get_or-map place_of cs i d (place_of d) (omega arith)))
    ∙ ap (alike (get_or (map place_of cs) i (place_of d))) (sym (get_or-map place_of cs j d (place_of d) in_list)) ∙ apart in
    elim ((strict p).one_first c.standing e.standing (parts_differ (place_of c) (place_of e) far)) [
      | inl b ↦ b
      | inr b ↦ absurd (both_ways (is_lt (rank_cmp p e.standing c.standing)) (sorted_far (λ (x y : Candidate). is_lt (rank_cmp p x.standing y.standing)) (ranks_by (rank_total p) (λ (x : Candidate). x.standing)) cs up i j d (omega arith) in_list) (ap is_lt b))
    ]

sorting : RanksAreStrict → (p : Policy) (cs ds : List Candidate) → IsPermutation cs ds → IsSortedBy (λ c d. is_lt (rank_cmp p c.standing d.standing)) ds → IsSorting p cs ds
sorting strict p cs ds same up = record { same = same; ranked = λ placed. ranked_pairs strict p ds up (placed_sorted cs ds same placed) }

-- Candidates with their ratings, and with the numbers of their versions.
record IsRated (p : Policy) (vs : List (List ℕ)) (ns : List VersionNumber) (r : RatedCandidate) : Type 0 where
  rating : r.rating ≡ rating_of p r.one.candidate.standing
  place : ℕ
  version : slice_get vs place ≡ Some r.one.candidate.standing.version
  number : r.number ≡ get_or ns place least

-- rated are so many of them, of which these are the numbers
pub record AreRated (p : Policy) (os : List Offered) (ns : List VersionNumber) (rs : List RatedCandidate) : Type 0 where
  pub same : map (λ (r : RatedCandidate). r.one) rs ≡ os
  pub numbers : map (λ (r : RatedCandidate). r.number) rs ≡ take (length os) ns
  pub ratings : HaveRatings p rs

pub none_rated : (p : Policy) (ns : List VersionNumber) (rs : List RatedCandidate) → rs ≡ [] → AreRated p [] ns rs
none_rated p ns rs e =
    let P : List RatedCandidate → Type 0 = λ q. AreRated p [] ns q in
    subst P (sym e) (record { same = refl; numbers = refl; ratings = λ k d lt. absurd (omega (arith, lt)) })

pub one_rated : (p : Policy) (os : List Offered) (ns : List VersionNumber) (rs ss : List RatedCandidate) (r : RatedCandidate) → ss ≡ rs ++ r ∷ [] → length os < length ns
    → r.rating ≡ rating_of p r.one.candidate.standing → r.number ≡ get_or ns (length os) least → AreRated p os ns rs → AreRated p (os ++ r.one ∷ []) ns ss
one_rated p os ns rs ss r e within rating number h =
    let P : List RatedCandidate → Type 0 = λ q. AreRated p (os ++ r.one ∷ []) ns q in
    subst P (sym e) (record {
      same = map-append (λ (q : RatedCandidate). q.one) rs (r ∷ []) ∙ ap (λ q. q ++ r.one ∷ []) h.same;
      numbers = map-append (λ (q : RatedCandidate). q.number) rs (r ∷ []) ∙ (ap (λ q. q ++ r.number ∷ []) h.numbers ∙ (ap (λ q. take (length os) ns ++ q ∷ []) number
          ∙ (sym (take_more ns (length os) least within) ∙ ap (λ q. take q ns) (let a = length-append os (r.one ∷ []) in omega (arith, a)))));
      ratings = All-push (λ (q : RatedCandidate). q.rating ≡ rating_of p q.one.candidate.standing) rs r h.ratings rating;
    })

versions_back : (rs : List RatedCandidate) → versions_in (map (λ (r : RatedCandidate). r.one) rs) ≡ map (λ (r : RatedCandidate). r.one.candidate.standing.version) rs
versions_back [] = refl
versions_back (r ∷ rs) = ap (λ q. r.one.candidate.standing.version ∷ q) (versions_back rs)

all_rated : (p : Policy) (os : List Offered) (ns : List VersionNumber) (rs : List RatedCandidate) → map (λ (r : RatedCandidate). r.one) rs ≡ os → map (λ (r : RatedCandidate). r.number) rs ≡ ns → HaveRatings p rs → All (IsRated p (versions_in os) ns) rs
all_rated p os ns rs ones numbers ratings = λ k d lt.
    let version_of : RatedCandidate → List ℕ = λ r. r.one.candidate.standing.version in
    record {
      rating = ratings k d lt;
      place = k;
      version = ap (λ q. slice_get q k) (ap versions_in (sym ones) ∙ versions_back rs) ∙ (slice_get-map version_of rs k ∙ ap (option_map version_of) (slice_get-get_or rs k d lt));
      number = sym (ap (λ q. get_or q k least) (sym numbers) ∙ get_or-map (λ (r : RatedCandidate). r.number) rs k d least lt);
    }

abbrev of_rated : RatedCandidate → Numbered
of_rated r = (r.rating, r.number, r.one.candidate.standing)

abbrev candidate_in : RatedCandidate → Candidate
candidate_in r = r.one.candidate

-- by ratings and numbers two stand as by their ranks
rated_pair : (p : Policy) (vs : List (List ℕ)) (ns : List VersionNumber) → AreNumbersOf vs ns → (r s : RatedCandidate) → IsRated p vs ns r → IsRated p vs ns s
    → numbered_cmp (of_rated r) (of_rated s) ≡ rank_cmp p r.one.candidate.standing s.one.candidate.standing
rated_pair p vs ns numbers r s a b =
    let c : Standing = r.one.candidate.standing in
    let d : Standing = s.one.candidate.standing in
    let m : VersionNumber = get_or ns a.place least in
    let n : VersionNumber = get_or ns b.place least in
    ap (λ (q : Rating). numbered_cmp (q, r.number, c) (s.rating, s.number, d)) a.rating
    ∙ ap (λ (q : VersionNumber). numbered_cmp (rating_of p c, q, c) (s.rating, s.number, d)) a.number
    ∙ ap (λ (q : Rating). numbered_cmp (rating_of p c, m, c) (q, s.number, d)) b.rating
    ∙ ap (λ (q : VersionNumber). numbered_cmp (rating_of p c, m, c) (rating_of p d, q, d)) b.number
    ∙ numbered_ranks p c d m n (numbers.first b.place a.place d.version c.version b.version a.version) (numbers.whole b.place a.place d.version c.version b.version a.version)

rated_up : (p : Policy) (vs : List (List ℕ)) (ns : List VersionNumber) → AreNumbersOf vs ns → (rs : List RatedCandidate) → All (IsRated p vs ns) rs
    → IsSortedBy (λ x y. is_lt (numbered_cmp (of_rated x) (of_rated y))) rs → IsSortedBy (λ c d. is_lt (rank_cmp p c.standing d.standing)) (map candidate_in rs)
rated_up p vs ns numbers rs rated up k d low high =
    let in_list : k + 1 < length rs = omega (arith, high, length-map rs candidate_in) in
    let e : RatedCandidate = record { rating = rating_of p d.standing; number = least; one = record { candidate = d; feed = 0; version = None; langs = 0; level = 0 } } in
    let x : RatedCandidate = get_or rs (k + 1) e in
    let y : RatedCandidate = get_or rs k e in
    ap (λ (q : Candidate). is_lt (rank_cmp p q.standing (get_or (map candidate_in rs) k d).standing)) (get_or-map candidate_in rs (k + 1) e d in_list)
    ∙ ap (λ (q : Candidate). is_lt (rank_cmp p x.one.candidate.standing q.standing)) (get_or-map candidate_in rs k e d (omega (arith, in_list)))
    ∙ ap is_lt (sym (rated_pair p vs ns numbers x y (rated (k + 1) e in_list) (rated k e (omega (arith, in_list)))))
    ∙ up k e low in_list

unrated_all : (rs : List RatedCandidate) → candidates_of (map (λ (r : RatedCandidate). r.one) rs) ≡ map candidate_in rs
unrated_all [] = refl
unrated_all (r ∷ rs) = ap (λ q. r.one.candidate ∷ q) (unrated_all rs)

-- candidates that were rated, and sorted by that
module _ (p : Policy) (os : List Offered) (ns : List VersionNumber) (rs ss : List RatedCandidate) (ts : List Offered)
    (ones : map (λ (r : RatedCandidate). r.one) rs ≡ os) (same : IsPermutation rs ss) (back : ts ≡ map (λ (r : RatedCandidate). r.one) ss) where
  pub rated_sorting : RanksAreStrict → AreNumbersOf (versions_in os) ns → map (λ (r : RatedCandidate). r.number) rs ≡ ns → HaveRatings p rs → IsSortedBy (λ x y. is_lt (numbered_cmp (of_rated x) (of_rated y))) ss
      → IsSorting p (candidates_of os) (candidates_of ts)
  rated_sorting strict numbers numbered ratings up =
      let P : List Candidate → Type 0 = λ q. IsPermutation q (map candidate_in ss) in
      let rated : All (IsRated p (versions_in os) ns) ss = All-permutation (IsRated p (versions_in os) ns) rs ss same (all_rated p os ns rs ones numbered ratings) in
      let moved : IsPermutation (candidates_of os) (map candidate_in ss) = subst P (sym (unrated_all rs) ∙ ap candidates_of ones) (IsPermutation-map candidate_in rs ss same) in
      let end : candidates_of ts ≡ map candidate_in ss = ap candidates_of back ∙ unrated_all ss in
      subst (IsSorting p (candidates_of os)) (sym end) (sorting strict p (candidates_of os) (map candidate_in ss) moved (rated_up p (versions_in os) ns numbers ss rated up))

  pub rated_numbered : (feeds : List Shares) → AreNumbered feeds os → AreNumbered feeds ts
  rated_numbered feeds h =
      let one : RatedCandidate → Offered = λ r. r.one in
      let Q : Offered → Type 0 = λ o. IsNumbered feeds o in
      let all : All Q (map one rs) = subst (All Q) (sym ones) h in
      subst (All Q) (sym back) (All-out one Q ss (All-permutation (λ r. Q (one r)) rs ss same (All-into one Q rs all)))

-- Those of feeds of different addresses stand at different places.
weaker : {X : Type 0} (P Q : X → Type 0) → ((x : X) → P x → Q x) → (xs : List X) → AllByRecursion P xs → AllByRecursion Q xs
weaker P Q f [] a = tt
weaker P Q f (x ∷ xs) a = (f x a.0, weaker P Q f xs a.1)

joins : (x : Uri × ℕ) (zs ys : List (Uri × ℕ)) → AllByRecursion (λ y. alike x y ≡ false) zs → AllByRecursion (λ y. alike x y ≡ false) ys → AllByRecursion (λ y. alike x y ≡ false) (zs ++ ys)
joins x [] ys a b = b
joins x (z ∷ zs) ys a b = (a.0, joins x zs ys a.1 b)

IsDistinct-append : (xs ys : List (Uri × ℕ)) → IsDistinct alike xs → IsDistinct alike ys → AllByRecursion (λ x. AllByRecursion (λ y. alike x y ≡ false) ys) xs → IsDistinct alike (xs ++ ys)
IsDistinct-append [] ys d e far = e
IsDistinct-append (x ∷ xs) ys d e far = IsDistinct-cons alike x (xs ++ ys) (joins x xs ys (IsDistinct-head alike x xs d) far.0) (IsDistinct-append xs ys (IsDistinct-tail alike x xs d) e far.1)

none_distinct : IsDistinct alike []
none_distinct = IsDistinct-from_apart alike [] (λ i j d lt within. absurd (omega (arith, within)))

-- in this feed, at this place or behind it
abbrev IsFrom : Uri → ℕ → Uri × ℕ → Type 0
IsFrom feed n k = (k.0 ≡ feed) × (n ≤ k.1)

module _ (req : Requirement) (p : Policy) (stored : Store) (interface : Uri) where
  from_here : (feed : Uri) (n : ℕ) (is : List Impl) → AllByRecursion (IsFrom feed n) (map place_of (filter (is_admitted req p interface) (offered_from p stored interface feed n is)))
  unfolding standing_of
  from_here feed n [] = tt
  from_here feed n (i ∷ is) = by (is_admitted req p interface (candidate_of p stored interface feed n i)) (weaker (IsFrom feed (n + 1)) (IsFrom feed n) (λ k h. (h.0, omega (arith, h.1))) (map place_of (filter (is_admitted req p interface) (offered_from p stored interface feed (n + 1) is))) (from_here feed (n + 1) is))
    where
      by : (b : Bool) → AllByRecursion (IsFrom feed n) (map place_of (filter (is_admitted req p interface) (offered_from p stored interface feed (n + 1) is)))
          → AllByRecursion (IsFrom feed n) (map place_of (cond b (candidate_of p stored interface feed n i ∷ filter (is_admitted req p interface) (offered_from p stored interface feed (n + 1) is)) (filter (is_admitted req p interface) (offered_from p stored interface feed (n + 1) is))))
      by true a = ((refl, omega arith), a)
      by false a = a

  apart_here : (feed : Uri) (n : ℕ) (is : List Impl) → IsDistinct alike (map place_of (filter (is_admitted req p interface) (offered_from p stored interface feed n is)))
  unfolding standing_of
  apart_here feed n [] = none_distinct
  apart_here feed n (i ∷ is) = by (is_admitted req p interface (candidate_of p stored interface feed n i)) (apart_here feed (n + 1) is)
      (weaker (IsFrom feed (n + 1)) (λ k. alike (feed, n) k ≡ false) (λ k h. far k h.1) (map place_of (filter (is_admitted req p interface) (offered_from p stored interface feed (n + 1) is))) (from_here feed (n + 1) is))
    where
      far : (k : Uri × ℕ) → n + 1 ≤ k.1 → alike (feed, n) k ≡ false
      far k le = ap (λ q. bytes_eq feed k.0 && q) (eqb-less n k.1 (omega (arith, le))) ∙ nothing (bytes_eq feed k.0)
        where
          nothing : (b : Bool) → (b && false) ≡ false
          nothing true = refl
          nothing false = refl

      by : (b : Bool) → IsDistinct alike (map place_of (filter (is_admitted req p interface) (offered_from p stored interface feed (n + 1) is)))
          → AllByRecursion (λ k. alike (feed, n) k ≡ false) (map place_of (filter (is_admitted req p interface) (offered_from p stored interface feed (n + 1) is)))
          → IsDistinct alike (map place_of (cond b (candidate_of p stored interface feed n i ∷ filter (is_admitted req p interface) (offered_from p stored interface feed (n + 1) is)) (filter (is_admitted req p interface) (offered_from p stored interface feed (n + 1) is))))
      by true d a = IsDistinct-cons alike (feed, n) (map place_of (filter (is_admitted req p interface) (offered_from p stored interface feed (n + 1) is))) a d
      by false d a = d

  -- in a feed of one of these addresses
  from_feeds : (feeds : List Feed) → AllByRecursion (λ k. listed k.0 (addresses feeds) ≡ true) (map place_of (admitted req p stored interface feeds))
  from_feeds [] = tt
  from_feeds (f ∷ fs) = places_of f fs (from_here f.uri 0 (all_impls stored.packages f)) (from_feeds fs)
    where
      all : (ks ls : List (Uri × ℕ)) (us : Uris) (u : Uri) → AllByRecursion (IsFrom u 0) ks → AllByRecursion (λ k. listed k.0 us ≡ true) ls → AllByRecursion (λ k. listed k.0 (u ∷ us) ≡ true) (ks ++ ls)
      all [] [] us u a b = tt
      all [] (l ∷ ls) us u a b = (listed-cons l.0 u us b.0, all [] ls us u a b.1)
      all (k ∷ ks) ls us u a b = (ap (λ q. q || listed k.0 us) (ap (λ q. bytes_eq q u) a.0.0 ∙ bytes_eq-refl u), all ks ls us u a.1 b)

      places_of : (g : Feed) (gs : List Feed) → AllByRecursion (IsFrom g.uri 0) (map place_of (admitted_by req p stored interface g))
          → AllByRecursion (λ k. listed k.0 (addresses gs) ≡ true) (map place_of (admitted req p stored interface gs))
          → AllByRecursion (λ k. listed k.0 (addresses (g ∷ gs)) ≡ true) (map place_of (admitted req p stored interface (g ∷ gs)))
      places_of g gs a b =
          let P : List (Uri × ℕ) → Type 0 = λ q. AllByRecursion (λ k. listed k.0 (addresses (g ∷ gs)) ≡ true) q in
          subst P (sym (map-append place_of (admitted_by req p stored interface g) (admitted req p stored interface gs)))
          (all (map place_of (admitted_by req p stored interface g)) (map place_of (admitted req p stored interface gs)) (addresses gs) g.uri a b)

  pub admitted_placed : (feeds : List Feed) → AreApart (addresses feeds) → ArePlaced (admitted req p stored interface feeds)
  admitted_placed [] apart = none_distinct
  admitted_placed (f ∷ fs) apart =
      let P : List (Uri × ℕ) → Type 0 = λ q. IsDistinct alike q in
      subst P (sym (map-append place_of (admitted_by req p stored interface f) (admitted req p stored interface fs)))
      (IsDistinct-append (map place_of (admitted_by req p stored interface f)) (map place_of (admitted req p stored interface fs))
      (apart_here f.uri 0 (all_impls stored.packages f)) (admitted_placed fs (λ i j d lt within. apart (suc i) (suc j) d (omega (arith, lt)) (omega (arith, within))))
      (far_all (map place_of (admitted_by req p stored interface f)) (from_here f.uri 0 (all_impls stored.packages f))))
    where
      other : (u : Uri) → listed u (addresses fs) ≡ true → f.uri ≢ u
      other u l e =
          let c = listed-Contains u (addresses fs) l in
          apart zero (suc c.0) u (omega arith) (omega (arith, c.1)) (e ∙ sym c.2)

      far_one : (k : Uri × ℕ) → k.0 ≡ f.uri → (l : Uri × ℕ) → listed l.0 (addresses fs) ≡ true → alike k l ≡ false
      far_one k at l m = by (bytes_eq k.0 l.0) refl
        where
          by : (b : Bool) → bytes_eq k.0 l.0 ≡ b → alike k l ≡ false
          by true e = absurd (other l.0 m (sym at ∙ bytes_eq-true k.0 l.0 e))
          by false e = ap (λ q. q && eqb k.1 l.1) e

      far_all : (ks : List (Uri × ℕ)) → AllByRecursion (IsFrom f.uri 0) ks → AllByRecursion (λ k. AllByRecursion (λ l. alike k l ≡ false) (map place_of (admitted req p stored interface fs))) ks
      far_all [] a = tt
      far_all (k ∷ ks) a = (weaker (λ l. listed l.0 (addresses fs) ≡ true) (λ l. alike k l ≡ false) (far_one k a.0.0) (map place_of (admitted req p stored interface fs)) (from_feeds fs), far_all ks a.1)

-- of fewer than two, each stands before all behind it
pub few_sorting : (p : Policy) (os : List Offered) → length os < 2 → IsSorting p (candidates_of os) (candidates_of os)
few_sorting p os few = record {
  same = IsPermutation-refl (candidates_of os);
  ranked = λ placed i j d lt within. absurd (let e : length (candidates_of os) ≡ length os = length-map os (λ (o : Offered). o.candidate) in omega (arith, few, lt, within, e));
}
