-- What feeds offer, each candidate with its numbers.
use Rattle.std.proofs.Common.{◌≡◌, ℕ, zero, suc, ◌+◌, ◌<◌, ◌≤◌, Bool, true, false, List, [], ◌∷◌, ◌++◌, length, filter, drop, get_or, Option, Some, None, refl, sym, ap, subst, ◌∙◌, arith, append-nil, append_assoc, length-append}
use Rattle.std.specs.Prelude.{slice_get, if◌then◌else◌}
use Rattle.std.specs.List.{cons_option}
use Rattle.std.proofs.Math.Seq.{drop-cons}
use Rattle.std.proofs.lemmas.List.{map-append, drop_all}
use Rattle.std.proofs.lemmas.Option.{same_Some}
use Rattle.std.proofs.lemmas.List.Elements.{All-nil, All-push, All-weaker}
use Rattle.zi_policy.specs.declared.types.Policy.{Policy}
use Rattle.zi_parts.specs.declared.types.Impl.{Impl}
use Rattle.zi_parts.specs.declared.types.Native.{Native}
use Rattle.zi_feed.specs.declared.feed.Feed.{Feed}
use Rattle.zi_feed.specs.declared.shares.Numbers.{Numbers}
use Rattle.zi_feed.specs.declared.shares.NativeNumbers.{NativeNumbers}
use Rattle.zi_feed.specs.declared.shares.Shares.{Shares}
use Rattle.zi_feed.specs.Shares.{AreLevels, HasNumbers, HasNativeNumbers}
use Rattle.zi_packages.specs.declared.types.PackageRow.{PackageRow}
use Rattle.zi_packages.specs.Natives.{row_impl}
use Rattle.zi_feed.proofs.ShareLaws.{at_new}
use Rattle.zi_universe.specs.declared.types.Candidate.{Candidate}
use Rattle.zi_universe.specs.declared.types.Requirement.{Requirement}
use Rattle.zi_universe.specs.declared.offers.Offered.{Offered}
use Rattle.zi_universe.specs.Naming.{Uri, Uris}
use Rattle.zi_universe.specs.Candidates.{Store, standing_of}
use Rattle.zi_universe.specs.Tables.{find_feed, feeds_at, as_it_is, held_from, held_by, held}
use Rattle.zi_universe.specs.Offering.{candidates_of, given, IsNumbered, AreNumbered}
use Rattle.zi_text.proofs.ListLaws.{at_front}

-- One candidate.
given_is : (test : Candidate → Bool) (x c : Candidate) → Some c ≡ given test x → c ≡ x
given_is test x c e = by (test x) refl
  where
    by : (b : Bool) → test x ≡ b → c ≡ x
    by true t = let same : Some c ≡ Some x = e ∙ ap (λ b. if b then Some x else None) t in cc
    by false t = let bad : Some c ≡ None = e ∙ ap (λ b. if b then Some x else None) t in cc

as_numbered : (feeds : List Shares) (s : Shares) (at : ℕ) (n : Numbers) (p : Policy) (stored : Store) (interface uri : Uri) (place : ℕ) (i : Impl) → slice_get feeds at ≡ Some s → AreLevels s.levels
    → HasNumbers s n i → IsNumbered feeds (record { candidate = as_it_is p stored interface uri place i; feed = at; version = Some n.version; langs = n.langs; level = n.level })
unfolding standing_of
as_numbered feeds s at n p stored interface uri place i there levels h =
    let P : ℕ → Type 0 = λ q. slice_get s.versions q ≡ Some (Some i.version) in
    record { shares = s; there = there; levels = levels; version = λ m e. subst P (same_Some n.version m e) h.version; langs = h.langs; level = h.level }

pub given_numbered : (feeds : List Shares) (s : Shares) (at : ℕ) (n : Numbers) (p : Policy) (stored : Store) (interface uri : Uri) (place : ℕ) (i : Impl) (test : Candidate → Bool) (c : Candidate)
    → slice_get feeds at ≡ Some s → AreLevels s.levels → HasNumbers s n i → Some c ≡ given test (as_it_is p stored interface uri place i)
    → IsNumbered feeds (record { candidate = c; feed = at; version = Some n.version; langs = n.langs; level = n.level })
given_numbered feeds s at n p stored interface uri place i test c there levels h e =
    let P : Candidate → Type 0 = λ q. IsNumbered feeds (record { candidate = q; feed = at; version = Some n.version; langs = n.langs; level = n.level }) in
    subst P (sym (given_is test (as_it_is p stored interface uri place i) c e)) (as_numbered feeds s at n p stored interface uri place i there levels h)

-- One row for a package.
no_number : (m : ℕ) → None ≡ Some m → ⊥
no_number m e = cc

row_numbered : (feeds : List Shares) (s : Shares) (at : ℕ) (n : NativeNumbers) (p : Policy) (stored : Store) (interface uri : Uri) (place : ℕ) (i : Native) (r : PackageRow) → slice_get feeds at ≡ Some s → AreLevels s.levels
    → HasNativeNumbers s n i → IsNumbered feeds (record { candidate = as_it_is p stored interface uri place (row_impl i r); feed = at; version = None; langs = n.langs; level = n.level })
unfolding standing_of row_impl
row_numbered feeds s at n p stored interface uri place i r there levels h =
    record { shares = s; there = there; levels = levels; version = λ m e. absurd (no_number m e); langs = h.langs; level = h.level }

pub given_row : (feeds : List Shares) (s : Shares) (at : ℕ) (n : NativeNumbers) (p : Policy) (stored : Store) (interface uri : Uri) (place : ℕ) (i : Native) (r : PackageRow) (j : Impl) (test : Candidate → Bool) (c : Candidate)
    → slice_get feeds at ≡ Some s → AreLevels s.levels → HasNativeNumbers s n i → j ≡ row_impl i r → Some c ≡ given test (as_it_is p stored interface uri place j)
    → IsNumbered feeds (record { candidate = c; feed = at; version = None; langs = n.langs; level = n.level })
given_row feeds s at n p stored interface uri place i r j test c there levels h made e =
    let P : Candidate → Type 0 = λ q. IsNumbered feeds (record { candidate = q; feed = at; version = None; langs = n.langs; level = n.level }) in
    subst P (sym (given_is test (as_it_is p stored interface uri place j) c e ∙ ap (as_it_is p stored interface uri place) made)) (row_numbered feeds s at n p stored interface uri place i r there levels h)

pub one_more : (old new : List Offered) (o : Offered) → new ≡ old ++ o ∷ [] → candidates_of new ≡ candidates_of old ++ o.candidate ∷ []
one_more old new o e = ap candidates_of e ∙ map-append (λ (q : Offered). q.candidate) old (o ∷ [])

pub numbered_one : (feeds : List Shares) (old new : List Offered) (o : Offered) → new ≡ old ++ o ∷ [] → IsNumbered feeds o → AreNumbered feeds old → AreNumbered feeds new
numbered_one feeds old new o e h all = subst (λ q. AreNumbered feeds q) (sym e) (All-push (IsNumbered feeds) old o all h)

-- the candidate at a place is there, or isn't
pub none_given : (xs : List Candidate) (o : Option Candidate) → o ≡ None → xs ≡ xs ++ cons_option o []
none_given xs o e = sym (append-nil xs) ∙ ap (λ q. xs ++ cons_option q []) (sym e)

pub some_given : (xs ys : List Candidate) (o : Option Candidate) (c : Candidate) → o ≡ Some c → ys ≡ xs ++ c ∷ [] → ys ≡ xs ++ cons_option o []
some_given xs ys o c e grown = grown ∙ ap (λ q. xs ++ cons_option q []) (sym e)

-- One feed more.
numbered_wider : (feeds : List Shares) (s : Shares) (o : Offered) → IsNumbered feeds o → IsNumbered (feeds ++ s ∷ []) o
numbered_wider feeds s o h = record { shares = h.shares; there = at_front feeds (s ∷ []) o.feed h.shares h.there; levels = h.levels; version = h.version; langs = h.langs; level = h.level }

pub feed_more : (old new : List Shares) (s : Shares) (os : List Offered) → new ≡ old ++ s ∷ [] → AreNumbered old os → AreNumbered new os
feed_more old new s os e h =
    subst (λ q. AreNumbered q os) (sym e) (All-weaker (IsNumbered old) (IsNumbered (old ++ s ∷ [])) (numbered_wider old s) os h)

pub feed_new : (old new : List Shares) (n : ℕ) (s t : Shares) → new ≡ old ++ s ∷ [] → n ≡ length old → s ≡ t → slice_get new n ≡ Some t
feed_new old new n s t e l same = at_new old new n s e l ∙ ap (λ q. Some q) same

-- The implementations of a feed, one by one.
step : (test : Candidate → Bool) (x : Candidate) (xs : List Candidate) → filter test (x ∷ xs) ≡ cons_option (given test x) [] ++ filter test xs
step test x xs = by (test x) refl
  where
    by : (b : Bool) → test x ≡ b → filter test (x ∷ xs) ≡ cons_option (given test x) [] ++ filter test xs
    by true t = ap (λ b. if b then x ∷ filter test xs else filter test xs) t ∙ sym (ap (λ b. cons_option (if b then Some x else None) [] ++ filter test xs) t)
    by false t = ap (λ b. if b then x ∷ filter test xs else filter test xs) t ∙ sym (ap (λ b. cons_option (if b then Some x else None) [] ++ filter test xs) t)

module _ (req : Requirement) (p : Policy) (stored : Store) (interface uri : Uri) (test : Candidate → Bool) where
  drop_next : (is : List Impl) (n : ℕ) (i : Impl) → slice_get is n ≡ Some i → drop n is ≡ i ∷ drop (n + 1) is
  drop_next is n i e = let m : suc n ≡ n + 1 = omega arith in drop_from is n i e ∙ ap (λ k. i ∷ drop k is) m
    where
      drop_from : (is : List Impl) (n : ℕ) (i : Impl) → slice_get is n ≡ Some i → drop n is ≡ i ∷ drop (suc n) is
      drop_from [] n i e = (cc)
      drop_from (j ∷ is) zero i e = (cc)
      drop_from (j ∷ is) (suc n) i e = drop_from is n i e

  pub offers_next : (is : List Impl) (n : ℕ) (i : Impl) (before now total : List Candidate) → slice_get is n ≡ Some i
      → now ≡ before ++ cons_option (given test (as_it_is p stored interface uri n i)) []
      → before ++ filter test (held_from p stored interface uri n (drop n is)) ≡ total
      → now ++ filter test (held_from p stored interface uri (n + 1) (drop (n + 1) is)) ≡ total
  offers_next is n i before now total at grown kept =
      let x : Candidate = as_it_is p stored interface uri n i in
      let rest : List Candidate = held_from p stored interface uri (n + 1) (drop (n + 1) is) in
      ap (λ q. q ++ filter test rest) grown
      ∙ append_assoc before (cons_option (given test x) []) (filter test rest)
      ∙ ap (λ q. before ++ q) (sym (step test x rest))
      ∙ ap (λ q. before ++ filter test (held_from p stored interface uri n q)) (sym (drop_next is n i at))
      ∙ kept

  -- the same of items that stand from a place on
  pub rows_next : (is : List Impl) (front start n : ℕ) (i : Impl) (before now total : List Candidate) → start ≡ front → slice_get is n ≡ Some i
      → now ≡ before ++ cons_option (given test (as_it_is p stored interface uri (start + n) i)) []
      → before ++ filter test (held_from p stored interface uri (front + n) (drop n is)) ≡ total
      → now ++ filter test (held_from p stored interface uri (front + (n + 1)) (drop (n + 1) is)) ≡ total
  rows_next is front start n i before now total same at grown kept =
      let x : Candidate = as_it_is p stored interface uri (front + n) i in
      let rest : List Candidate = held_from p stored interface uri (front + (n + 1)) (drop (n + 1) is) in
      let m : front + n + 1 ≡ front + (n + 1) = omega arith in
      let P : ℕ → Type 0 = λ q. now ≡ before ++ cons_option (given test (as_it_is p stored interface uri (q + n) i)) [] in
      ap (λ q. q ++ filter test rest) (subst P same grown)
      ∙ append_assoc before (cons_option (given test x) []) (filter test rest)
      ∙ ap (λ q. before ++ q) (sym (step test x rest))
      ∙ ap (λ q. before ++ filter test (x ∷ held_from p stored interface uri q (drop (n + 1) is))) (sym m)
      ∙ ap (λ q. before ++ filter test (held_from p stored interface uri (front + n) q)) (sym (drop_next is n i at))
      ∙ kept

  pub rows_end : (is : List Impl) (front n : ℕ) (before total : List Candidate) → length is ≤ n → before ++ filter test (held_from p stored interface uri (front + n) (drop n is)) ≡ total → before ≡ total
  rows_end is front n before total le kept = sym (append-nil before) ∙ ap (λ q. before ++ filter test (held_from p stored interface uri (front + n) q)) (sym (drop_all n is le)) ∙ kept

  -- none of them was looked at
  pub front_place : (is : List Impl) (front : ℕ) (before : List Candidate) → before ++ filter test (held_from p stored interface uri (front + 0) is) ≡ before ++ filter test (held_from p stored interface uri front is)
  front_place is front before = let m : front + 0 ≡ front = omega arith in ap (λ q. before ++ filter test (held_from p stored interface uri q is)) m

  -- those that stand behind others
  pub held_behind : (is js : List Impl) (place : ℕ) → filter test (held_from p stored interface uri place (is ++ js))
      ≡ filter test (held_from p stored interface uri place is) ++ filter test (held_from p stored interface uri (place + length is) js)
  held_behind [] js place = let m : place ≡ place + 0 = omega arith in ap (λ q. filter test (held_from p stored interface uri q js)) m
  held_behind (i ∷ is) js place =
      let x : Candidate = as_it_is p stored interface uri place i in
      let m : place + 1 + length is ≡ place + suc (length is) = omega arith in
      step test x (held_from p stored interface uri (place + 1) (is ++ js))
      ∙ ap (λ q. cons_option (given test x) [] ++ q) (held_behind is js (place + 1)
      ∙ ap (λ q. filter test (held_from p stored interface uri (place + 1) is) ++ filter test (held_from p stored interface uri q js)) m)
      ∙ sym (append_assoc (cons_option (given test x) []) (filter test (held_from p stored interface uri (place + 1) is)) (filter test (held_from p stored interface uri (place + suc (length is)) js)))
      ∙ ap (λ q. q ++ filter test (held_from p stored interface uri (place + suc (length is)) js)) (sym (step test x (held_from p stored interface uri (place + 1) is)))

  -- implementations, and rows behind them
  pub held_kinds : (is ps all : List Impl) (old mid new : List Candidate) → all ≡ is ++ ps → mid ≡ old ++ filter test (held_from p stored interface uri 0 is)
      → new ≡ mid ++ filter test (held_from p stored interface uri (length is) ps) → new ≡ old ++ filter test (held_from p stored interface uri 0 all)
  held_kinds is ps all old mid new are front behind =
      let one : List Candidate = filter test (held_from p stored interface uri 0 is) in
      let two : List Candidate = filter test (held_from p stored interface uri (length is) ps) in
      let m : 0 + length is ≡ length is = omega arith in
      behind ∙ ap (λ q. q ++ two) front ∙ append_assoc old one two ∙ ap (λ q. old ++ (one ++ filter test (held_from p stored interface uri q ps))) (sym m) ∙ ap (λ q. old ++ q) (sym (held_behind is ps 0))
      ∙ ap (λ q. old ++ filter test (held_from p stored interface uri 0 q)) (sym are)

  pub offers_end : (is : List Impl) (n : ℕ) (before total : List Candidate) → length is ≤ n → before ++ filter test (held_from p stored interface uri n (drop n is)) ≡ total → before ≡ total
  offers_end is n before total le kept = sym (append-nil before) ∙ ap (λ q. before ++ filter test (held_from p stored interface uri n q)) (sym (drop_all n is le)) ∙ kept

-- Feeds, one by one.
module _ (req : Requirement) (p : Policy) (stored : Store) (interface : Uri) where
  pub held_found : (fs : List Feed) (uri : Uri) (o : Option Feed) (xs ys : List Candidate) (f : Feed) → o ≡ find_feed fs uri → o ≡ Some f
      → ys ≡ xs ++ held_by req p stored interface f → ys ≡ xs ++ held req p stored interface (cons_option (find_feed fs uri) [])
  held_found fs uri o xs ys f e is grown =
      grown ∙ ap (λ q. xs ++ q) (sym (append-nil (held_by req p stored interface f))) ∙ ap (λ q. xs ++ held req p stored interface (cons_option q [])) (sym is ∙ e)

  pub held_missing : (fs : List Feed) (uri : Uri) (o : Option Feed) (xs : List Candidate) → o ≡ find_feed fs uri → o ≡ None → xs ≡ xs ++ held req p stored interface (cons_option (find_feed fs uri) [])
  held_missing fs uri o xs e is = sym (append-nil xs) ∙ ap (λ q. xs ++ held req p stored interface (cons_option q [])) (sym is ∙ e)

  held_both : (o : Option Feed) (fs : List Feed) → held req p stored interface (cons_option o fs) ≡ held req p stored interface (cons_option o []) ++ held req p stored interface fs
  held_both None fs = refl
  held_both (Some f) fs = ap (λ q. q ++ held req p stored interface fs) (sym (append-nil (held_by req p stored interface f)))

  pub feeds_next : (fs : List Feed) (uris : Uris) (n : ℕ) (uri : Uri) (before now total : List Candidate) → n < length uris → uri ≡ get_or uris n uri
      → now ≡ before ++ held req p stored interface (cons_option (find_feed fs uri) [])
      → before ++ held req p stored interface (feeds_at fs (drop n uris)) ≡ total → now ++ held req p stored interface (feeds_at fs (drop (n + 1) uris)) ≡ total
  feeds_next fs uris n uri before now total lt is grown kept =
      let m : suc n ≡ n + 1 = omega arith in
      let e : drop n uris ≡ uri ∷ drop (n + 1) uris = drop-cons uris n uri lt ∙ ap (λ y. y ∷ drop (suc n) uris) (sym is) ∙ ap (λ k. uri ∷ drop k uris) m in
      let rest : List Feed = feeds_at fs (drop (n + 1) uris) in
      ap (λ q. q ++ held req p stored interface rest) grown
      ∙ append_assoc before (held req p stored interface (cons_option (find_feed fs uri) [])) (held req p stored interface rest)
      ∙ ap (λ q. before ++ q) (sym (held_both (find_feed fs uri) rest))
      ∙ ap (λ q. before ++ held req p stored interface (feeds_at fs q)) (sym e)
      ∙ kept

  -- what a front of the feeds has is a front of what all have
  pub front_few : (before rest total : List Candidate) (most : ℕ) → before ++ rest ≡ total → most < length before → most < length total
  front_few before rest total most e lt = let l = ap length e in let m = length-append before rest in omega (arith, l, m, lt)

  pub feeds_end : (fs : List Feed) (uris : Uris) (n : ℕ) (before total : List Candidate) → length uris ≤ n → before ++ held req p stored interface (feeds_at fs (drop n uris)) ≡ total → before ≡ total
  feeds_end fs uris n before total le kept = sym (append-nil before) ∙ ap (λ q. before ++ held req p stored interface (feeds_at fs q)) (sym (drop_all n uris le)) ∙ kept

-- the item at a place
pub item_at : {X : Type 0} (xs : List X) (n : ℕ) → n < length xs → (x : X) × (slice_get xs n ≡ Some x)
item_at [] n lt = absurd (omega (arith, lt))
item_at (x ∷ xs) zero lt = (x, refl)
item_at (x ∷ xs) (suc n) lt = item_at xs n (omega (arith, lt))

pub none_offered : (feeds : List Shares) (os : List Offered) → os ≡ [] → AreNumbered feeds os
none_offered feeds os e = subst (λ q. AreNumbered feeds q) (sym e) (All-nil (IsNumbered feeds))
