-- There is one refusal at most.
use Rattle.std.proofs.Common.{◌≡◌, ◌⊎◌, inl, inr, ℕ, ◌+◌, ◌<◌, ◌≤◌, Bool, true, false, List, [], ◌∷◌, ◌++◌, length, map, take, true≢false, Option, Some, None, slice_get, refl, sym, ap, subst, ◌∙◌, arith, append_assoc, length-append, if◌then◌else◌}
use Rattle.std.specs.Prelude.{◌≢◌, IsSomeAnd, MatchOption}
use Rattle.std.proofs.lemmas.List.{take_all}
use Rattle.std.proofs.lemmas.Option.{slice_get_within, none-some, same_Some}
use Rattle.std.proofs.lemmas.List.Sums.{sum_by-append, sum_by_push}
use Rattle.std.proofs.lemmas.List.Sorted.{length_permutation}
use Rattle.zi_policy.specs.declared.types.Policy.{Policy}
use Rattle.zi_policy.specs.Platform.{listed}
use Rattle.zi_rank.specs.Laws.{RanksAreStrict}
use Rattle.zi_elements.specs.Forest.{element_view}
use Rattle.zi_doc.specs.Laws.{IsSettled}
use Rattle.zi_feed.specs.declared.feed.Feed.{Feed}
use Rattle.zi_feed.specs.Feeds.{feed_fault}
use Rattle.zi_outside.specs.Views.{Holding}
use Rattle.zi_universe.specs.declared.types.Requirement.{Requirement}
use Rattle.zi_universe.specs.declared.types.Candidate.{Candidate}
use Rattle.zi_universe.specs.declared.types.Interface.{Interface}
use Rattle.zi_universe.specs.declared.fault.BadFeed.{BadFeed}
use Rattle.zi_universe.specs.declared.fault.BadFeed.TheVariants as bad
use Rattle.zi_universe.specs.declared.fault.LoadFault.{LoadFault}
use Rattle.zi_universe.specs.declared.fault.LoadFault.TheVariants as fault
use Rattle.zi_universe.specs.Naming.{Uri, Uris, joined, all_of, without_repeats, IsNamed, IsClosed}
use Rattle.zi_universe.specs.Candidates.{Store, imports_of, admitted, AreCandidates, asked_by, asked_by_all}
use Rattle.zi_universe.specs.Whole.{candidates_in, most_feeds, most_interfaces, most_candidates, feed_limit}
use Rattle.zi_universe.specs.Loading.{Says, HasFault, no_feed, Reading, IsInterface, reached, Refuses, ComesTo, Finds, IsRead}
use Rattle.zi_universe.specs.Stages.{RefusesNext}
use Rattle.zi_universe.specs.Laws.{IsOfFeeds, HasOneRefusal}
use Rattle.zi_universe.proofs.NamingLemmas.{closed_once, joined-append, all_of-append, map-append, listed-Contains, Contains-listed, listed-without_repeats}
use Rattle.zi_universe.proofs.OnceLemmas.{map_same, here, same_one, both, read_once, listed-behind}
use Rattle.zi_universe.proofs.ExclusionLemmas.{all_of-cut, longer}
use Rattle.zi_universe.proofs.PointLemmas.{Point, moved, agrees_here, done_next, passed_done, same_done, same_names, same_groups, same_interface, named_y, passed_here, same_here, not_behind}

-- Faults of one feed.

-- no fault has two kinds or places
same_bad : (one : (w : List ℕ) → IsSettled w) (uri : Uri) (bytes : List ℕ) (why how : BadFeed) → HasFault uri bytes why → HasFault uri bytes how → why ≡ how
same_bad one uri bytes (bad.Doc j q) (bad.Doc k r) a b =
    let e = (one bytes).fault j k q r a b in ap (λ i. bad.Doc i q) e.0 ∙ ap (bad.Doc k) e.1
same_bad one uri bytes (bad.Doc j q) (bad.Feed k r) a b = absurd ((one bytes).apart b.0 j q b.1 a)
same_bad one uri bytes (bad.Feed j q) (bad.Doc k r) a b = absurd ((one bytes).apart a.0 k r a.1 b)
same_bad one uri bytes (bad.Feed j q) (bad.Feed k r) a b =
    let t : a.0 ≡ b.0 = (one bytes).tree a.0 b.0 a.1 b.1 in
    let e : Some (record { kind = j; place = q }) ≡ Some (record { kind = k; place = r }) = sym a.2 ∙ ap (λ v. feed_fault (element_view v) uri) t ∙ b.2 in
    let f = same_Some (record { kind = j; place = q }) (record { kind = k; place = r }) e in
    ap (λ v. bad.Feed v.kind v.place) f

-- what is held isn't two things
not_absent : (o : Option (List ℕ)) (bytes : List ℕ) → o ≡ None → o ≡ Some bytes → ⊥
not_absent o bytes e f = none-some bytes (sym e ∙ f)

not_long : (o : Option (List ℕ)) → o ≡ None → IsSomeAnd o (λ bytes. feed_limit < length bytes) → ⊥
not_long o e h = let P : Option (List ℕ) → Type 0 = λ q. IsSomeAnd q (λ bytes. feed_limit < length bytes) in subst P e h

not_both : (o : Option (List ℕ)) (bytes : List ℕ) → o ≡ Some bytes → length bytes ≤ feed_limit → IsSomeAnd o (λ bytes. feed_limit < length bytes) → ⊥
not_both o bytes e le h =
    let P : Option (List ℕ) → Type 0 = λ q. IsSomeAnd q (λ bytes. feed_limit < length bytes) in
    let g : feed_limit < length bytes = subst P e h in
    omega (arith, le, g)

-- Two refusals of one feed after as many others are the same.
module _ (one : (w : List ℕ) → IsSettled w) (holds : Holding) (root uri : Uri) (got : ℕ) where
  same_next : (e d : LoadFault) → IsOfFeeds e ≡ true → IsOfFeeds d ≡ true → RefusesNext (Some holds) root got uri e → RefusesNext (Some holds) root got uri d → e ≡ d
  same_next (fault.FeedRead u) d t s a b = absurd (true≢false (sym t))
  same_next fault.Memory d t s a b = absurd (true≢false (sym t))
  same_next (fault.TooManyInterfaces m) d t s a b = absurd a.1
  same_next (fault.TooManyCandidates m) d t s a b = absurd a.1
  same_next e (fault.FeedRead u) t s a b = absurd (true≢false (sym s))
  same_next e fault.Memory t s a b = absurd (true≢false (sym s))
  same_next e (fault.TooManyInterfaces m) t s a b = absurd b.1
  same_next e (fault.TooManyCandidates m) t s a b = absurd b.1
  same_next fault.NoRootFeed fault.NoRootFeed t s a b = refl
  same_next fault.NoRootFeed (fault.BadFeed v how) t s a b = absurd (not_absent (holds uri) b.1.1.0 a.1.1 b.1.1.1)
  same_next fault.NoRootFeed (fault.FeedTooLong v n) t s a b = absurd (not_long (holds uri) a.1.1 b.1.2)
  same_next fault.NoRootFeed (fault.TooManyFeeds n) t s a b = absurd (omega (arith, a.0, b.1))
  same_next (fault.BadFeed u why) fault.NoRootFeed t s a b = absurd (not_absent (holds uri) a.1.1.0 b.1.1 a.1.1.1)
  same_next (fault.BadFeed u why) (fault.BadFeed v how) t s a b =
      let same : a.1.1.0 ≡ b.1.1.0 = same_Some a.1.1.0 b.1.1.0 (sym a.1.1.1 ∙ b.1.1.1) in
      let P : List ℕ → Type 0 = λ q. HasFault uri q why in
      ap (λ q. fault.BadFeed q why) (a.1.0 ∙ sym b.1.0) ∙ ap (fault.BadFeed v) (same_bad one uri b.1.1.0 why how (subst P same a.1.1.3) b.1.1.3)
  same_next (fault.BadFeed u why) (fault.FeedTooLong v n) t s a b = absurd (not_both (holds uri) a.1.1.0 a.1.1.1 a.1.1.2 b.1.2)
  same_next (fault.BadFeed u why) (fault.TooManyFeeds n) t s a b = absurd (omega (arith, a.0, b.1))
  same_next (fault.FeedTooLong u m) fault.NoRootFeed t s a b = absurd (not_long (holds uri) b.1.1 a.1.2)
  same_next (fault.FeedTooLong u m) (fault.BadFeed v how) t s a b = absurd (not_both (holds uri) b.1.1.0 b.1.1.1 b.1.1.2 a.1.2)
  same_next (fault.FeedTooLong u m) (fault.FeedTooLong v n) t s a b = ap (λ q. fault.FeedTooLong q m) (a.1.0 ∙ sym b.1.0) ∙ ap (fault.FeedTooLong v) (a.1.1 ∙ sym b.1.1)
  same_next (fault.FeedTooLong u m) (fault.TooManyFeeds n) t s a b = absurd (omega (arith, a.0, b.1))
  same_next (fault.TooManyFeeds m) fault.NoRootFeed t s a b = absurd (omega (arith, b.0, a.1))
  same_next (fault.TooManyFeeds m) (fault.BadFeed v how) t s a b = absurd (omega (arith, b.0, a.1))
  same_next (fault.TooManyFeeds m) (fault.FeedTooLong v n) t s a b = absurd (omega (arith, b.0, a.1))
  same_next (fault.TooManyFeeds m) (fault.TooManyFeeds n) t s a b = ap fault.TooManyFeeds (a.0 ∙ sym b.0)

-- A feed that was read isn't refused.
module _ (one : (w : List ℕ) → IsSettled w) (holds : Holding) (root uri : Uri) (got : ℕ) (feed : Feed) (r : IsRead (Some holds) root uri feed) (few : got + 1 ≤ most_feeds) where
  abbrev Means : Option (List ℕ) → Type 0
  Means o = MatchOption o ((uri ≢ root) × (feed ≡ no_feed uri)) (λ bytes. (length bytes ≤ feed_limit) × Says uri bytes feed)

  says_now : (bytes : List ℕ) → holds uri ≡ Some bytes → (length bytes ≤ feed_limit) × Says uri bytes feed
  says_now bytes e = let m : Means (Some bytes) = subst Means (sym r.told_so ∙ e) r.means in m

  not_bad : (why : BadFeed) (bytes : List ℕ) → holds uri ≡ Some bytes → HasFault uri bytes why → ⊥
  not_bad (bad.Doc kind place) bytes e h = let s = says_now bytes e in (one bytes).apart s.1.0 kind place s.1.1 h
  not_bad (bad.Feed kind place) bytes e h =
      let s = says_now bytes e in
      let same : h.0 ≡ s.1.0 = (one bytes).tree h.0 s.1.0 h.1 s.1.1 in
      let n : feed_fault (element_view h.0) uri ≡ None = ap (λ t. feed_fault (element_view t) uri) same ∙ s.1.2 in
      none-some (record { kind = kind; place = place }) (sym n ∙ h.2)

  not_next : (e : LoadFault) → IsOfFeeds e ≡ true → RefusesNext (Some holds) root got uri e → ⊥
  not_next (fault.FeedRead u) t a = true≢false (sym t)
  not_next fault.Memory t a = true≢false (sym t)
  not_next (fault.TooManyInterfaces m) t a = a.1
  not_next (fault.TooManyCandidates m) t a = a.1
  not_next fault.NoRootFeed t a = let m : Means None = subst Means (sym r.told_so ∙ a.1.1) r.means in m.0 a.1.0
  not_next (fault.BadFeed u why) t a = not_bad why a.1.1.0 a.1.1.1 a.1.1.3
  not_next (fault.FeedTooLong u m) t a = by (holds uri) refl a.1.2
    where
      by : (o : Option (List ℕ)) → holds uri ≡ o → IsSomeAnd o (λ bytes. feed_limit < length bytes) → ⊥
      by None e h = h
      by (Some bytes) e h = let s = says_now bytes e in omega (arith, h, s.0)
  not_next (fault.TooManyFeeds m) t a = omega (arith, few, a.1)

-- The limits of interfaces and candidates.

-- what stands against an interface with these feeds, behind those that are done
abbrev Passes : Requirement → Policy → Store → List Interface → Uris → Uri → List Feed → LoadFault → Type 0
Passes req p stored done names interface feeds (fault.TooManyInterfaces limit) =
    (limit ≡ most_interfaces) × ((cs : List Candidate) × AreCandidates req p stored interface feeds cs × (candidates_in done + length cs ≤ most_candidates)
    × (most_interfaces < length (joined names (asked_by_all cs))))
Passes req p stored done names interface feeds (fault.TooManyCandidates limit) =
    (limit ≡ most_candidates) × (most_candidates < candidates_in done + length (admitted req p stored interface feeds))
Passes req p stored done names interface feeds e = ⊥

-- two such limits are the same
same_passes : (req : Requirement) (p : Policy) (stored : Store) (done : List Interface) (names : Uris) (interface : Uri) (feeds : List Feed) (e d : LoadFault)
    → Passes req p stored done names interface feeds e → Passes req p stored done names interface feeds d → e ≡ d
same_passes req p stored done names interface feeds (fault.FeedRead u) d a b = absurd a
same_passes req p stored done names interface feeds fault.NoRootFeed d a b = absurd a
same_passes req p stored done names interface feeds (fault.BadFeed u why) d a b = absurd a
same_passes req p stored done names interface feeds (fault.FeedTooLong u m) d a b = absurd a
same_passes req p stored done names interface feeds (fault.TooManyFeeds m) d a b = absurd a
same_passes req p stored done names interface feeds fault.Memory d a b = absurd a
same_passes req p stored done names interface feeds e (fault.FeedRead u) a b = absurd b
same_passes req p stored done names interface feeds e fault.NoRootFeed a b = absurd b
same_passes req p stored done names interface feeds e (fault.BadFeed u why) a b = absurd b
same_passes req p stored done names interface feeds e (fault.FeedTooLong u m) a b = absurd b
same_passes req p stored done names interface feeds e (fault.TooManyFeeds m) a b = absurd b
same_passes req p stored done names interface feeds e fault.Memory a b = absurd b
same_passes req p stored done names interface feeds (fault.TooManyInterfaces m) (fault.TooManyInterfaces n) a b = ap fault.TooManyInterfaces (a.0 ∙ sym b.0)
same_passes req p stored done names interface feeds (fault.TooManyCandidates m) (fault.TooManyCandidates n) a b = ap fault.TooManyCandidates (a.0 ∙ sym b.0)
same_passes req p stored done names interface feeds (fault.TooManyInterfaces m) (fault.TooManyCandidates n) a b =
    let l : length (admitted req p stored interface feeds) ≡ length a.1.0 = sym (length_permutation (admitted req p stored interface feeds) a.1.0 a.1.1.same) in
    absurd (let c = a.1.2 in let h = b.1 in omega (arith, l, c, h))
same_passes req p stored done names interface feeds (fault.TooManyCandidates m) (fault.TooManyInterfaces n) a b =
    let l : length (admitted req p stored interface feeds) ≡ length b.1.0 = sym (length_permutation (admitted req p stored interface feeds) b.1.0 b.1.1.same) in
    absurd (let c = b.1.2 in let h = a.1 in omega (arith, l, c, h))

-- A loading that stops at a point.

-- at the next feed
abbrev StopsAtFeed : (holds : Holding) (req : Requirement) (p : Policy) (stored : Store) (at : Reading) → Point holds req p stored at → LoadFault → Type 0
StopsAtFeed holds req p stored at x e =
    (uri : Uri) × (slice_get x.here x.n ≡ Some uri) × (listed uri (without_repeats (all_of x.groups ++ take x.n x.here)) ≡ false)
    × RefusesNext (Some holds) req.interface (length (without_repeats (all_of x.groups ++ take x.n x.here))) uri e

-- at the interface, whose feeds were found
abbrev StopsAtLimit : (holds : Holding) (req : Requirement) (p : Policy) (stored : Store) (at : Reading) → Point holds req p stored at → LoadFault → Type 0
StopsAtLimit holds req p stored at x e = (x.n ≡ length x.here) × Passes req p stored x.done x.names x.interface (map at (take x.n x.here)) e

abbrev Stops : (holds : Holding) (req : Requirement) (p : Policy) (stored : Store) (at : Reading) → Point holds req p stored at → LoadFault → Type 0
Stops holds req p stored at x e = StopsAtFeed holds req p stored at x e ⊎ StopsAtLimit holds req p stored at x e

-- it stops at the same over a reading that agrees
module _ (holds : Holding) (req : Requirement) (p : Policy) (stored : Store) (at now : Reading) (x : Point holds req p stored at)
    (agrees : (u : Uri) → listed u (all_of x.groups ++ take x.n x.here) ≡ true → at u ≡ now u) where
  stops_now : (e : LoadFault) → Stops holds req p stored at x e → Stops holds req p stored now (moved holds req p stored at now x agrees) e
  stops_now e (inl s) = inl s
  stops_now e (inr s) =
      let P : List Feed → Type 0 = λ q. Passes req p stored x.done x.names x.interface q e in
      inr (s.0, subst P (map_same at now (take x.n x.here) (agrees_here holds req p stored at now x agrees)) s.1)

-- Two points over one reading, of which the first stops.
module _ (strict : RanksAreStrict) (one : (w : List ℕ) → IsSettled w) (holds : Holding) (req : Requirement) (p : Policy) (stored : Store) (now : Reading) (x y : Point holds req p stored now) where
  abbrev looked_x : Uris
  looked_x = all_of x.groups ++ take x.n x.here

  abbrev looked_y : Uris
  looked_y = all_of y.groups ++ take y.n y.here

  -- the second has looked at the feed at which the first stops
  not_passed : (e : LoadFault) → IsOfFeeds e ≡ true → (s : StopsAtFeed holds req p stored now x e) → (us : Uris) × (looked_y ≡ looked_x ++ s.0 ∷ us) → ⊥
  not_passed e t s c =
      let uri = s.0 in
      let in_y : listed uri looked_y ≡ true = ap (listed uri) c.1 ∙ listed-behind uri looked_x (uri ∷ c.0) (Contains-listed uri (uri ∷ c.0) (here uri c.0)) in
      let grown : without_repeats looked_y ≡ joined (without_repeats looked_x ++ uri ∷ []) c.0 =
      ap without_repeats c.1 ∙ joined-append [] looked_x (uri ∷ c.0)
      ∙ ap (λ q. joined q c.0) (ap (λ b. if b then without_repeats looked_x else without_repeats looked_x ++ uri ∷ []) s.2) in
      let k : length (without_repeats looked_y) ≡ length (joined (without_repeats looked_x ++ uri ∷ []) c.0) = ap length grown in
      let l : length (without_repeats looked_x ++ uri ∷ []) ≡ length (without_repeats looked_x) + 1 = length-append (without_repeats looked_x) (uri ∷ []) in
      let m = longer (without_repeats looked_x ++ uri ∷ []) c.0 in
      let few = y.few in
      not_next one holds req.interface uri (length (without_repeats looked_x)) (now uri) (y.read uri in_y) (omega (arith, k, l, m, few)) e t s.3

  -- the second has done the interface at which the first stops
  module _ (lt : length x.done < length y.done) where
    le : length x.done ≤ length y.done
    le = omega (arith, lt)

    abbrev next_done : (i : Interface) × (rest : List Interface) × (g : Uris) × (gs : List Uris) × (y.done ≡ x.done ++ i ∷ rest) × (y.groups ≡ x.groups ++ g ∷ gs)
        × IsInterface now req p stored g i × (i.uri ≡ x.interface)
    next_done = done_next strict holds req p stored now x y le lt

    module _ (whole : x.n ≡ length x.here) where
      all_here : take x.n x.here ≡ x.here
      all_here = take_all x.n x.here (omega (arith, whole))

      closed_x : IsClosed x.interface (λ u. imports_of p (now u)) x.here
      closed_x = let P : Uris → Type 0 = λ q. IsNamed x.interface (map (λ u. imports_of p (now u)) q) x.here in subst P all_here x.named

      closed_its : IsClosed x.interface (λ u. imports_of p (now u)) next_done.2
      closed_its = let P : Uri → Type 0 = λ q. IsClosed q (λ u. imports_of p (now u)) next_done.2 in subst P next_done.7 next_done.6.closed

      same_feeds : next_done.2 ≡ take x.n x.here
      same_feeds = closed_once x.interface (λ u. imports_of p (now u)) next_done.2 x.here closed_its closed_x ∙ sym all_here

      its_candidates : AreCandidates req p stored x.interface (map now (take x.n x.here)) next_done.0.candidates
      its_candidates =
          let P : Uri → Type 0 = λ q. AreCandidates req p stored q (map now next_done.2) next_done.0.candidates in
          let Q : Uris → Type 0 = λ q. AreCandidates req p stored x.interface (map now q) next_done.0.candidates in
          subst Q same_feeds (subst P next_done.7 next_done.6.candidates)

      same_candidates : (cs : List Candidate) → AreCandidates req p stored x.interface (map now (take x.n x.here)) cs → next_done.0.candidates ≡ cs
      same_candidates cs k =
          let P : Uris → Type 0 = λ q. AreCandidates req p stored x.interface (map now q) cs in
          ap (λ i. i.candidates)
          (same_one req p stored strict now next_done.0 (record { uri = x.interface; candidates = cs }) next_done.7 (next_done.2, next_done.6)
          (next_done.2, record { closed = closed_its; candidates = subst P (sym same_feeds) k }))

      not_many_candidates : most_candidates < candidates_in x.done + length (admitted req p stored x.interface (map now (take x.n x.here))) → ⊥
      not_many_candidates h =
          let l : length next_done.0.candidates ≡ length (admitted req p stored x.interface (map now (take x.n x.here))) =
          length_permutation (admitted req p stored x.interface (map now (take x.n x.here))) next_done.0.candidates its_candidates.same in
          let k : candidates_in y.done ≡ candidates_in (x.done ++ next_done.0 ∷ []) + candidates_in next_done.1 =
          ap candidates_in (next_done.4 ∙ sym (append_assoc x.done (next_done.0 ∷ []) next_done.1)) ∙ sum_by-append (λ (i : Interface). length i.candidates) (x.done ++ next_done.0 ∷ []) next_done.1 in
          let n : candidates_in (x.done ++ next_done.0 ∷ []) ≡ candidates_in x.done + length next_done.0.candidates = sum_by_push (λ (i : Interface). length i.candidates) x.done next_done.0 in
          let few = y.come.few_candidates in
          omega (arith, h, l, k, n, few)

      not_many_interfaces : (cs : List Candidate) → AreCandidates req p stored x.interface (map now (take x.n x.here)) cs → most_interfaces < length (joined x.names (asked_by_all cs)) → ⊥
      not_many_interfaces cs k h =
          let P : List Candidate → Type 0 = λ q. most_interfaces < length (joined x.names (asked_by_all q)) in
          let m : most_interfaces < length (joined x.names (asked_by next_done.0)) = subst P (sym (same_candidates cs k)) h in
          let rest : Uris = all_of (map asked_by next_done.1) in
          let e : y.names ≡ joined (joined x.names (asked_by next_done.0)) rest =
          y.come.named.are
          ∙ ap (λ q. without_repeats (req.interface ∷ all_of q)) (ap (map asked_by) next_done.4 ∙ map-append asked_by x.done (next_done.0 ∷ next_done.1))
          ∙ ap (λ q. without_repeats (req.interface ∷ q)) (all_of-cut (map asked_by x.done) (asked_by next_done.0) (map asked_by next_done.1))
          ∙ joined-append [] (req.interface ∷ all_of (map asked_by x.done)) (asked_by next_done.0 ++ rest)
          ∙ ap (λ q. joined q (asked_by next_done.0 ++ rest)) (sym x.come.named.are)
          ∙ joined-append x.names (asked_by next_done.0) rest in
          let l : length y.names ≡ length (joined (joined x.names (asked_by next_done.0)) rest) = ap length e in
          let n : length (joined x.names (asked_by next_done.0)) ≤ length (joined (joined x.names (asked_by next_done.0)) rest) = longer (joined x.names (asked_by next_done.0)) rest in
          let few = y.come.few_interfaces in
          omega (arith, m, l, n, few)

      not_passes : (e : LoadFault) → Passes req p stored x.done x.names x.interface (map now (take x.n x.here)) e → ⊥
      not_passes (fault.FeedRead u) a = a
      not_passes fault.NoRootFeed a = a
      not_passes (fault.BadFeed u why) a = a
      not_passes (fault.FeedTooLong u m) a = a
      not_passes (fault.TooManyFeeds m) a = a
      not_passes fault.Memory a = a
      not_passes (fault.TooManyInterfaces m) a = not_many_interfaces a.1.0 a.1.1 a.1.3
      not_passes (fault.TooManyCandidates m) a = not_many_candidates a.1

    not_done : (e : LoadFault) → IsOfFeeds e ≡ true → Stops holds req p stored now x e → ⊥
    not_done e t (inl s) = not_passed e t s (passed_done strict holds req p stored now x y le lt s.0 s.1)
    not_done e t (inr s) = not_passes s.0 e s.1

-- Two points over one reading at which a loading stops: it is stopped by the same.
module _ (strict : RanksAreStrict) (one : (w : List ℕ) → IsSettled w) (holds : Holding) (req : Requirement) (p : Policy) (stored : Store) (now : Reading) where
  module _ (x y : Point holds req p stored now) (le : length x.done ≤ length y.done) (ge : length y.done ≤ length x.done) where
    same_looked : x.n ≡ y.n → all_of y.groups ++ take y.n y.here ≡ all_of x.groups ++ take x.n x.here
    same_looked e =
        ap (λ q. all_of q ++ take y.n y.here) (same_groups strict holds req p stored now x y le ge)
        ∙ ap (λ q. all_of x.groups ++ q) (ap (λ q. take q y.here) (sym e) ∙ ap (take x.n) (same_here strict holds req p stored now x y le ge e))

    same_feed : (e d : LoadFault) → IsOfFeeds e ≡ true → IsOfFeeds d ≡ true → x.n ≡ y.n → StopsAtFeed holds req p stored now x e → StopsAtFeed holds req p stored now y d → e ≡ d
    same_feed e d t s n a b =
        let turn : slice_get x.here x.n ≡ Some b.0 =
        ap (λ q. slice_get q x.n) (sym (same_here strict holds req p stored now x y le ge n)) ∙ ap (slice_get y.here) n ∙ b.1 in
        let same : b.0 ≡ a.0 = same_Some b.0 a.0 (sym turn ∙ a.1) in
        let P : Uris → Type 0 = λ q. RefusesNext (Some holds) req.interface (length (without_repeats q)) b.0 d in
        let Q : Uri → Type 0 = λ q. RefusesNext (Some holds) req.interface (length (without_repeats (all_of x.groups ++ take x.n x.here))) q d in
        same_next one holds req.interface a.0 (length (without_repeats (all_of x.groups ++ take x.n x.here))) e d t s a.3 (subst Q same (subst P (same_looked n) b.3))

    abbrev next_now : Uri → Uris
    next_now u = imports_of p (now u)

    whole_x : x.n ≡ length x.here → IsClosed x.interface next_now x.here
    whole_x whole =
        let P : Uris → Type 0 = λ q. IsNamed x.interface (map next_now q) x.here in subst P (take_all x.n x.here (omega (arith, whole))) x.named

    whole_y : y.n ≡ length y.here → IsClosed x.interface next_now y.here
    whole_y whole =
        let P : Uris → Type 0 = λ q. IsNamed x.interface (map next_now q) y.here in
        subst P (take_all y.n y.here (omega (arith, whole))) (named_y strict holds req p stored now x y le ge)

    same_list : x.n ≡ length x.here → y.n ≡ length y.here → take y.n y.here ≡ take x.n x.here
    same_list a b =
        take_all y.n y.here (omega (arith, b)) ∙ closed_once x.interface next_now y.here x.here (whole_y b) (whole_x a) ∙ sym (take_all x.n x.here (omega (arith, a)))

    same_limit : (e d : LoadFault) → StopsAtLimit holds req p stored now x e → StopsAtLimit holds req p stored now y d → e ≡ d
    same_limit e d a b =
        let P : List Interface → Type 0 = λ q. Passes req p stored q y.names y.interface (map now (take y.n y.here)) d in
        let Q : Uris → Type 0 = λ q. Passes req p stored x.done q y.interface (map now (take y.n y.here)) d in
        let R : Uri → Type 0 = λ q. Passes req p stored x.done x.names q (map now (take y.n y.here)) d in
        let S : Uris → Type 0 = λ q. Passes req p stored x.done x.names x.interface (map now q) d in
        let c = subst P (same_done strict holds req p stored now x y le ge) b.1 in
        let g = subst Q (same_names strict holds req p stored now x y le ge) c in
        let h = subst R (same_interface strict holds req p stored now x y le ge) g in
        same_passes req p stored x.done x.names x.interface (map now (take x.n x.here)) e d a.1 (subst S (same_list a.0 b.0) h)

  compare : (m n : ℕ) → (m < n) ⊎ ((m ≡ n) ⊎ (n < m))
  compare m n = grind arith

  -- at one interface
  same_here_too : (x y : Point holds req p stored now) (le : length x.done ≤ length y.done) (ge : length y.done ≤ length x.done) (e d : LoadFault) → IsOfFeeds e ≡ true → IsOfFeeds d ≡ true
      → Stops holds req p stored now x e → Stops holds req p stored now y d → e ≡ d
  same_here_too x y le ge e d t s (inl a) (inl b) =
      elim (compare x.n y.n) [
        | inl lt ↦ absurd (not_passed strict one holds req p stored now x y e t a (passed_here strict holds req p stored now x y le ge lt a.0 a.1))
        | inr r ↦ elim r [
          | inl n ↦ same_feed x y le ge e d t s n a b
          | inr gt ↦ absurd (not_passed strict one holds req p stored now y x d s b (passed_here strict holds req p stored now y x ge le gt b.0 b.1))
        ]
      ]
  same_here_too x y le ge e d t s (inl a) (inr b) =
      let lt = not_behind strict holds req p stored now x y le ge b.0 (slice_get_within x.here x.n a.0 a.1) in
      absurd (not_passed strict one holds req p stored now x y e t a (passed_here strict holds req p stored now x y le ge lt a.0 a.1))
  same_here_too x y le ge e d t s (inr a) (inl b) =
      let lt = not_behind strict holds req p stored now y x ge le a.0 (slice_get_within y.here y.n b.0 b.1) in
      absurd (not_passed strict one holds req p stored now y x d s b (passed_here strict holds req p stored now y x ge le lt b.0 b.1))
  same_here_too x y le ge e d t s (inr a) (inr b) = same_limit x y le ge e d a b

  same_stop : (x y : Point holds req p stored now) (e d : LoadFault) → IsOfFeeds e ≡ true → IsOfFeeds d ≡ true → Stops holds req p stored now x e → Stops holds req p stored now y d → e ≡ d
  same_stop x y e d t s a b =
      elim (compare (length x.done) (length y.done)) [
        | inl lt ↦ absurd (not_done strict one holds req p stored now x y lt e t a)
        | inr r ↦ elim r [
          | inl n ↦ same_here_too x y (omega (arith, n)) (omega (arith, n)) e d t s a b
          | inr gt ↦ absurd (not_done strict one holds req p stored now y x gt d s b)
        ]
      ]

-- Two loadings that stop, each over its own reading.
module _ (strict : RanksAreStrict) (one : (w : List ℕ) → IsSettled w) (holds : Holding) (req : Requirement) (p : Policy) (stored : Store)
    (at to : Reading) (x : Point holds req p stored at) (y : Point holds req p stored to) where
  abbrev now : Reading
  now = both (all_of x.groups ++ take x.n x.here) at to

  agrees_x : (u : Uri) → listed u (all_of x.groups ++ take x.n x.here) ≡ true → at u ≡ now u
  agrees_x u l = sym (ap (λ t. if t then at u else to u) l)

  agrees_y : (u : Uri) → listed u (all_of y.groups ++ take y.n y.here) ≡ true → to u ≡ now u
  agrees_y u l = by (listed u (all_of x.groups ++ take x.n x.here)) refl
    where
      by : (t : Bool) → listed u (all_of x.groups ++ take x.n x.here) ≡ t → to u ≡ now u
      by true s = read_once one holds req.interface u (to u) (at u) (y.read u l) (x.read u s) ∙ sym (ap (λ t. if t then at u else to u) s)
      by false s = sym (ap (λ t. if t then at u else to u) s)

  stopped_once : (e d : LoadFault) → IsOfFeeds e ≡ true → IsOfFeeds d ≡ true → Stops holds req p stored at x e → Stops holds req p stored to y d → e ≡ d
  stopped_once e d t s a b =
      same_stop strict one holds req p stored now (moved holds req p stored at now x agrees_x) (moved holds req p stored to now y agrees_y) e d t s
      (stops_now holds req p stored at now x agrees_x e a) (stops_now holds req p stored to now y agrees_y d b)

-- Where a refused loading stops.
module _ (holds : Holding) (req : Requirement) (p : Policy) (stored : Store) (uri : Uri) (got : Uris) (c : ComesTo (Some holds) req p stored uri got) where
  got_all : got ≡ without_repeats (all_of c.groups ++ take c.n c.here)
  got_all = c.so_far ∙ ap without_repeats (all_of-append c.groups (take c.n c.here))

  within_here : c.n ≤ length c.here
  within_here = let w : c.n < length c.here = slice_get_within c.here c.n uri c.turn in omega (arith, w)

  few_got : length (without_repeats (all_of c.groups ++ take c.n c.here)) ≤ most_feeds
  few_got = let P : Uris → Type 0 = λ q. length q ≤ most_feeds in subst P got_all c.few

  read_got : (u : Uri) → listed u (all_of c.groups ++ take c.n c.here) ≡ true → IsRead (Some holds) req.interface u (c.at u)
  read_got u l = c.read u (listed-Contains u got (ap (listed u) got_all ∙ listed-without_repeats u (all_of c.groups ++ take c.n c.here) ∙ l))

  abbrev at_feed : Point holds req p stored c.at
  at_feed = record {
    done = c.done;
    groups = c.groups;
    names = c.names;
    come = c.come;
    interface = c.interface;
    next = c.next;
    here = c.here;
    n = c.n;
    within = within_here;
    named = c.listed_here;
    few = few_got;
    read = read_got;
  }

  feed_stops : (e : LoadFault) → RefusesNext (Some holds) req.interface (length got) uri e
      → (at : Reading) × (x : Point holds req p stored at) × Stops holds req p stored at x e
  feed_stops e a =
      let P : Uris → Type 0 = λ q. RefusesNext (Some holds) req.interface (length q) uri e in
      (c.at, at_feed, inl (uri, c.turn, ap (listed uri) (sym got_all) ∙ c.new, subst P got_all a))

module _ (holds : Holding) (req : Requirement) (p : Policy) (stored : Store) (done : List Interface) (names : Uris) (interface : Uri) (feeds : List Feed)
    (c : Finds (Some holds) req p stored done names interface feeds) where
  all_of_them : take (length c.here) c.here ≡ c.here
  all_of_them = take_all (length c.here) c.here (omega arith)

  named_all : IsNamed interface (map (λ u. imports_of p (c.at u)) (take (length c.here) c.here)) c.here
  named_all = let P : Uris → Type 0 = λ q. IsNamed interface (map (λ u. imports_of p (c.at u)) q) c.here in subst P (sym all_of_them) c.closed

  looked_all : reached (c.groups ++ c.here ∷ []) ≡ without_repeats (all_of c.groups ++ take (length c.here) c.here)
  looked_all = ap without_repeats (all_of-append c.groups c.here ∙ ap (λ q. all_of c.groups ++ q) (sym all_of_them))

  few_all : length (without_repeats (all_of c.groups ++ take (length c.here) c.here)) ≤ most_feeds
  few_all = let P : Uris → Type 0 = λ q. length q ≤ most_feeds in subst P looked_all c.few

  read_all : (u : Uri) → listed u (all_of c.groups ++ take (length c.here) c.here) ≡ true → IsRead (Some holds) req.interface u (c.at u)
  read_all u l =
      c.read u
      (listed-Contains u (reached (c.groups ++ c.here ∷ []))
      (ap (listed u) looked_all ∙ listed-without_repeats u (all_of c.groups ++ take (length c.here) c.here) ∙ l))

  abbrev at_limit : Point holds req p stored c.at
  at_limit = record {
    done = done;
    groups = c.groups;
    names = names;
    come = c.come;
    interface = interface;
    next = c.next;
    here = c.here;
    n = length c.here;
    within = omega arith;
    named = named_all;
    few = few_all;
    read = read_all;
  }

  limit_stops : (e : LoadFault) → Passes req p stored done names interface feeds e → (at : Reading) × (x : Point holds req p stored at) × Stops holds req p stored at x e
  limit_stops e a =
      let P : List Feed → Type 0 = λ q. Passes req p stored done names interface q e in
      (c.at, at_limit, inr (refl, subst P (c.are ∙ ap (map c.at) (sym all_of_them)) a))

stops : (holds : Holding) (req : Requirement) (p : Policy) (stored : Store) (e : LoadFault) → IsOfFeeds e ≡ true → Refuses (Some holds) req p stored e
    → (at : Reading) × (x : Point holds req p stored at) × Stops holds req p stored at x e
stops holds req p stored (fault.FeedRead uri) t r = absurd (true≢false (sym t))
stops holds req p stored fault.Memory t r = absurd (true≢false (sym t))
stops holds req p stored fault.NoRootFeed t r = feed_stops holds req p stored req.interface r.come.got r.come.comes fault.NoRootFeed (r.come.few, (refl, r.absent))
stops holds req p stored (fault.BadFeed uri why) t r = feed_stops holds req p stored uri r.come.got r.come.comes (fault.BadFeed uri why) (r.come.few, (refl, (r.bytes, r.held, r.fits, r.faulty)))
stops holds req p stored (fault.FeedTooLong uri limit) t r =
    feed_stops holds req p stored uri r.come.got r.come.comes (fault.FeedTooLong uri limit) (r.come.few, (refl, r.is_limit, r.long))
stops holds req p stored (fault.TooManyFeeds limit) t r = feed_stops holds req p stored r.uri r.got r.comes (fault.TooManyFeeds limit) (r.is_limit, r.full)
stops holds req p stored (fault.TooManyCandidates limit) t r =
    limit_stops holds req p stored r.done r.names r.interface r.feeds r.finds (fault.TooManyCandidates limit) (r.is_limit, r.many)
stops holds req p stored (fault.TooManyInterfaces limit) t r =
    limit_stops holds req p stored r.done r.names r.interface r.feeds r.finds (fault.TooManyInterfaces limit) (r.is_limit, (r.candidates, r.are, r.few_candidates, r.many))

pub refused_once : RanksAreStrict → ((w : List ℕ) → IsSettled w) → HasOneRefusal
refused_once strict one holds req p stored e d t s a b =
    let x = stops holds req p stored e t a in
    let y = stops holds req p stored d s b in
    stopped_once strict one holds req p stored x.0 y.0 x.1 y.1 e d t s x.2 y.2
