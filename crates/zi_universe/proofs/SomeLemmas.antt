-- There is a universe, or a refusal.
use Rattle.std.proofs.Common.{◌≡◌, ◌⊎◌, inl, inr, ℕ, zero, suc, ◌+◌, ◌<◌, ◌≤◌, Bool, true, false, List, [], ◌∷◌, ◌++◌, length, map, take, get_or, All, Option, Some, None, Contains, slice_get, refl, sym, ap, subst, ◌∙◌, arith, length-append}
use Rattle.std.specs.Prelude.{bytes_eq, IsSomeAnd, IsPermutation}
use Rattle.std.proofs.lemmas.List.{length-take-le, length-map}
use Rattle.std.proofs.lemmas.List.Sorted.{length_permutation}
use Rattle.std.proofs.lemmas.Option.{get_or_from_slice_get}
use Rattle.zi_policy.specs.declared.types.Policy.{Policy}
use Rattle.zi_policy.specs.Platform.{listed}
use Rattle.zi_rank.specs.Laws.{RanksAreStrict}
use Rattle.zi_elements.specs.declared.element.Element.{Element}
use Rattle.zi_elements.specs.Forest.{element_view}
use Rattle.zi_doc.specs.Documents as doc
use Rattle.zi_doc.specs.Laws.{IsSettled}
use Rattle.zi_feed.specs.declared.feed.Feed.{Feed}
use Rattle.zi_feed.specs.Active.{active_feed}
use Rattle.zi_faults.specs.declared.fault.Fault.{Fault}
use Rattle.zi_feed.specs.Feeds.{feed_of, feed_fault}
use Rattle.zi_outside.specs.Views.{Holding}
use Rattle.zi_universe.specs.declared.types.Requirement.{Requirement}
use Rattle.zi_universe.specs.declared.types.Candidate.{Candidate}
use Rattle.zi_universe.specs.declared.types.Interface.{Interface}
use Rattle.zi_universe.specs.declared.fault.BadFeed.TheVariants as bad
use Rattle.zi_universe.specs.declared.fault.LoadFault.{LoadFault}
use Rattle.zi_universe.specs.declared.fault.LoadFault.TheVariants as fault
use Rattle.zi_universe.specs.Naming.{Uri, Uris, joined, all_of, without_repeats, AreApart}
use Rattle.zi_universe.specs.Candidates.{Store, imports_of, admitted, AreRanked, AreCandidates, asked_by_all}
use Rattle.zi_universe.specs.Whole.{candidates_in, most_feeds, most_interfaces, most_candidates, feed_limit}
use Rattle.zi_universe.specs.Loading.{no_feed, IsRead, Reading, Loads, Refuses}
use Rattle.zi_universe.specs.Tables.{addresses, feeds_at, imports_at, held, Agrees, AllRead}
use Rattle.zi_universe.specs.Stages.{RefusesFeed, GetsOnce, StopsOnce, HasListed, StopsListing, HasLoaded, ArePlaced}
use Rattle.zi_universe.specs.Laws.{IsOfFeeds, LoadsOrIsRefused}
use Rattle.zi_universe.proofs.NamingLemmas.{bytes_eq-true, bytes_eq-false, listed-Contains, Contains-listed, listed-joined, without_repeats_apart}
use Rattle.zi_universe.proofs.TableLemmas.{addresses_agreed, held_agreed, reading_of, reading_agrees}
use Rattle.zi_universe.proofs.ReadingLemmas.{place_of_feed}
use Rattle.zi_universe.proofs.ListingLemmas.{gets_none, gets_one, refused_next, listed_read, listed_begins, listed_more, listed_ends}
use Rattle.zi_universe.proofs.LoadedLemmas.{reached_more, loaded_none, all_read, places_now, here_listed, closed_now, loaded_more, loads}
use Rattle.zi_universe.proofs.RefusalLemmas.{refuses_stop, found_at, found_agrees, finds}
use Rattle.zi_universe.proofs.RankedLemmas.{admitted_placed}
use Rattle.zi_universe.proofs.ExclusionLemmas.{longer}
use Rattle.zi_universe.proofs.RankingLemmas.{can_rank, no_longer, apart_front}

within_or : (m n : ℕ) → (m ≤ n) ⊎ (n < m)
within_or m n = grind arith

at_place : (xs : Uris) (k : ℕ) → k < length xs → (x : Uri) × (slice_get xs k ≡ Some x)
at_place [] k lt = absurd (omega (arith, lt))
at_place (x ∷ xs) zero lt = (x, refl)
at_place (x ∷ xs) (suc k) lt = at_place xs k (omega (arith, lt))

-- One feed.
module _ (one : (w : List ℕ) → IsSettled w) (holds : Holding) (root uri : Uri) where
  abbrev pub FeedOr : Type 0
  FeedOr = ((feed : Feed) × (feed.uri ≡ uri) × IsRead (Some holds) root uri feed) ⊎ ((e : LoadFault) × (IsOfFeeds e ≡ true) × RefusesFeed (Some holds) root uri e)

  bytes_or : (bytes : List ℕ) → holds uri ≡ Some bytes → length bytes ≤ feed_limit → FeedOr
  bytes_or bytes held le = elim (one bytes).some [
    | inl s ↦ by s.0 s.1 (feed_fault (element_view s.0) uri) refl
    | inr b ↦ inr (fault.BadFeed uri (bad.Doc b.0 b.1), refl, (refl, (bytes, held, le, b.2)))
  ]
    where
      by : (t : Element) → doc.Spells bytes t → (o : Option Fault) → feed_fault (element_view t) uri ≡ o → FeedOr
      by t s None e = inl (feed_of (element_view t) uri, place_of_feed uri t, record { held = Some bytes; told_so = held; means = (le, (t, s, e, refl)) })
      by t s (Some w) e = inr (fault.BadFeed uri (bad.Feed w.kind w.place), refl, (refl, (bytes, held, le, (t, s, e))))

  pub feed_or : FeedOr
  feed_or = by (holds uri) refl
    where
      absent : holds uri ≡ None → (b : Bool) → bytes_eq uri root ≡ b → FeedOr
      absent held true e = inr (fault.NoRootFeed, refl, (bytes_eq-true uri root e, held))
      absent held false e = inl (no_feed uri, refl, record { held = None; told_so = held; means = (bytes_eq-false uri root e, refl) })

      by : (o : Option (List ℕ)) → holds uri ≡ o → FeedOr
      by None held = absent held (bytes_eq uri root) refl
      by (Some bytes) held =
          let P : Option (List ℕ) → Type 0 = λ q. IsSomeAnd q (λ b. feed_limit < length b) in
          elim (within_or (length bytes) feed_limit) [
            | inl le ↦ bytes_or bytes held le
            | inr lt ↦ inr (fault.FeedTooLong uri feed_limit, refl, (refl, refl, subst P (sym held) lt))
          ]

-- One feed, unless it was got.
module _ (one : (w : List ℕ) → IsSettled w) (holds : Holding) (root : Uri) (p : Policy) where
  abbrev pub GetsOr : Uri → List Feed → Type 0
  GetsOr uri fs = ((gs : List Feed) × GetsOnce (Some holds) root p uri fs gs) ⊎ ((e : LoadFault) × (IsOfFeeds e ≡ true) × StopsOnce (Some holds) root uri fs e)

  pub gets_or : (uri : Uri) (fs : List Feed) → length fs ≤ most_feeds → GetsOr uri fs
  gets_or uri fs few = by (listed uri (addresses fs)) refl
    where
      new_one : listed uri (addresses fs) ≡ false → length fs < most_feeds → GetsOr uri fs
      new_one new lt = elim (feed_or one holds root uri) [
        | inl r ↦ inl (fs ++ active_feed p r.0 ∷ [], gets_one (Some holds) root p uri fs (fs ++ active_feed p r.0 ∷ []) (active_feed p r.0) new lt r.1 (r.0, r.2, refl) refl)
        | inr r ↦ inr (r.0, r.1, record { new = new; refused = refused_next (Some holds) root uri (length fs) r.0 lt r.2 })
      ]

      by : (b : Bool) → listed uri (addresses fs) ≡ b → GetsOr uri fs
      by true e = inl (fs, gets_none (Some holds) root p uri fs e)
      by false e = elim (within_or most_feeds (length fs)) [
        | inl le ↦ inr (fault.TooManyFeeds most_feeds, refl, record { new = e; refused = (refl, omega (arith, le, few)) })
        | inr lt ↦ new_one e lt
      ]

-- The feeds of an interface.
module _ (one : (w : List ℕ) → IsSettled w) (holds : Holding) (req : Requirement) (p : Policy) (stored : Store) (done : List Interface) (names : Uris) (start : List Feed)
    (h : HasLoaded (Some holds) req p stored done names start) (interface : Uri) where
  -- no more were looked at than the table has
  few_looked : (here : Uris) (n : ℕ) (fs : List Feed) → HasListed (Some holds) req.interface p interface start here n fs → n ≤ length here → n ≤ length fs
  few_looked here n fs l le =
      let places : addresses fs ≡ without_repeats (all_of (h.groups ++ take n here ∷ [])) =
      l.places ∙ ap (λ q. joined q (take n here)) h.places ∙ sym (reached_more h.groups (take n here)) in
      let apart : AreApart (addresses fs) = subst AreApart (sym places) (without_repeats_apart (all_of (h.groups ++ take n here ∷ []))) in
      let read : AllRead (Some holds) req.interface p fs = listed_read (Some holds) req.interface p interface start here n fs l h.read in
      let at : Reading = reading_of (Some holds) req.interface p fs read in
      let named = l.named at (reading_agrees (Some holds) req.interface p fs read apart) in
      let here_apart : AreApart here =
      subst AreApart (sym named.are) (without_repeats_apart (interface ∷ all_of (map (λ u. imports_of p (at u)) (take n here)))) in
      let all : (u : Uri) → Contains (take n here) u → Contains (addresses fs) u =
      λ u m. listed-Contains u (addresses fs) (ap (listed u) l.places ∙ listed-joined u (addresses start) (take n here) (Contains-listed u (take n here) m)) in
      let k = no_longer (take n here) (addresses fs) (apart_front here n le here_apart) all in
      let t : length (take n here) ≡ n = length-take-le n here le in
      let a : length (addresses fs) ≡ length fs = length-map fs (λ (x : Feed). x.uri) in
      omega (arith, k, t, a)

  abbrev pub ListsOr : Type 0
  ListsOr = ((here : Uris) × (fs : List Feed) × HasListed (Some holds) req.interface p interface start here (length here) fs)
      ⊎ ((e : LoadFault) × (IsOfFeeds e ≡ true) × StopsListing (Some holds) req.interface p interface start e)

  lists_from : (fuel : ℕ) (here : Uris) (n : ℕ) (fs : List Feed) → HasListed (Some holds) req.interface p interface start here n fs → n ≤ length here → most_feeds < n + fuel → ListsOr
  lists_from zero here n fs l le enough = absurd (let k = few_looked here n fs l le in let few = l.few in omega (arith, enough, k, few))
  lists_from (suc fuel) here n fs l le enough = elim (within_or (length here) n) [
    | inl ge ↦ inl (here, fs, listed_ends (Some holds) req.interface p interface start here n fs ge l)
    | inr lt ↦ (let turn = at_place here n lt in
        let uri : Uri = turn.0 in
        elim (gets_or one holds req.interface p uri fs l.few) [
          | inl r ↦ (let k = longer here (imports_at p r.0 uri) in
              lists_from fuel (joined here (imports_at p r.0 uri)) (n + 1) r.0
              (listed_more (Some holds) req.interface p interface start here (joined here (imports_at p r.0 uri)) n uri fs r.0 l lt (get_or_from_slice_get here n uri uri turn.1) r.1 refl)
              (omega (arith, k, lt)) (omega (arith, enough)))
          | inr r ↦ inr (r.0, r.1, record { here = here; n = n; fs = fs; listed = l; uri = uri; turn = turn.1; stops = r.2 })
        ])
  ]

  pub lists_or : ListsOr
  lists_or = lists_from 8193 (interface ∷ []) 0 start (listed_begins (Some holds) req.interface p interface start h.few) (omega arith) (omega arith)

-- The interfaces.
module _ (strict : RanksAreStrict) (one : (w : List ℕ) → IsSettled w) (holds : Holding) (req : Requirement) (p : Policy) (stored : Store) where
  abbrev pub LoadsOr : Type 0
  LoadsOr = ((is : List Interface) × Loads (Some holds) req p stored is) ⊎ ((e : LoadFault) × (IsOfFeeds e ≡ true) × Refuses (Some holds) req p stored e)

  module _ (done : List Interface) (names : Uris) (start : List Feed) (h : HasLoaded (Some holds) req p stored done names start) where
    few_names : length names ≤ most_interfaces
    few_names =
        let apart : AreApart (addresses start) = subst AreApart (sym h.places) (without_repeats_apart (all_of h.groups)) in
        (h.come (reading_of (Some holds) req.interface p start h.read) (reading_agrees (Some holds) req.interface p start h.read apart)).few_interfaces

    module _ (uri : Uri) (next : slice_get names (length done) ≡ Some uri) (lt : length done < length names) (here : Uris) (fs : List Feed)
        (l : HasListed (Some holds) req.interface p uri start here (length here) fs) where
      turn : get_or names (length done) uri ≡ uri
      turn = get_or_from_slice_get names (length done) uri uri next

      all_there : All (λ u. listed u (addresses fs) ≡ true) here
      all_there = here_listed (Some holds) req p stored done names start uri h lt turn here fs l

      table_apart : AreApart (addresses fs)
      table_apart = subst AreApart (sym (places_now (Some holds) req p stored done names start uri h lt turn here fs l)) (without_repeats_apart (all_of (h.groups ++ here ∷ [])))

      its_reading : Reading
      its_reading = reading_of (Some holds) req.interface p fs (all_read (Some holds) req p stored done names start uri h lt turn here fs l)

      it_agrees : Agrees p its_reading fs
      unfolding its_reading
      it_agrees = reading_agrees (Some holds) req.interface p fs (all_read (Some holds) req p stored done names start uri h lt turn here fs l) table_apart

      here_apart : AreApart here
      here_apart =
          let named = closed_now (Some holds) req p stored done names start uri h lt turn here fs l its_reading it_agrees in
          subst AreApart (sym named.are) (without_repeats_apart (uri ∷ all_of (map (λ u. imports_of p (its_reading u)) here)))

      abbrev has : List Candidate
      has = held req p stored uri (feeds_at fs here)

      are_admitted : (at : Reading) → Agrees p at fs → has ≡ admitted req p stored uri (map at here)
      are_admitted at agrees = held_agreed req p stored uri at fs here all_there agrees

      placed : ArePlaced has
      placed =
          subst ArePlaced (sym (are_admitted its_reading it_agrees))
          (admitted_placed req p stored uri (map its_reading here) (subst AreApart (sym (addresses_agreed p its_reading fs here all_there it_agrees)) here_apart))

      its_candidates : (cs : List Candidate) × IsPermutation has cs × AreRanked p cs
      its_candidates = can_rank strict p has placed

      over : (cs : List Candidate) → IsPermutation has cs → AreRanked p cs → (at : Reading) → Agrees p at fs → AreCandidates req p stored uri (map at here) cs
      over cs same ranked at agrees = let P : List Candidate → Type 0 = λ q. IsPermutation q cs in record { same = subst P (are_admitted at agrees) same; ranked = ranked }

      -- one interface more, or a limit
      abbrev pub MoreOr : Type 0
      MoreOr = ((more : List Interface) × (named : Uris) × HasLoaded (Some holds) req p stored more named fs × (length more ≡ length done + 1))
          ⊎ ((e : LoadFault) × (IsOfFeeds e ≡ true) × Refuses (Some holds) req p stored e)

      pub more_or : MoreOr
      more_or =
          let cs : List Candidate = its_candidates.0 in
          let are = over cs its_candidates.1 its_candidates.2 in
          let at : Reading = found_at (Some holds) req p stored done names start uri h lt turn here fs l next in
          let agrees = found_agrees (Some holds) req p stored done names start uri h lt turn here fs l next in
          let c = (finds (Some holds) req p stored done names start uri h lt turn here fs l next).0 in
          let same : length cs ≡ length (admitted req p stored uri (map at here)) = length_permutation (admitted req p stored uri (map at here)) cs (are at agrees).same in
          elim (within_or (candidates_in done + length cs) most_candidates) [
            | inr gt ↦ inr (
              fault.TooManyCandidates most_candidates,
              refl,
              record { is_limit = refl; done = done; names = names; interface = uri; feeds = map at here; finds = c; many = omega (arith, gt, same) },
            )
            | inl few ↦ elim (within_or (length (joined names (asked_by_all cs))) most_interfaces) [
              | inr gt ↦ inr (
                fault.TooManyInterfaces most_interfaces,
                refl,
                record {
                  is_limit = refl;
                  done = done;
                  names = names;
                  interface = uri;
                  feeds = map at here;
                  finds = c;
                  candidates = cs;
                  are = are at agrees;
                  few_candidates = few;
                  many = gt;
                },
              )
              | inl many ↦ inl (
                done ++ record { uri = uri; candidates = cs } ∷ [],
                joined names (asked_by_all cs),
                loaded_more (Some holds) req p stored done names start uri h lt turn here fs l cs are few many,
                length-append done (record { uri = uri; candidates = cs } ∷ []),
              )
            ]
          ]

  loads_from : (fuel : ℕ) (done : List Interface) (names : Uris) (start : List Feed) → HasLoaded (Some holds) req p stored done names start → most_interfaces < length done + fuel → LoadsOr
  loads_from zero done names start h enough = elim (within_or (length names) (length done)) [
    | inl le ↦ inl (done, (loads (Some holds) req p stored done names start h le).0)
    | inr lt ↦ absurd (let few = few_names done names start h in omega (arith, enough, few, lt))
  ]
  loads_from (suc fuel) done names start h enough = elim (within_or (length names) (length done)) [
    | inl le ↦ inl (done, (loads (Some holds) req p stored done names start h le).0)
    | inr lt ↦ (let next = at_place names (length done) lt in
        elim (lists_or one holds req p stored done names start h next.0) [
          | inl r ↦ elim (more_or done names start h next.0 next.1 lt r.0 r.1 r.2) [
            | inl m ↦ loads_from fuel m.0 m.1 r.1 m.2 (let k = m.3 in omega (arith, enough, k))
            | inr e ↦ inr e
          ]
          | inr r ↦ inr (
            r.0,
            r.1,
            (refuses_stop (Some holds) req p stored done names start next.0 h next.1 r.0 r.2).0,
          )
        ])
  ]

pub loads_or : RanksAreStrict → ((w : List ℕ) → IsSettled w) → LoadsOrIsRefused
loads_or strict one holds req p stored = loads_from strict one holds req p stored 4097 [] (req.interface ∷ []) [] (loaded_none (Some holds) req p stored) (omega arith)
