-- The refusals of the parts of a loading are refusals of the whole.
use Rattle.std.proofs.Common.{◌≡◌, ℕ, ◌<◌, ◌≤◌, inl, inr, false, List, [], ◌∷◌, ◌++◌, length, map, take, get_or, Some, None, Option, slice_get, IfSome, IsSomeAnd, refl, sym, ap, subst, ◌∙◌, arith}
use Rattle.std.proofs.lemmas.List.{append-nil, length-map}
use Rattle.zi_policy.specs.declared.types.Policy.{Policy}
use Rattle.zi_policy.specs.Platform.{listed}
use Rattle.zi_feed.specs.declared.feed.Feed.{Feed}
use Rattle.zi_outside.specs.Views.{Holding}
use Rattle.zi_universe.specs.declared.types.Requirement.{Requirement}
use Rattle.zi_universe.specs.declared.types.Interface.{Interface}
use Rattle.zi_universe.specs.declared.fault.LoadFault.{LoadFault}
use Rattle.zi_universe.specs.declared.fault.LoadFault.TheVariants as fault
use Rattle.zi_universe.specs.Naming.{Uri, Uris, joined, all_of, AreApart}
use Rattle.zi_universe.specs.declared.types.Candidate.{Candidate}
use Rattle.zi_universe.specs.declared.loading.Loading.{Loading}
use Rattle.zi_universe.specs.Candidates.{Store, admitted, AreCandidates, asked_by_all}
use Rattle.zi_universe.specs.Whole.{candidates_in, most_feeds, most_interfaces, feed_limit}
use Rattle.zi_universe.specs.Loading.{Reading, AreRead, IsHeld, HasFault, reached, ComesTo, ComesToGet, HasGot, Finds, Refuses, asked_until}
use Rattle.zi_universe.specs.Tables.{addresses, Agrees, AllRead}
use Rattle.zi_universe.specs.Stages.{RefusesNext, HasListed, StopsListing, HasLoaded, IsSorting, StopsFinishing}
use Rattle.zi_universe.specs.Asked.{up_to}
use Rattle.zi_universe.proofs.NamingLemmas.{without_repeats_apart}
use Rattle.zi_universe.proofs.TableLemmas.{reading_of, reading_agrees, reading_reads}
use Rattle.zi_universe.proofs.ListingLemmas.{listed_read, listed_agrees}
use Rattle.zi_universe.proofs.LoadedLemmas.{reached_more, from_start, all_read, places_now, few_now, closed_now}

-- A feed is refused.
module _ (told : Option Holding) (req : Requirement) (p : Policy) (stored : Store) (done : List Interface) (names : Uris) (start : List Feed) (interface : Uri)
    (h : HasLoaded told req p stored done names start) (next : slice_get names (length done) ≡ Some interface) where
  pub comes_to : (here : Uris) (n : ℕ) (fs : List Feed) (uri : Uri) → HasListed told req.interface p interface start here n fs
      → slice_get here n ≡ Some uri → listed uri (addresses fs) ≡ false → ComesTo told req p stored uri (addresses fs)
  comes_to here n fs uri l turn new = record {
    at = at;
    done = done;
    groups = h.groups;
    names = names;
    come = h.come at (listed_agrees told req.interface p interface start here n fs l at agrees);
    interface = interface;
    next = next;
    here = here;
    n = n;
    listed_here = l.named at agrees;
    turn = turn;
    so_far = places;
    few = few;
    new = new;
    read = reading_reads told req.interface p fs all_read;
  }
    where
      places : addresses fs ≡ reached (h.groups ++ take n here ∷ [])
      places = l.places ∙ ap (λ q. joined q (take n here)) h.places ∙ sym (reached_more h.groups (take n here))

      apart : AreApart (addresses fs)
      apart = subst AreApart (sym places) (without_repeats_apart (all_of (h.groups ++ take n here ∷ [])))

      few : length (addresses fs) ≤ most_feeds
      few = let e : length (addresses fs) ≡ length fs = length-map fs (λ (x : Feed). x.uri) in omega (arith, e, l.few)

      all_read : AllRead told req.interface p fs
      all_read = listed_read told req.interface p interface start here n fs l h.read

      at : Reading
      at = reading_of told req.interface p fs all_read

      agrees : Agrees p at fs
      agrees = reading_agrees told req.interface p fs all_read apart

  got_fewer : (fs : List Feed) → length fs < most_feeds → length (addresses fs) < most_feeds
  got_fewer fs lt = let e : length (addresses fs) ≡ length fs = length-map fs (λ (x : Feed). x.uri) in omega (arith, e, lt)

  -- it may get one more, at this address
  gets_at : (u uri : Uri) (fs : List Feed) → u ≡ uri → ComesTo told req p stored uri (addresses fs) → length fs < most_feeds → ComesToGet told req p stored u
  gets_at u uri fs s c lt =
      let P : Uri → Type 0 = λ q. ComesTo told req p stored q (addresses fs) in
      record { got = addresses fs; comes = subst P (sym s) c; few = got_fewer fs lt }

  ends_at : (u uri : Uri) (fs : List Feed) → u ≡ uri → addresses fs ++ u ∷ [] ≡ addresses fs ++ uri ∷ []
  ends_at u uri fs s = ap (λ q. addresses fs ++ q ∷ []) s

  -- the refusal of one feed is one of the loading, which asked for those that it had got and then for this one
  refuses_next : (uri : Uri) (fs : List Feed) (e : LoadFault) → ComesTo told req p stored uri (addresses fs) → RefusesNext told req.interface (length fs) uri e
      → (r : Refuses told req p stored e) × (asked_until told req p stored e r ≡ addresses fs ++ up_to uri e)
  unfolding gets_at
  refuses_next uri fs (fault.FeedRead u) c r = (gets_at u uri fs r.1 c r.0, ends_at u uri fs r.1)
  refuses_next uri fs fault.NoRootFeed c r =
      let P : Uri → Type 0 = λ q. IsHeld told q None in
      (record { come = gets_at req.interface uri fs (sym r.1.0) c r.0; absent = subst P r.1.0 r.1.1 }, ends_at req.interface uri fs (sym r.1.0))
  refuses_next uri fs (fault.BadFeed u why) c r =
      let P : Uri → Type 0 = λ q. (bytes : List ℕ) × IsHeld told q (Some bytes) × (length bytes ≤ feed_limit) × HasFault q bytes why in
      let h : P u = subst P (sym r.1.0) r.1.1 in
      (record { come = gets_at u uri fs r.1.0 c r.0; bytes = h.0; held = h.1; fits = h.2; faulty = h.3 }, ends_at u uri fs r.1.0)
  refuses_next uri fs (fault.FeedTooLong u limit) c r =
      let P : Uri → Type 0 = λ q. IfSome told (λ holds. IsSomeAnd (holds q) (λ bytes. feed_limit < length bytes)) in
      (record { come = gets_at u uri fs r.1.0 c r.0; is_limit = r.1.1; long = subst P (sym r.1.0) r.1.2 }, ends_at u uri fs r.1.0)
  refuses_next uri fs (fault.TooManyInterfaces limit) c r = absurd r.1
  refuses_next uri fs (fault.TooManyCandidates limit) c r = absurd r.1
  refuses_next uri fs (fault.TooManyFeeds limit) c r =
      (record { is_limit = r.0; uri = uri; got = addresses fs; comes = c; full = length-map fs (λ (x : Feed). x.uri) ∙ r.1 }, sym (append-nil (addresses fs)))
  refuses_next uri fs fault.Memory c r =
      (record { uris = addresses fs ++ uri ∷ []; first = inr (record { uri = uri; come = gets_at uri uri fs refl c r.0; are = refl }) }, refl)

  pub refuses_stop : (e : LoadFault) (s : StopsListing told req.interface p interface start e) → (r : Refuses told req p stored e) × (asked_until told req p stored e r ≡ addresses s.fs ++ up_to s.uri e)
  refuses_stop e s = refuses_next s.uri s.fs e (comes_to s.here s.n s.fs s.uri s.listed s.turn s.stops.new) s.stops.refused

  -- the feeds that were got before memory was refused
  pub has_got : (here : Uris) (n : ℕ) (fs : List Feed) → HasListed told req.interface p interface start here n fs → HasGot told req p stored (addresses fs)
  has_got here n fs l = record {
    at = at;
    done = done;
    groups = h.groups;
    names = names;
    come = h.come at (listed_agrees told req.interface p interface start here n fs l at agrees);
    interface = interface;
    next = next;
    here = here;
    n = n;
    listed_here = l.named at agrees;
    so_far = places;
    few = few;
    read = reading_reads told req.interface p fs all_read;
  }
    where
      places : addresses fs ≡ reached (h.groups ++ take n here ∷ [])
      places = l.places ∙ ap (λ q. joined q (take n here)) h.places ∙ sym (reached_more h.groups (take n here))

      apart : AreApart (addresses fs)
      apart = subst AreApart (sym places) (without_repeats_apart (all_of (h.groups ++ take n here ∷ [])))

      few : length (addresses fs) ≤ most_feeds
      few = let e : length (addresses fs) ≡ length fs = length-map fs (λ (x : Feed). x.uri) in omega (arith, e, l.few)

      all_read : AllRead told req.interface p fs
      all_read = listed_read told req.interface p interface start here n fs l h.read

      at : Reading
      at = reading_of told req.interface p fs all_read

      agrees : Agrees p at fs
      agrees = reading_agrees told req.interface p fs all_read apart

-- An interface is refused.
module _ (told : Option Holding) (req : Requirement) (p : Policy) (stored : Store) (done : List Interface) (names : Uris) (start : List Feed) (uri : Uri)
    (h : HasLoaded told req p stored done names start) (lt : length done < length names) (e : get_or names (length done) uri ≡ uri)
    (here : Uris) (fs : List Feed) (l : HasListed told req.interface p uri start here (length here) fs) (next : slice_get names (length done) ≡ Some uri) where
  apart : AreApart (addresses fs)
  apart =
      let places : addresses fs ≡ reached (h.groups ++ here ∷ []) = places_now told req p stored done names start uri h lt e here fs l in
      subst AreApart (sym places) (without_repeats_apart (all_of (h.groups ++ here ∷ [])))

  pub read_there : AllRead told req.interface p fs
  read_there = all_read told req p stored done names start uri h lt e here fs l

  abbrev pub found_at : Reading
  found_at = reading_of told req.interface p fs read_there

  pub found_agrees : Agrees p found_at fs
  found_agrees = reading_agrees told req.interface p fs read_there apart

  pub finds : (f : Finds told req p stored done names uri (map found_at here)) × (reached (f.groups ++ f.here ∷ []) ≡ addresses fs)
  finds =
      let places : addresses fs ≡ reached (h.groups ++ here ∷ []) = places_now told req p stored done names start uri h lt e here fs l in
      let Q : Uris → Type 0 = λ q. AreRead told req.interface found_at q in (
        record {
          at = found_at;
          groups = h.groups;
          come = h.come found_at (from_start told req p stored done names start uri h lt e here fs l found_at found_agrees);
          next = next;
          here = here;
          closed = closed_now told req p stored done names start uri h lt e here fs l found_at found_agrees;
          are = refl;
          few = few_now told req p stored done names start uri h lt e here fs l;
          read = subst Q places (reading_reads told req.interface p fs read_there);
        },
        sym places,
      )

  -- what is offered over every reading that agrees with the table is what is admitted
  pub refuses_finishing : (s : Loading) (offered : List Candidate) (why : LoadFault) → s.names.keys ≡ names → s.count ≡ candidates_in done
      → ((at : Reading) → Agrees p at fs → offered ≡ admitted req p stored uri (map at here))
      → ((at : Reading) → Agrees p at fs → (cs : List Candidate) → IsSorting p offered cs → AreCandidates req p stored uri (map at here) cs)
      → StopsFinishing p offered s why → (r : Refuses told req p stored why) × (asked_until told req p stored why r ≡ addresses fs)
  refuses_finishing s offered (fault.TooManyCandidates limit) keys count are ranked r =
      let same : length offered ≡ length (admitted req p stored uri (map found_at here)) = ap length (are found_at found_agrees) in
      (record { is_limit = r.0; done = done; names = names; interface = uri; feeds = map found_at here; finds = finds.0; many = omega (arith, count, same, r.1) }, finds.1)
  refuses_finishing s offered (fault.TooManyInterfaces limit) keys count are ranked r =
      let t = r.1 in
      let P : Uris → Type 0 = λ q. most_interfaces < length (joined q (asked_by_all t.cs)) in (
        record {
          is_limit = r.0;
          done = done;
          names = names;
          interface = uri;
          feeds = map found_at here;
          finds = finds.0;
          candidates = t.cs;
          are = ranked found_at found_agrees t.cs t.sorting;
          few_candidates = omega (arith, count, t.few_candidates);
          many = subst P keys t.many;
        },
        finds.1,
      )
  refuses_finishing s offered (fault.FeedRead u) keys count are ranked r = absurd r
  refuses_finishing s offered fault.NoRootFeed keys count are ranked r = absurd r
  refuses_finishing s offered (fault.BadFeed u w) keys count are ranked r = absurd r
  refuses_finishing s offered (fault.FeedTooLong u limit) keys count are ranked r = absurd r
  refuses_finishing s offered (fault.TooManyFeeds limit) keys count are ranked r = absurd r
  refuses_finishing s offered fault.Memory keys count are ranked r =
      (record { uris = addresses fs; first = inl (has_got told req p stored done names start uri h next here (length here) fs l) }, refl)
