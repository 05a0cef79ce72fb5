-- One interface more: its feeds offer these, and it is finished.
use Rattle.std.proofs.Common.{inr, Option, ◌≡◌, ◌+◌, ◌<◌, ◌≤◌, true, List, [], ◌∷◌, ◌++◌, length, map, get_or, All, Some, slice_get, refl, sym, ap, subst, ◌∙◌, arith, length-append}
use Rattle.std.specs.Prelude.{Result, Ok, Err, MatchResult, OnOk, IsPermutation}
use Rattle.std.proofs.lemmas.List.Sums.{sum_by_push}
use Rattle.std.proofs.lemmas.Option.{slice_get_within, get_or_from_slice_get}
use Rattle.zi_policy.specs.declared.types.Policy.{Policy}
use Rattle.zi_policy.specs.Platform.{listed}
use Rattle.zi_feed.specs.declared.feed.Feed.{Feed}
use Rattle.zi_outside.specs.Views.{Holding}
use Rattle.zi_universe.specs.declared.types.Requirement.{Requirement}
use Rattle.zi_universe.specs.declared.types.Candidate.{Candidate}
use Rattle.zi_universe.specs.declared.types.Interface.{Interface}
use Rattle.zi_universe.specs.declared.fault.LoadFault.{LoadFault}
use Rattle.zi_universe.specs.declared.loading.Loading.{Loading}
use Rattle.zi_universe.specs.declared.offers.Offers.{Offers}
use Rattle.zi_universe.specs.Offering.{candidates_of}
use Rattle.zi_universe.specs.Naming.{Uri, Uris, joined, all_of, AreApart}
use Rattle.zi_universe.specs.Candidates.{Store, imports_of, admitted, AreCandidates, asked_by_all}
use Rattle.zi_universe.specs.Whole.{candidates_in, most_interfaces, most_candidates}
use Rattle.zi_outside.specs.Views.{Feeding}
use Rattle.zi_universe.specs.declared.fault.LoadFault.TheVariants as fault
use Rattle.zi_universe.specs.Loading.{Reading, Refuses, asked_until, CountsFault}
use Rattle.zi_universe.specs.Asked.{GetsMore, LeavesGathering, LeavesLooking, StopsLoading}
use Rattle.zi_universe.specs.Tables.{addresses, feeds_at, held, Agrees}
use Rattle.zi_universe.specs.Stages.{HasListed, Gathers, StopsGathering, HasLoaded, IsAt, IsBegun, ArePlaced, IsSorting, Finishes, StopsFinishing, LoadsNext}
use Rattle.zi_universe.proofs.NamingLemmas.{without_repeats_apart}
use Rattle.zi_universe.proofs.TableLemmas.{addresses_agreed, held_agreed, reading_of, reading_agrees}
use Rattle.zi_universe.proofs.LoadedLemmas.{loaded_none, here_listed, closed_now, loaded_more}
use Rattle.zi_universe.proofs.RefusalLemmas.{refuses_finishing}
use Rattle.zi_universe.proofs.RankedLemmas.{admitted_placed}

-- the candidates that are counted are within the limit
pub few_counted : (told : Option Holding) (req : Requirement) (p : Policy) (stored : Store) (s : Loading) → IsAt told req p stored s → s.count ≤ most_candidates
few_counted told req p stored s a =
    let h = a.loaded in
    let apart : AreApart (addresses s.table) = subst AreApart (sym h.places) (without_repeats_apart (all_of h.groups)) in
    let come = h.come (reading_of told req.interface p s.table h.read) (reading_agrees told req.interface p s.table h.read apart) in
    omega (arith, a.counted, come.few_candidates)

module _ (told : Option Holding) (req : Requirement) (p : Policy) (stored : Store) (old : Loading) (uri : Uri) (a : IsAt told req p stored old)
    (next : slice_get old.names.keys (length old.done) ≡ Some uri) (offered : List Candidate) (fs : List Feed) (o : Gathers told req p stored uri old.table offered fs) where
  within : length old.done < length old.names.keys
  within = slice_get_within old.names.keys (length old.done) uri next

  turn : get_or old.names.keys (length old.done) uri ≡ uri
  turn = get_or_from_slice_get old.names.keys (length old.done) uri uri next

  all_there : All (λ u. listed u (addresses fs) ≡ true) o.here
  all_there = here_listed told req p stored old.done old.names.keys old.table uri a.loaded within turn o.here fs o.feeds

  -- over a reading that agrees with the table
  module _ (at : Reading) (agrees : Agrees p at fs) where
    here_apart : AreApart o.here
    here_apart =
        let named = closed_now told req p stored old.done old.names.keys old.table uri a.loaded within turn o.here fs o.feeds at agrees in
        subst AreApart (sym named.are) (without_repeats_apart (uri ∷ all_of (map (λ u. imports_of p (at u)) o.here)))

    are_admitted : offered ≡ admitted req p stored uri (map at o.here)
    are_admitted = o.are ∙ held_agreed req p stored uri at fs o.here all_there agrees

    placed : ArePlaced offered
    placed =
        subst ArePlaced (sym are_admitted)
        (admitted_placed req p stored uri (map at o.here) (subst AreApart (sym (addresses_agreed p at fs o.here all_there agrees)) here_apart))

    sorted : (cs : List Candidate) → IsSorting p offered cs → AreCandidates req p stored uri (map at o.here) cs
    sorted cs s = let P : List Candidate → Type 0 = λ q. IsPermutation q cs in record { same = subst P are_admitted s.same; ranked = s.ranked placed }

  pub loads_next : (new : Loading) → Finishes p uri offered (record old { table = fs }) new → LoadsNext told req p stored old new
  loads_next new z = record { at = record { loaded = loaded; counted = counted }; one = one }
    where
      item : Interface
      item = record { uri = uri; candidates = z.cs }

      few : candidates_in old.done + length z.cs ≤ most_candidates
      few = omega (arith, a.counted, z.count, z.few_candidates)

      many : length (joined old.names.keys (asked_by_all z.cs)) ≤ most_interfaces
      many = let P : Uris → Type 0 = λ q. length q ≤ most_interfaces in subst P z.names z.few_interfaces

      more : HasLoaded told req p stored (old.done ++ item ∷ []) (joined old.names.keys (asked_by_all z.cs)) fs
      more = loaded_more told req p stored old.done old.names.keys old.table uri a.loaded within turn o.here fs o.feeds z.cs (λ at agrees. sorted at agrees z.cs z.sorting) few many

      loaded : HasLoaded told req p stored new.done new.names.keys new.table
      loaded =
          let P : List Interface → Type 0 = λ q. HasLoaded told req p stored q (joined old.names.keys (asked_by_all z.cs)) fs in
          let Q : Uris → Type 0 = λ q. HasLoaded told req p stored new.done q fs in
          let R : List Feed → Type 0 = λ q. HasLoaded told req p stored new.done new.names.keys q in
          subst R (sym z.table) (subst Q (sym z.names) (subst P (sym z.done) more))

      one : length new.done ≡ length old.done + 1
      one = ap length z.done ∙ length-append old.done (item ∷ [])

      counted : new.count ≡ candidates_in new.done
      counted = z.count ∙ ap (λ n. n + length z.cs) a.counted ∙ sym (sum_by_push (λ (i : Interface). length i.candidates) old.done item) ∙ ap candidates_in (sym z.done)

  refuses_done : (why : LoadFault) → StopsFinishing p offered (record old { table = fs }) why → (r : Refuses told req p stored why) × (asked_until told req p stored why r ≡ addresses fs)
  refuses_done why r =
      refuses_finishing told req p stored old.done old.names.keys old.table uri a.loaded within turn o.here fs o.feeds next
      (record old { table = fs }) offered why refl a.counted are_admitted sorted r

  -- the count after a refusal that no call caused
  count_stays : (f g : Feeding) (why : LoadFault) → StopsFinishing p offered (record old { table = fs }) why → g.faults ≡ f.faults → CountsFault why f.faults g.faults
  count_stays f g (fault.FeedRead u) s e = absurd s
  count_stays f g fault.NoRootFeed s e = e
  count_stays f g (fault.BadFeed u w) s e = e
  count_stays f g (fault.FeedTooLong u limit) s e = e
  count_stays f g (fault.TooManyInterfaces limit) s e = e
  count_stays f g (fault.TooManyCandidates limit) s e = e
  count_stays f g (fault.TooManyFeeds limit) s e = e
  count_stays f g fault.Memory s e = e

  pub next_done : {X : Type 0} (r : Result X LoadFault) (new : Loading) (f g : Feeding) → GetsMore (addresses old.table) (addresses fs) f g
      → MatchResult r (λ _. Finishes p uri offered (record old { table = fs }) new) (StopsFinishing p offered (record old { table = fs }))
      → MatchResult r (λ _. LoadsNext told req p stored old new) (λ e. StopsLoading told req p stored (addresses old.table) f e g)
  next_done (Ok x) new f g got h = loads_next new h
  next_done (Err e) new f g got h =
      let r = refuses_done e h in
      record { cause = r.0; more = got.more; grown = r.1 ∙ got.grown; asks = got.asked.asks; count = count_stays f g e h got.asked.faults }

  pub next_gets : {X : Type 0} (r : Result X LoadFault) (new : Loading) (f g : Feeding) → GetsMore (addresses old.table) (addresses fs) f g
      → MatchResult r (λ _. Finishes p uri offered (record old { table = fs }) new) (StopsFinishing p offered (record old { table = fs }))
      → OnOk r (GetsMore (addresses old.table) (addresses new.table) f g)
  next_gets (Ok x) new f g got h = let P : List Feed → Type 0 = λ q. GetsMore (addresses old.table) (addresses q) f g in subst P (sym h.table) got
  next_gets (Err e) new f g got h = tt

-- What the feeds have is refused, before it is finished.
module _ (told : Option Holding) (req : Requirement) (p : Policy) (stored : Store) (old : Loading) (uri : Uri) (a : IsAt told req p stored old)
    (next : slice_get old.names.keys (length old.done) ≡ Some uri) where
  too_many : (offered : List Candidate) (fs : List Feed) (e : LoadFault) → StopsGathering offered e → StopsFinishing p offered (record old { table = fs }) e
  too_many offered fs (fault.FeedRead u) s = absurd s
  too_many offered fs fault.NoRootFeed s = absurd s
  too_many offered fs (fault.BadFeed u w) s = absurd s
  too_many offered fs (fault.FeedTooLong u limit) s = absurd s
  too_many offered fs (fault.TooManyInterfaces limit) s = absurd s
  too_many offered fs (fault.TooManyCandidates limit) s = (s.0, let m = s.1 in omega (arith, m))
  too_many offered fs (fault.TooManyFeeds limit) s = absurd s
  too_many offered fs fault.Memory s = tt

  pub stops_gathering : (f g : Feeding) (e : LoadFault) → LeavesGathering told req p stored uri old.table f e g → StopsLoading told req p stored (addresses old.table) f e g
  stops_gathering f g e w = next_done told req p stored old uri a next w.offered w.fs w.gathers {X = Loading} (Err e) old f g w.got (too_many w.offered w.fs e w.stops)

-- The feeds of an interface were found, and what they have was gathered.
module _ (told : Option Holding) (req : Requirement) (p : Policy) (stored : Store) (uri : Uri) (start fs : List Feed) (here slice : Uris) (f g : Feeding) (same : slice ≡ here)
    (listed_here : HasListed told req.interface p uri start here (length here) fs) (got : GetsMore (addresses start) (addresses fs) f g) where
  gathers : (offered : List Candidate) → offered ≡ held req p stored uri (feeds_at fs slice) → Gathers told req p stored uri start offered fs
  gathers offered e = record { here = here; feeds = listed_here; are = e ∙ ap (λ q. held req p stored uri (feeds_at fs q)) same }

  pub looks : (r : Result Offers LoadFault) → MatchResult r (λ os. candidates_of os.offered.items ≡ held req p stored uri (feeds_at fs slice)) (StopsGathering (held req p stored uri (feeds_at fs slice)))
      → MatchResult r (λ os. Gathers told req p stored uri start (candidates_of os.offered.items) fs) (λ e. LeavesLooking told req p stored uri start f e g)
  looks (Ok os) h = gathers (candidates_of os.offered.items) h
  looks (Err e) h = inr (record { offered = held req p stored uri (feeds_at fs slice); fs = fs; gathers = gathers (held req p stored uri (feeds_at fs slice)) refl; stops = h; got = got })

-- At the start.
pub at_begun : (told : Option Holding) (req : Requirement) (p : Policy) (stored : Store) (s : Loading) → IsBegun req.interface s → IsAt told req p stored s
at_begun told req p stored s b =
    let P : List Interface → Type 0 = λ q. HasLoaded told req p stored q (req.interface ∷ []) [] in
    let Q : Uris → Type 0 = λ q. HasLoaded told req p stored s.done q [] in
    let R : List Feed → Type 0 = λ q. HasLoaded told req p stored s.done s.names.keys q in
    record {
      loaded = subst R (sym b.table) (subst Q (sym b.names) (subst P (sym b.done) (loaded_none told req p stored)));
      counted = b.count ∙ sym (ap candidates_in b.done);
    }
