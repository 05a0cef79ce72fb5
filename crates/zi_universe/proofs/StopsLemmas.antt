-- A loading that stops: what it asked for until then.
use Rattle.std.proofs.Common.{◌≡◌, ℕ, ◌<◌, ◌≤◌, inl, inr, Bool, true, false, List, [], ◌∷◌, ◌++◌, length, get_or, Some, Option, slice_get, refl, sym, ap, subst, ◌∙◌, arith, append_assoc, append-nil, true≢false}
use Rattle.std.proofs.lemmas.Option.{slice_get-get_or}
use Rattle.std.proofs.lemmas.List.{length-map}
use Rattle.zi_policy.specs.declared.types.Policy.{Policy}
use Rattle.zi_feed.specs.declared.feed.Feed.{Feed}
use Rattle.zi_outside.specs.Views.{Holding, Feeding, holding}
use Rattle.zi_outside.specs.Outside.{Asks}
use Rattle.zi_outside.proofs.AskingLemmas.{asks_none, asks_more}
use Rattle.zi_universe.specs.declared.types.Requirement.{Requirement}
use Rattle.zi_universe.specs.declared.types.Interface.{Interface}
use Rattle.zi_universe.specs.declared.fault.LoadFault.{LoadFault}
use Rattle.zi_universe.specs.declared.fault.LoadFault.TheVariants as fault
use Rattle.zi_universe.specs.declared.loading.Loading.{Loading}
use Rattle.zi_universe.specs.Naming.{Uri, Uris}
use Rattle.zi_universe.specs.Candidates.{Store}
use Rattle.zi_universe.specs.Loading.{Task, AreAsked, CountsFault, LoadsAsking, RefusesAsking}
use Rattle.zi_universe.specs.Tables.{addresses}
use Rattle.zi_universe.specs.Stages.{HasLoaded, IsAt}
use Rattle.zi_universe.specs.Asked.{up_to, StopsAt, GetsMore, EndsNext, RefusesListing, EndsListing, LeavesListing, StopsLoading}
use Rattle.zi_universe.proofs.AskedLemmas.{gets_all, holding_got}
use Rattle.zi_universe.proofs.ListingLemmas.{listed_begins}
use Rattle.zi_universe.proofs.LoadedLemmas.{loaded_none, loads}
use Rattle.zi_universe.proofs.RefusalLemmas.{comes_to, has_got, refuses_stop}

abbrev is_memory : LoadFault → Bool
is_memory fault.Memory = true
is_memory e = false

-- what is asked for at a stop, and its count
stops_asks : (uri : Uri) (old : Feeding) (e : LoadFault) (new : Feeding) → is_memory e ≡ false → StopsAt uri old e new → Asks (up_to uri e) old new × CountsFault e old.faults new.faults
stops_asks uri old (fault.FeedRead u) new t s = s
stops_asks uri old fault.NoRootFeed new t s = (s.asks, s.faults)
stops_asks uri old (fault.BadFeed u why) new t s = (s.asks, s.faults)
stops_asks uri old (fault.FeedTooLong u limit) new t s = (s.asks, s.faults)
stops_asks uri old (fault.TooManyInterfaces limit) new t s = (s.asks, s.faults)
stops_asks uri old (fault.TooManyCandidates limit) new t s = (s.asks, s.faults)
stops_asks uri old (fault.TooManyFeeds limit) new t s = (let P : Feeding → Type 0 = λ q. Asks [] old q in subst P (sym s) (asks_none old), ap (λ q. q.faults) s)
stops_asks uri old fault.Memory new t s = absurd (true≢false t)

-- the count from an earlier time on
counted_from : (e : LoadFault) (f f' g : ℕ) → f' ≡ f → CountsFault e f' g → CountsFault e f g
counted_from e f f' g s c = let P : ℕ → Type 0 = λ q. CountsFault e q g in subst P s c

module _ (told : Option Holding) (req : Requirement) (p : Policy) (stored : Store) (done : List Interface) (names : Uris) (start : List Feed) (interface : Uri)
    (h : HasLoaded told req p stored done names start) (next : slice_get names (length done) ≡ Some interface) (old new : Feeding) where
  refused : (e : LoadFault) → is_memory e ≡ false → RefusesListing told req.interface p interface start old e new
      → StopsLoading told req p stored (addresses start) old e new
  refused e t r =
      let c = refuses_stop told req p stored done names start interface h next e r.stops in
      let a = stops_asks r.stops.uri r.mid e new t r.last in
      record {
        cause = c.0;
        more = r.got.more ++ up_to r.stops.uri e;
        grown = c.1 ∙ ap (λ q. q ++ up_to r.stops.uri e) r.got.grown ∙ append_assoc (addresses start) r.got.more (up_to r.stops.uri e);
        asks = asks_more r.got.more (up_to r.stops.uri e) old r.mid new r.got.asked.asks a.0;
        count = counted_from e old.faults r.mid.faults new.faults r.got.asked.faults a.1;
      }

  without_memory : (x : EndsListing told req.interface p interface start old new) → EndsNext x.mid new x.n x.here x.fs
      → StopsLoading told req p stored (addresses start) old fault.Memory new
  without_memory x (inl same) = record {
    cause = record { uris = addresses x.fs; first = inl (has_got told req p stored done names start interface h next x.here x.n x.fs x.listed_here) };
    more = x.got.more;
    grown = x.got.grown;
    asks = (let P : Feeding → Type 0 = λ q. Asks x.got.more old q in subst P (sym same) x.got.asked.asks);
    count = ap (λ q. q.faults) same ∙ x.got.asked.faults;
  }
  without_memory x (inr a) = record {
    cause = record {
      uris = addresses x.fs ++ a.uri ∷ [];
      first = inr (record {
        uri = a.uri;
        come = record {
          got = addresses x.fs;
          comes = comes_to told req p stored done names start interface h next x.here x.n x.fs a.uri x.listed_here a.turn a.fresh;
          few = (let e : length (addresses x.fs) ≡ length x.fs = length-map x.fs (λ (q : Feed). q.uri) in let few = a.few in omega (arith, e, few));
        };
        are = refl;
      });
    };
    more = x.got.more ++ a.uri ∷ [];
    grown = ap (λ q. q ++ a.uri ∷ []) x.got.grown ∙ append_assoc (addresses start) x.got.more (a.uri ∷ []);
    asks = asks_more x.got.more (a.uri ∷ []) old x.mid new x.got.asked.asks a.asked.asks;
    count = a.asked.faults ∙ x.got.asked.faults;
  }

  pub stops_listing : (e : LoadFault) → LeavesListing told req.interface p interface start old e new → StopsLoading told req p stored (addresses start) old e new
  stops_listing (fault.FeedRead u) r = refused (fault.FeedRead u) refl r
  stops_listing fault.NoRootFeed r = refused fault.NoRootFeed refl r
  stops_listing (fault.BadFeed u why) r = refused (fault.BadFeed u why) refl r
  stops_listing (fault.FeedTooLong u limit) r = refused (fault.FeedTooLong u limit) refl r
  stops_listing (fault.TooManyInterfaces limit) r = refused (fault.TooManyInterfaces limit) refl r
  stops_listing (fault.TooManyCandidates limit) r = refused (fault.TooManyCandidates limit) refl r
  stops_listing (fault.TooManyFeeds limit) r = refused (fault.TooManyFeeds limit) refl r
  stops_listing fault.Memory r = without_memory r r.ends

-- memory was refused before the next interface
pub stops_before : (told : Option Holding) (req : Requirement) (p : Policy) (stored : Store) (s : Loading) (seen : Feeding) → IsAt told req p stored s
    → length s.done < length s.names.keys → StopsLoading told req p stored (addresses s.table) seen fault.Memory seen
stops_before told req p stored s seen at more =
    let next : (x : Uri) × (slice_get s.names.keys (length s.done) ≡ Some x) = (get_or s.names.keys (length s.done) [], slice_get-get_or s.names.keys (length s.done) [] more) in
    record {
      cause = record {
        uris = addresses s.table;
        first = inl (has_got told req p stored s.done s.names.keys s.table next.0 at.loaded next.1 (next.0 ∷ []) 0 s.table (listed_begins told req.interface p next.0 s.table at.loaded.few));
      };
      more = [];
      grown = sym (append-nil (addresses s.table));
      asks = asks_none seen;
      count = refl;
    }

-- memory was refused before anything was asked for
pub refuses_first : (task : Task) (seen : Feeding) → RefusesAsking task seen fault.Memory seen
refuses_first task seen =
    let loaded = loaded_none (holding seen) task.req task.policy task.stored in
    let root = task.req.interface in
    record {
      cause = record {
        uris = [];
        first = inl (has_got (holding seen) task.req task.policy task.stored [] (root ∷ []) [] root loaded refl (root ∷ []) 0 [] (listed_begins (holding seen) root task.policy root [] loaded.few));
      };
      asks = asks_none seen;
      count = refl;
    }

-- The whole.

pub refuses_all : (task : Task) (got : Uris) (old mid new : Feeding) (e : LoadFault) → GetsMore [] got old mid
    → StopsLoading (holding mid) task.req task.policy task.stored got mid e new → RefusesAsking task old e new
refuses_all task got old mid new e g stops =
    let P : Option Holding → Type 0 = λ q. StopsLoading q task.req task.policy task.stored got mid e new in
    let s = subst P (holding_got [] got old mid g) stops in
    let a = gets_all got old mid g in
    let Q : Uris → Type 0 = λ q. Asks q old new in
    record {
      cause = s.cause;
      asks = subst Q (sym s.grown) (asks_more got s.more old mid new a.asks s.asks);
      count = counted_from e old.faults mid.faults new.faults a.faults s.count;
    }

pub loads_all : (task : Task) (s : Loading) (old new : Feeding) → IsAt (holding old) task.req task.policy task.stored s → length s.names.keys ≤ length s.done
    → GetsMore [] (addresses s.table) old new → LoadsAsking task old s.done new
loads_all task s old new at le g =
    let l = loads (holding old) task.req task.policy task.stored s.done s.names.keys s.table at.loaded le in
    let P : Uris → Type 0 = λ q. AreAsked q old new in
    record { loads = l.0; asked = subst P (sym l.1) (gets_all (addresses s.table) old new g) }
