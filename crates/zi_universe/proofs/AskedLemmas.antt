-- What the parts of a loading ask for, put together.
use Rattle.std.proofs.Common.{◌≡◌, ℕ, ◌+◌, ◌<◌, ◌≤◌, inl, inr, Bool, true, false, List, [], ◌∷◌, ◌++◌, length, Some, Option, slice_get, refl, sym, ap, subst, ◌∙◌, arith, append_assoc, length-append, if◌then◌else◌}
use Rattle.std.proofs.lemmas.List.{append-nil, length-map}
use Rattle.zi_policy.specs.declared.types.Policy.{Policy}
use Rattle.zi_policy.specs.Platform.{listed}
use Rattle.zi_feed.specs.declared.feed.Feed.{Feed}
use Rattle.zi_outside.specs.Views.{Holding, Feeding, holding}
use Rattle.zi_outside.proofs.AskingLemmas.{asking-nil, asks_none, asks_more, holding_asked}
use Rattle.zi_universe.specs.declared.fault.LoadFault.{LoadFault}
use Rattle.zi_universe.specs.declared.fault.LoadFault.TheVariants as fault
use Rattle.zi_universe.specs.Naming.{Uri, Uris, with_one}
use Rattle.zi_universe.specs.Whole.{most_feeds}
use Rattle.zi_universe.specs.Loading.{AreAsked}
use Rattle.zi_universe.specs.Tables.{addresses}
use Rattle.zi_universe.specs.Stages.{RefusesBytes, StopsOnce, GetsOnce, HasListed}
use Rattle.zi_universe.specs.Asked.{unless_there, StopsAt, GetsMore, EndsNext, RefusesAt, LeavesNext, RefusesListing, EndsListing, LeavesListing}
use Rattle.zi_universe.proofs.ListingLemmas.{listed_begins}

pub asked_none : (seen : Feeding) → AreAsked [] seen seen
asked_none seen = record { asks = asks_none seen; faults = refl }

pub asked_more : (uris more : Uris) (old mid new : Feeding) → AreAsked uris old mid → AreAsked more mid new → AreAsked (uris ++ more) old new
asked_more uris more old mid new a b = record { asks = asks_more uris more old mid new a.asks b.asks; faults = b.faults ∙ a.faults }

-- One feed.

-- it was got, and its bytes are refused
pub stops_bytes : (uri : Uri) (bytes : List ℕ) (old new : Feeding) (e : LoadFault) → RefusesBytes uri bytes e → AreAsked (uri ∷ []) old new → StopsAt uri old e new
stops_bytes uri bytes old new (fault.FeedRead u) r a = absurd r
stops_bytes uri bytes old new fault.NoRootFeed r a = absurd r
stops_bytes uri bytes old new (fault.BadFeed u why) r a = a
stops_bytes uri bytes old new (fault.FeedTooLong u limit) r a = absurd r
stops_bytes uri bytes old new (fault.TooManyInterfaces limit) r a = absurd r
stops_bytes uri bytes old new (fault.TooManyCandidates limit) r a = absurd r
stops_bytes uri bytes old new (fault.TooManyFeeds limit) r a = absurd r
stops_bytes uri bytes old new fault.Memory r a = inr a

-- it is there, and isn't asked for
pub asked_there : (uri : Uri) (there : Uris) (seen : Feeding) → listed uri there ≡ true → AreAsked (unless_there uri there) seen seen
asked_there uri there seen e =
    let P : Bool → Type 0 = λ b. AreAsked (if b then [] else uri ∷ []) seen seen in subst P (sym e) (asked_none seen)

-- it is new, and is asked for
pub asked_new : (uri : Uri) (there : Uris) (old new : Feeding) → listed uri there ≡ false → AreAsked (uri ∷ []) old new → AreAsked (unless_there uri there) old new
asked_new uri there old new e a =
    let P : Bool → Type 0 = λ b. AreAsked (if b then [] else uri ∷ []) old new in subst P (sym e) a

with_one_more : (uri : Uri) (xs : Uris) → with_one xs uri ≡ xs ++ unless_there uri xs
with_one_more uri xs = by (listed uri xs)
  where
    by : (b : Bool) → (if b then xs else xs ++ uri ∷ []) ≡ xs ++ (if b then [] else uri ∷ [])
    by true = sym (append-nil xs)
    by false = refl

-- the table grew by what was asked for
pub gets_once : (told : Option Holding) (root : Uri) (p : Policy) (uri : Uri) (fs gs : List Feed) (old new : Feeding) → GetsOnce told root p uri fs gs
    → AreAsked (unless_there uri (addresses fs)) old new → GetsMore (addresses fs) (addresses gs) old new
gets_once told root p uri fs gs old new g a = record { more = unless_there uri (addresses fs); grown = g.places ∙ with_one_more uri (addresses fs); asked = a }

pub gets_none : (uris : Uris) (seen : Feeding) → GetsMore uris uris seen seen
gets_none uris seen = record { more = []; grown = sym (append-nil uris); asked = asked_none seen }

pub gets_more : (xs ys zs : Uris) (old mid new : Feeding) → GetsMore xs ys old mid → GetsMore ys zs mid new → GetsMore xs zs old new
gets_more xs ys zs old mid new a b = record {
  more = a.more ++ b.more;
  grown = b.grown ∙ ap (λ q. q ++ b.more) a.grown ∙ append_assoc xs a.more b.more;
  asked = asked_more a.more b.more old mid new a.asked b.asked;
}

-- from the start, what was got is what was asked for
pub gets_all : (ys : Uris) (old new : Feeding) → GetsMore [] ys old new → AreAsked ys old new
gets_all ys old new g = let P : Uris → Type 0 = λ q. AreAsked q old new in subst P (sym g.grown) g.asked

-- the feeds hold what they held
pub holding_got : (xs ys : Uris) (old new : Feeding) → GetsMore xs ys old new → holding new ≡ holding old
holding_got xs ys old new g = holding_asked g.more old new g.asked.asks

same_seen : (a b : Feeding) → b.told ≡ a.told → b.faults ≡ a.faults → b.plan ≡ a.plan → b ≡ a
same_seen a b t f p =
    ap (λ q. record b { told = q }) t ∙ ap (λ q. record { told = a.told; faults = q; plan = b.plan }) f ∙ ap (λ q. record { told = a.told; faults = a.faults; plan = q }) p

-- nothing was asked for
none_asked : (old new : Feeding) → AreAsked [] old new → new ≡ old
none_asked old new a = same_seen old new (a.asks.told ∙ asking-nil old.told) a.faults a.asks.plan

module _ (told : Option Holding) (root : Uri) (place : ℕ) (here : Uris) (fs : List Feed) (uri : Uri) (turn : slice_get here place ≡ Some uri) where
  -- memory was refused behind the feed
  pub ends_followed : (p : Policy) (gs : List Feed) (old new : Feeding) → length fs ≤ most_feeds → GetsOnce told root p uri fs gs
      → AreAsked (unless_there uri (addresses fs)) old new → EndsNext old new place here fs
  ends_followed p gs old new few g a = by (listed uri (addresses fs)) refl g.places a
    where
      by : (b : Bool) → listed uri (addresses fs) ≡ b → addresses gs ≡ (if b then addresses fs else addresses fs ++ uri ∷ []) → AreAsked (if b then [] else uri ∷ []) old new
          → EndsNext old new place here fs
      by true e grown asked = inl (none_asked old new asked)
      by false e grown asked = inr (record { uri = uri; turn = turn; fresh = e; few = fewer grown; asked = asked })
        where
          fewer : addresses gs ≡ addresses fs ++ uri ∷ [] → length fs < most_feeds
          fewer grown =
              let m : length (addresses gs) ≡ length gs = length-map gs (λ (x : Feed). x.uri) in
              let n : length (addresses fs) ≡ length fs = length-map fs (λ (x : Feed). x.uri) in
              let k : length (addresses gs) ≡ length (addresses fs) + 1 = ap length grown ∙ length-append (addresses fs) (uri ∷ []) in
              let most : length gs ≤ most_feeds = g.few few in
              omega (arith, m, n, k, most)

  -- the feed is refused
  pub leaves_once : (old new : Feeding) (e : LoadFault) → StopsOnce told root uri fs e → StopsAt uri old e new → LeavesNext told root place here fs old e new
  leaves_once old new (fault.FeedRead u) s a = record { stops = record { uri = uri; turn = turn; stops = s }; last = a }
  leaves_once old new fault.NoRootFeed s a = record { stops = record { uri = uri; turn = turn; stops = s }; last = a }
  leaves_once old new (fault.BadFeed u why) s a = record { stops = record { uri = uri; turn = turn; stops = s }; last = a }
  leaves_once old new (fault.FeedTooLong u limit) s a = record { stops = record { uri = uri; turn = turn; stops = s }; last = a }
  leaves_once old new (fault.TooManyInterfaces limit) s a = record { stops = record { uri = uri; turn = turn; stops = s }; last = a }
  leaves_once old new (fault.TooManyCandidates limit) s a = record { stops = record { uri = uri; turn = turn; stops = s }; last = a }
  leaves_once old new (fault.TooManyFeeds limit) s a = record { stops = record { uri = uri; turn = turn; stops = s }; last = a }
  leaves_once old new fault.Memory s (inl e) = inl e
  leaves_once old new fault.Memory s (inr a) = inr (record { uri = uri; turn = turn; fresh = s.new; few = s.refused.0; asked = a })

-- The feeds of an interface.

module _ (told : Option Holding) (root : Uri) (p : Policy) (interface : Uri) (start : List Feed) where
  pub ends_begun : (seen : Feeding) → length start ≤ most_feeds → EndsListing told root p interface start seen seen
  ends_begun seen few = record {
    here = interface ∷ [];
    n = 0;
    fs = start;
    listed_here = listed_begins told root p interface start few;
    mid = seen;
    got = gets_none (addresses start) seen;
    ends = inl refl;
  }

  pub ends_listed : (here : Uris) (n : ℕ) (fs : List Feed) (old new : Feeding) → HasListed told root p interface start here n fs
      → GetsMore (addresses start) (addresses fs) old new → EndsListing told root p interface start old new
  ends_listed here n fs old new h got = record { here = here; n = n; fs = fs; listed_here = h; mid = new; got = got; ends = inl refl }

  module _ (here : Uris) (n : ℕ) (fs : List Feed) (old mid new : Feeding) (h : HasListed told root p interface start here n fs)
      (got : GetsMore (addresses start) (addresses fs) old mid) where
    refuses : (e : LoadFault) → RefusesAt told root n here fs mid e new → RefusesListing told root p interface start old e new
    refuses e r = record {
      stops = record { here = here; n = n; fs = fs; listed = h; uri = r.stops.uri; turn = r.stops.turn; stops = r.stops.stops };
      mid = mid;
      got = got;
      last = r.last;
    }

    pub leaves_listing : (e : LoadFault) → LeavesNext told root n here fs mid e new → LeavesListing told root p interface start old e new
    leaves_listing (fault.FeedRead u) r = refuses (fault.FeedRead u) r
    leaves_listing fault.NoRootFeed r = refuses fault.NoRootFeed r
    leaves_listing (fault.BadFeed u why) r = refuses (fault.BadFeed u why) r
    leaves_listing (fault.FeedTooLong u limit) r = refuses (fault.FeedTooLong u limit) r
    leaves_listing (fault.TooManyInterfaces limit) r = refuses (fault.TooManyInterfaces limit) r
    leaves_listing (fault.TooManyCandidates limit) r = refuses (fault.TooManyCandidates limit) r
    leaves_listing (fault.TooManyFeeds limit) r = refuses (fault.TooManyFeeds limit) r
    leaves_listing fault.Memory r = record { here = here; n = n; fs = fs; listed_here = h; mid = mid; got = got; ends = r }
