-- How the parts of a loading go on: what its functions promise one another. The feeds got so far are a list, each with its
-- address; what holds of them holds for every reading that agrees with them.
use Rattle.std.specs.Prelude.{◌≡◌, ℕ, ◌+◌, ◌<◌, ◌≤◌, Bool, false, List, [], ◌∷◌, ◌++◌, map, length, take, slice_get, Option, Some, None, IfSome, IsSomeAnd, Result, Ok, Err, IsPermutation, bytes_eq, ◌==◌, ◌&&◌}
use Rattle.std.specs.List.{IsDistinct}
use Rattle.zi_policy.specs.declared.types.Policy.{Policy}
use Rattle.zi_policy.specs.Platform.{listed}
use Rattle.zi_feed.specs.Active.{active_feed}
use Rattle.zi_feed.specs.declared.feed.Feed.{Feed}
use Rattle.zi_feed.specs.declared.shares.ReadFeed.{ReadFeed}
use Rattle.zi_outside.specs.Views.{Holding}
use Rattle.zi_universe.specs.declared.types.Requirement.{Requirement}
use Rattle.zi_universe.specs.declared.types.Interface.{Interface}
use Rattle.zi_universe.specs.declared.types.Candidate.{Candidate}
use Rattle.zi_universe.specs.declared.loading.Loading.{Loading}
use Rattle.zi_universe.specs.declared.fault.LoadFault.{LoadFault}
use Rattle.zi_universe.specs.declared.fault.LoadFault.TheVariants as fault
use Rattle.zi_universe.specs.Naming.{Uri, Uris, with_one, joined, IsNamed}
use Rattle.zi_universe.specs.Candidates.{Store, imports_of, AreRanked, asked_by_all}
use Rattle.zi_universe.specs.Whole.{candidates_in, most_feeds, most_interfaces, most_candidates, feed_limit}
use Rattle.zi_universe.specs.Loading.{Says, HasFault, IsHeld, Reading, reached, HasCome}
use Rattle.zi_universe.specs.Tables.{addresses, feeds_at, held, IsActiveOf, Agrees, AllRead}

-- Refusals.

-- want of memory says nothing
abbrev pub UnlessMemory : LoadFault → Type 0 → Type 0
UnlessMemory fault.Memory P = Unit {0}
UnlessMemory e P = P

-- the bytes at an address are refused
abbrev pub RefusesBytes : Uri → List ℕ → LoadFault → Type 0
RefusesBytes uri bytes (fault.BadFeed u why) = (u ≡ uri) × HasFault uri bytes why
RefusesBytes uri bytes fault.Memory = Unit {0}
RefusesBytes uri bytes e = ⊥

-- the feed at an address is refused
abbrev pub RefusesFeed : Option Holding → Uri → Uri → LoadFault → Type 0
RefusesFeed told root uri (fault.FeedRead u) = u ≡ uri
RefusesFeed told root uri fault.NoRootFeed = (uri ≡ root) × IsHeld told uri None
RefusesFeed told root uri (fault.BadFeed u why) =
    (u ≡ uri) × ((bytes : List ℕ) × IsHeld told uri (Some bytes) × (length bytes ≤ feed_limit) × HasFault uri bytes why)
RefusesFeed told root uri (fault.FeedTooLong u limit) =
    (u ≡ uri) × (limit ≡ feed_limit) × IfSome told (λ holds. IsSomeAnd (holds uri) (λ bytes. feed_limit < length bytes))
RefusesFeed told root uri fault.Memory = Unit {0}
RefusesFeed told root uri e = ⊥

-- one feed more, after so many, is refused
abbrev pub RefusesNext : Option Holding → Uri → ℕ → Uri → LoadFault → Type 0
RefusesNext told root got uri (fault.TooManyFeeds limit) = (limit ≡ most_feeds) × (got ≡ most_feeds)
RefusesNext told root got uri e = (got < most_feeds) × RefusesFeed told root uri e

-- One feed.

-- the feed alone of what was got
abbrev pub feed_got : Result ReadFeed LoadFault → Result Feed LoadFault
feed_got (Ok r) = Ok r.feed
feed_got (Err e) = Err e

-- the feed is what is active of the one that the bytes say
abbrev pub SaysActive : Policy → Uri → List ℕ → Feed → Type 0
SaysActive p uri bytes f = (said : Feed) × Says uri bytes said × (f ≡ active_feed p said)

abbrev pub Fetches : Option Holding → Uri → Policy → Uri → Result Feed LoadFault → Type 0
Fetches told root p uri (Ok feed) = (feed.uri ≡ uri) × IsActiveOf told root p uri feed
Fetches told root p uri (Err e) = RefusesFeed told root uri e

-- the feed at an address was got, unless it was there
pub record GetsOnce (told : Option Holding) (root : Uri) (p : Policy) (uri : Uri) (old new : List Feed) : Type 0 where
  pub more : List Feed
  pub grown : new ≡ old ++ more
  pub places : addresses new ≡ with_one (addresses old) uri
  pub read : AllRead told root p more
  pub few : length old ≤ most_feeds → length new ≤ most_feeds

-- it wasn't there, and was refused
pub record StopsOnce (told : Option Holding) (root uri : Uri) (old : List Feed) (e : LoadFault) : Type 0 where
  pub new : listed uri (addresses old) ≡ false
  pub refused : RefusesNext told root (length old) uri e

-- The feeds of an interface.

-- The first n of those in here were looked at: the table grew by theirs, and here by what they import.
pub record HasListed (told : Option Holding) (root : Uri) (p : Policy) (interface : Uri) (start : List Feed) (here : Uris) (n : ℕ) (fs : List Feed) : Type 0 where
  pub named : (at : Reading) → Agrees p at fs → IsNamed interface (map (λ u. imports_of p (at u)) (take n here)) here
  pub more : List Feed
  pub grown : fs ≡ start ++ more
  pub places : addresses fs ≡ joined (addresses start) (take n here)
  pub read : AllRead told root p more
  pub few : length fs ≤ most_feeds

-- the next of them is refused
pub record StopsListing (told : Option Holding) (root : Uri) (p : Policy) (interface : Uri) (start : List Feed) (e : LoadFault) : Type 0 where
  pub here : Uris
  pub n : ℕ
  pub fs : List Feed
  pub listed : HasListed told root p interface start here n fs
  pub uri : Uri
  pub turn : slice_get here n ≡ Some uri
  pub stops : StopsOnce told root uri fs e

-- The feeds of an interface were found, and this is what they have for it.
pub record Gathers (told : Option Holding) (req : Requirement) (p : Policy) (stored : Store) (interface : Uri) (start : List Feed) (offered : List Candidate) (fs : List Feed) : Type 0 where
  pub here : Uris
  pub feeds : HasListed told req.interface p interface start here (length here) fs
  pub are : offered ≡ held req p stored interface (feeds_at fs here)

-- There are too many of them already.
abbrev pub StopsGathering : List Candidate → LoadFault → Type 0
StopsGathering offered (fault.TooManyCandidates limit) = (limit ≡ most_candidates) × (most_candidates < length offered)
StopsGathering offered fault.Memory = Unit {0}
StopsGathering offered e = ⊥

-- The interfaces.

-- These interfaces are done, over the feeds of the table, and names are the root and what they ask for.
pub record HasLoaded (told : Option Holding) (req : Requirement) (p : Policy) (stored : Store) (done : List Interface) (names : Uris) (fs : List Feed) : Type 0 where
  pub groups : List Uris
  pub come : (at : Reading) → Agrees p at fs → HasCome at req p stored done groups names
  pub places : addresses fs ≡ reached groups
  pub read : AllRead told req.interface p fs
  pub few : length fs ≤ most_feeds

-- the state is as far as that, and counts the candidates
pub record IsAt (told : Option Holding) (req : Requirement) (p : Policy) (stored : Store) (s : Loading) : Type 0 where
  pub loaded : HasLoaded told req p stored s.done s.names.keys s.table
  pub counted : s.count ≡ candidates_in s.done

-- nothing is done, and the root is asked for
pub record IsBegun (root : Uri) (s : Loading) : Type 0 where
  pub names : s.names.keys ≡ root ∷ []
  pub table : s.table ≡ []
  pub done : s.done ≡ []
  pub count : s.count ≡ 0

-- where a candidate stands: its feed, and its place in it
abbrev pub place_of : Candidate → Uri × ℕ
place_of c = (c.standing.feed, c.standing.place)

abbrev pub alike : Uri × ℕ → Uri × ℕ → Bool
alike a b = bytes_eq a.0 b.0 && a.1 == b.1

-- no two of them stand at one place of one feed
abbrev pub ArePlaced : List Candidate → Type 0
ArePlaced cs = IsDistinct alike (map place_of cs)

-- these are the candidates, in rank order where their places differ
pub record IsSorting (p : Policy) (offered cs : List Candidate) : Type 0 where
  pub same : IsPermutation offered cs
  pub ranked : ArePlaced offered → AreRanked p cs

-- one interface more is done: it has these candidates, sorted, and what they ask for is named
pub record Finishes (p : Policy) (uri : Uri) (offered : List Candidate) (old new : Loading) : Type 0 where
  pub cs : List Candidate
  pub sorting : IsSorting p offered cs
  pub done : new.done ≡ old.done ++ record { uri = uri; candidates = cs } ∷ []
  pub names : new.names.keys ≡ joined old.names.keys (asked_by_all cs)
  pub table : new.table ≡ old.table
  pub count : new.count ≡ old.count + length cs
  pub few_candidates : new.count ≤ most_candidates
  pub few_interfaces : length new.names.keys ≤ most_interfaces

-- the candidates are too many
abbrev pub PassesCandidates : List Candidate → Loading → Type 0
PassesCandidates offered old = most_candidates < old.count + length offered

-- what they ask for is too much
pub record PassesInterfaces (p : Policy) (offered : List Candidate) (old : Loading) : Type 0 where
  pub cs : List Candidate
  pub sorting : IsSorting p offered cs
  pub few_candidates : old.count + length cs ≤ most_candidates
  pub many : most_interfaces < length (joined old.names.keys (asked_by_all cs))

abbrev pub StopsFinishing : Policy → List Candidate → Loading → LoadFault → Type 0
StopsFinishing p offered old (fault.TooManyCandidates limit) = (limit ≡ most_candidates) × PassesCandidates offered old
StopsFinishing p offered old (fault.TooManyInterfaces limit) = (limit ≡ most_interfaces) × PassesInterfaces p offered old
StopsFinishing p offered old fault.Memory = Unit {0}
StopsFinishing p offered old e = ⊥

-- the next interface is done
pub record LoadsNext (told : Option Holding) (req : Requirement) (p : Policy) (stored : Store) (old new : Loading) : Type 0 where
  pub at : IsAt told req p stored new
  pub one : length new.done ≡ length old.done + 1
