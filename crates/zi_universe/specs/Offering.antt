-- What the candidates of an interface share, by numbers: each has the place of its feed among those of the interface, and its
-- numbers there.
use Rattle.std.specs.Prelude.{◌≡◌, ℕ, ◌<◌, ◌≤◌, ◌==◌, ◌&&◌, Bool, true, false, if◌then◌else◌, List, map, length, get_or, slice_get, All, Option, Some, None, option_and_then}
use Rattle.std.specs.List.{list_any, AllZip}
use Rattle.std.proofs.Common.{Bor}
use Rattle.std.specs.Map.{lookup}
use Rattle.std.specs.Ordering.{nat_cmp, is_lt}
use Rattle.std.specs.declared.cmp.Ordering.{Ordering}
use Rattle.zi_version.specs.Value.{version_cmp}
use Rattle.zi_version.specs.First.{first_cmp}
use Rattle.zi_policy.specs.declared.types.Policy.{Policy}
use Rattle.zi_rank.specs.declared.rating.Places.{Places}
use Rattle.zi_rank.specs.declared.rating.VersionNumber.{VersionNumber}
use Rattle.zi_rank.specs.Ratings.{places_of, rating_of}
use Rattle.zi_parts.specs.declared.types.Dep.{Dep}
use Rattle.zi_feed.specs.declared.shares.Level.{Level}
use Rattle.zi_feed.specs.declared.shares.Shares.{Shares}
use Rattle.zi_feed.specs.Shares.{AreLevels, deps_at}
use Rattle.zi_universe.specs.declared.types.Candidate.{Candidate}
use Rattle.zi_universe.specs.declared.offers.Offered.{Offered}
use Rattle.zi_universe.specs.declared.offers.Key.{Key}
use Rattle.zi_universe.specs.declared.numbers.PlacedVersion.{PlacedVersion}
use Rattle.zi_universe.specs.declared.ranking.RatedCandidate.{RatedCandidate}
use Rattle.zi_universe.specs.Naming.{Uris, joined}
use Rattle.zi_universe.specs.Candidates.{asked}

abbrev pub candidates_of : List Offered → List Candidate
candidates_of os = map (λ o. o.candidate) os

-- a candidate where it passes a test
abbrev pub given : (Candidate → Bool) → Candidate → Option Candidate
given test c = if test c then Some c else None

-- its feed is one of these, which have what it says under its numbers; its version has none there where it is that of a package
pub record IsNumbered (feeds : List Shares) (o : Offered) : Type 0 where
  pub shares : Shares
  pub there : slice_get feeds o.feed ≡ Some shares
  pub levels : AreLevels shares.levels
  pub version : (n : ℕ) → o.version ≡ Some n → slice_get shares.versions n ≡ Some (Some o.candidate.standing.version)
  pub langs : slice_get shares.langs o.langs ≡ Some o.candidate.standing.langs
  pub level : deps_at shares.levels o.level ≡ Some o.candidate.imp.deps

abbrev pub AreNumbered : List Shares → List Offered → Type 0
AreNumbered feeds os = All (IsNumbered feeds) os

-- What feeds have under a number.

abbrev pub version_at : List Shares → Key → Option (Option (List ℕ))
version_at feeds k = option_and_then (λ s. slice_get s.versions k.number) (slice_get feeds k.feed)

abbrev pub langs_at : List Shares → Key → Option (List (List ℕ))
langs_at feeds k = option_and_then (λ s. slice_get s.langs k.number) (slice_get feeds k.feed)

abbrev pub deps_of : List Shares → Key → Option (List Dep)
deps_of feeds k = option_and_then (λ s. deps_at s.levels k.number) (slice_get feeds k.feed)

abbrev pub HasLangs : List Shares → Key → Type 0
HasLangs feeds k = (ls : List (List ℕ)) × (langs_at feeds k ≡ Some ls)

-- Versions by their places, and by their numbers.

-- what a map has for a key
abbrev pub found_at : {X : Type 0} → Key → List (Key × X) → Option X
found_at k es = lookup (λ q. k.feed == q.feed && k.number == q.number) es

-- the version of a key stands at a place
abbrev pub StandsAt : List Shares → Key → List (List ℕ) → ℕ → Type 0
StandsAt feeds k versions n = (v : List ℕ) → version_at feeds k ≡ Some (Some v) → slice_get versions n ≡ Some v

-- what the map finds is the place of the version
abbrev pub FindsVersions : List Shares → List (Key × ℕ) → List (List ℕ) → Type 0
FindsVersions feeds known versions = (k : Key) → (n : ℕ) → found_at k known ≡ Some n → StandsAt feeds k versions n

-- the versions of candidates
abbrev pub versions_in : List Offered → List (List ℕ)
versions_in os = map (λ o. o.candidate.standing.version) os

-- the versions that are lent
abbrev pub texts_of : List (Bor (List ℕ)) → List (List ℕ)
texts_of vs = map (λ v. v.now) vs

-- at the place of each candidate stands its version
abbrev pub ArePlacedIn : List (List ℕ) → List Offered → List ℕ → Type 0
ArePlacedIn versions os places = AllZip (λ o n. slice_get versions n ≡ Some o.candidate.standing.version) os places

-- an order of versions
abbrev pub VersionOrder : Type 0
VersionOrder = List ℕ → List ℕ → Ordering

-- by an order, those before a place are less than a version, and those from it on aren't
pub record IsBehindLess (cmp : VersionOrder) (versions : List (List ℕ)) (v : List ℕ) (n : ℕ) : Type 0 where
  pub within : n ≤ length versions
  pub less : (k : ℕ) → (d : List ℕ) → k < n → is_lt (cmp (get_or versions k d) v) ≡ true
  pub others : (k : ℕ) → (d : List ℕ) → n ≤ k → k < length versions → is_lt (cmp (get_or versions k d) v) ≡ false

-- so many are less by their first dotted lists, and by the whole
pub record IsCounted (versions : List (List ℕ)) (v : List ℕ) (n : VersionNumber) : Type 0 where
  pub first : IsBehindLess first_cmp versions v n.first
  pub whole : IsBehindLess version_cmp versions v n.whole

-- where nothing is less
abbrev pub least : VersionNumber
least = record { first = 0; whole = 0 }

-- the numbers stand to each other as the versions do
pub record AreNumbersOf (versions : List (List ℕ)) (numbers : List VersionNumber) : Type 0 where
  pub count : length numbers ≡ length versions
  pub first : (i j : ℕ) → (v w : List ℕ) → slice_get versions i ≡ Some v → slice_get versions j ≡ Some w → nat_cmp (get_or numbers i least).first (get_or numbers j least).first ≡ first_cmp v w
  pub whole : (i j : ℕ) → (v w : List ℕ) → slice_get versions i ≡ Some v → slice_get versions j ≡ Some w → nat_cmp (get_or numbers i least).whole (get_or numbers j least).whole ≡ version_cmp v w

-- Versions with their places.

abbrev pub versions_of : List PlacedVersion → List (List ℕ)
versions_of ps = map (λ p. p.version.now) ps

-- each stands at its place
abbrev pub AreAt : List (List ℕ) → List PlacedVersion → Type 0
AreAt versions ps = All (λ p. slice_get versions p.place ≡ Some p.version.now) ps

-- each of so many places is that of one
abbrev pub HasPlaces : ℕ → List PlacedVersion → Type 0
HasPlaces n ps = (k : ℕ) → k < n → (i : ℕ) × (p : PlacedVersion) × (slice_get ps i ≡ Some p) × (p.place ≡ k)

-- Ratings.

-- what the map finds are the places of the languages
abbrev pub FindsPlaces : Policy → List Shares → List (Key × Places) → Type 0
FindsPlaces p feeds known = (k : Key) → (x : Places) → found_at k known ≡ Some x → (ls : List (List ℕ)) → langs_at feeds k ≡ Some ls → x ≡ places_of p ls

-- each candidate has its rating
abbrev pub HaveRatings : Policy → List RatedCandidate → Type 0
HaveRatings p rs = All (λ r. r.rating ≡ rating_of p r.one.candidate.standing) rs

-- Naming.

-- a feed has a level under a number
pub record HasLevel (feeds : List Shares) (k : Key) : Type 0 where
  pub shares : Shares
  pub there : slice_get feeds k.feed ≡ Some shares
  pub levels : AreLevels shares.levels
  pub deps : List Dep
  pub at : deps_at shares.levels k.number ≡ Some deps

-- it is this one
abbrev pub IsLevelAt : List Shares → Key → Level → Type 0
IsLevelAt feeds k l = (s : Shares) → slice_get feeds k.feed ≡ Some s → slice_get s.levels k.number ≡ Some l

-- a key is among these
abbrev pub has_key : Key → List Key → Bool
has_key k keys = list_any (λ q. k.feed == q.feed && k.number == q.number) keys

-- there is one key more
abbrev pub HasOneMore : Key → List Key → List Key → Type 0
HasOneMore key old new = (k : Key) → has_key k new ≡ (if key.feed == k.feed && key.number == k.number then true else has_key k old)

-- what the levels of these keys ask for is among the names
abbrev pub AreNamed : List Shares → List Key → Uris → Type 0
AreNamed feeds keys names = (k : Key) → has_key k keys ≡ true → (ds : List Dep) → deps_of feeds k ≡ Some ds → joined names (asked ds) ≡ names
