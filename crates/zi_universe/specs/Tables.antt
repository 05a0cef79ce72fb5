-- Tables of feeds by their addresses, and the readings that agree with them. What is inactive was left out of the feeds of a
-- table when they were read.
use Rattle.std.specs.Prelude.{◌≡◌, ℕ, List, [], map, filter, find, bytes_eq, Option, option_map, unwrap_or, All}
use Rattle.std.specs.List.{filter_map, flat_map, enumerate_from}
use Rattle.zi_policy.specs.declared.types.Policy.{Policy}
use Rattle.zi_feed.specs.Active.{active_feed}
use Rattle.zi_parts.specs.declared.types.Impl.{Impl}
use Rattle.zi_feed.specs.declared.feed.Feed.{Feed}
use Rattle.zi_feed.specs.declared.shares.ReadFeed.{ReadFeed}
use Rattle.zi_feed.specs.Shares.{AreShared, NativesAreShared}
use Rattle.zi_outside.specs.Views.{Holding}
use Rattle.zi_universe.specs.declared.types.Requirement.{Requirement}
use Rattle.zi_universe.specs.declared.types.Candidate.{Candidate}
use Rattle.zi_universe.specs.Naming.{Uri, Uris}
use Rattle.zi_universe.specs.Candidates.{Store, imports_of, standing_of, all_impls, is_admitted}
use Rattle.zi_universe.specs.Loading.{IsRead, Reading}

abbrev pub addresses : List Feed → Uris
addresses fs = map (λ f. f.uri) fs

abbrev pub find_feed : List Feed → Uri → Option Feed
find_feed fs uri = find (λ f. bytes_eq uri f.uri) fs

-- the shares that were read beside a feed are those of its implementations and of the packages that it names
pub record HasShares (r : ReadFeed) : Type 0 where
  pub impls : AreShared r.shares r.feed.impls
  pub natives : NativesAreShared r.shares r.feed.natives

-- those of these addresses that are there
abbrev pub feeds_at : List Feed → Uris → List Feed
feeds_at fs uris = filter_map (find_feed fs) uris

-- what the feed at an address imports, where it is there
abbrev pub imports_at : Policy → List Feed → Uri → Uris
imports_at p fs uri = unwrap_or (option_map (imports_of p) (find_feed fs uri)) []

-- an implementation of a feed of the table as a candidate, as it is
abbrev pub as_it_is : Policy → Store → Uri → Uri → ℕ → Impl → Candidate
as_it_is p stored interface feed place i = record { standing = standing_of p stored interface feed place i; imp = i }

abbrev pub held_from : Policy → Store → Uri → Uri → ℕ → List Impl → List Candidate
held_from p stored interface feed place is = map (λ q. as_it_is p stored interface feed q.0 q.1) (enumerate_from place is)

-- what a feed of the table has for an interface, and feeds of it, of what is admitted
abbrev pub held_by : Requirement → Policy → Store → Uri → Feed → List Candidate
held_by req p stored interface f = filter (is_admitted req p interface) (held_from p stored interface f.uri 0 (all_impls stored.packages f))

abbrev pub held : Requirement → Policy → Store → Uri → List Feed → List Candidate
held req p stored interface feeds = flat_map (held_by req p stored interface) feeds

-- the feed is what is active of the one at an address
abbrev pub IsActiveOf : Option Holding → Uri → Policy → Uri → Feed → Type 0
IsActiveOf told root p uri f = (read : Feed) × IsRead told root uri read × (f ≡ active_feed p read)

-- each of them is what is active of the feed that the reading gives at its address
abbrev pub Agrees : Policy → Reading → List Feed → Type 0
Agrees p at fs = All (λ f. active_feed p (at f.uri) ≡ f) fs

abbrev pub AllRead : Option Holding → Uri → Policy → List Feed → Type 0
AllRead told root p fs = All (λ f. IsActiveOf told root p f.uri f) fs
