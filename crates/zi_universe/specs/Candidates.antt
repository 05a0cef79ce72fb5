-- The candidates of an interface: which implementations of its feeds may be used, in rank order (the documented policy of
-- the 0install solver, as this project narrows it).
use Rattle.std.specs.Prelude.{ℕ, ◌==◌, Bool, true, false, not, ◌&&◌, ◌||◌, if◌then◌else◌, List, [], ◌∷◌, ◌++◌, length, map, filter, find, bytes_eq, is_some, is_none, Option, Some, None, unwrap_or, option_map, IsPermutation, AllPairs}
use Rattle.std.specs.List.{list_any, list_all, flat_map, enumerate_from}
use Rattle.zi_version.specs.Range.{admits}
use Rattle.zi_policy.specs.declared.types.Policy.{Policy}
use Rattle.zi_policy.specs.declared.types.Stability.{Stability}
use Rattle.zi_policy.specs.Platform.{is_run, holds_where_asked}
use Rattle.zi_digest.specs.Name.{spelling}
use Rattle.zi_rank.specs.declared.types.Standing.{Standing}
use Rattle.zi_rank.specs.declared.types.Origin.{Origin}
use Rattle.zi_rank.specs.declared.types.Origin.TheVariants as origin
use Rattle.zi_rank.specs.Languages.{base}
use Rattle.zi_rank.specs.Reasons.{why_not}
use Rattle.zi_rank.specs.Rank.{Before}
use Rattle.zi_feed.specs.Active.{active_part}
use Rattle.zi_parts.specs.declared.types.Dep.{Dep}
use Rattle.zi_parts.specs.declared.types.DepKind.{DepKind}
use Rattle.zi_parts.specs.declared.types.DepKind.TheVariants.{Essential, Recommended, Restricts}
use Rattle.zi_parts.specs.declared.types.Runner.{Runner}
use Rattle.zi_parts.specs.declared.types.Command.{Command}
use Rattle.zi_parts.specs.declared.types.Impl.{Impl}
use Rattle.zi_parts.specs.declared.types.Package.{Package}
use Rattle.zi_parts.specs.declared.types.Import.{Import}
use Rattle.zi_feed.specs.declared.feed.Feed.{Feed}
use Rattle.zi_packages.specs.declared.types.Packages.{Packages}
use Rattle.zi_packages.specs.Natives.{with_rows}
use Rattle.zi_universe.specs.declared.types.Limit.{Limit}
use Rattle.zi_universe.specs.declared.types.Requirement.{Requirement}
use Rattle.zi_universe.specs.declared.types.Candidate.{Candidate}
use Rattle.zi_universe.specs.declared.types.Interface.{Interface}
use Rattle.zi_universe.specs.Naming.{Uri, Uris}

-- Imports.

-- one of the languages has the base of one that is wanted
abbrev pub speaks : Uris → Uris → Bool
speaks wanted langs = list_any (λ w. list_any (λ t. bytes_eq (base t) (base w)) langs) wanted

-- no languages suit everyone
unfoldable pub suits : Uris → Uris → Bool
suits wanted langs = length langs == 0 || speaks wanted langs

-- an import isn't skipped: its platform is run, and its languages suit the user
unfoldable pub is_followed : Policy → Import → Bool
is_followed p m = holds_where_asked (is_run p) m.arch && suits p.langs m.langs

-- the addresses that a feed imports, in the order of the document
abbrev pub imports_of : Policy → Feed → Uris
imports_of p f = map (λ m. m.uri) (filter (is_followed p) f.imports)

-- An implementation as a candidate.

-- the policy's stability for an interface and an id, or else the feed's
unfoldable pub stability_of : Policy → Uri → Impl → Stability
stability_of p interface i =
    unwrap_or (option_map (λ o. o.stability) (find (λ o. bytes_eq o.interface interface && bytes_eq o.id i.id) p.overrides)) i.stability

-- what a machine has
pub record Store : Type 0 where
  -- which names are those of trees that are stored
  pub trees : List ℕ → Bool
  -- the packages of the operating system
  pub packages : Packages

abbrev pub has_items : {X : Type 0} → List X → Bool
has_items xs = not (length xs == 0)

-- one of its digests has a name that is in the store
unfoldable pub is_stored : Store → Impl → Bool
is_stored stored i = list_any (λ d. stored.trees (spelling d)) i.digests

-- a feed alone, or a package of the operating system
abbrev pub origin_of : Option Package → Origin
origin_of None = origin.Feed
origin_of (Some p) = if p.installed then origin.Installed else origin.Available

-- an implementation of a feed, as one for an interface, at a place among those of the feed
unfoldable pub standing_of : Policy → Store → Uri → Uri → ℕ → Impl → Standing
standing_of p stored interface feed place i = record {
  version = i.version;
  id = i.id;
  feed = feed;
  place = place;
  arch = i.arch;
  langs = i.langs;
  stability = stability_of p interface i;
  local = is_some i.local;
  stored = is_stored stored i;
  retrievable = has_items i.digests && has_items i.methods;
  origin = origin_of i.«package»;
}

abbrev pub candidate_of : Policy → Store → Uri → Uri → ℕ → Impl → Candidate
candidate_of p stored interface feed place i =
    record { standing = standing_of p stored interface feed place i; imp = active_part p i }

-- implementations of a feed as ones for an interface, each with its place, the first with this one
abbrev pub offered_from : Policy → Store → Uri → Uri → ℕ → List Impl → List Candidate
offered_from p stored interface feed place is = map (λ q. candidate_of p stored interface feed q.0 q.1) (enumerate_from place is)

-- the implementations of a feed: those that its elements say, and behind them those of the packages that it names
abbrev pub all_impls : Packages → Feed → List Impl
all_impls t f = with_rows t f.impls f.natives

-- what a feed holds, as ones for an interface
abbrev pub offered_by : Policy → Store → Uri → Feed → List Candidate
offered_by p stored interface f = offered_from p stored interface f.uri 0 (all_impls stored.packages f)

-- The candidates.

-- every limit for the interface admits the version
unfoldable pub within_limits : List Limit → Uri → List ℕ → Bool
within_limits limits interface v = list_all (λ l. not (bytes_eq l.interface interface) || admits l.range v) limits

-- nothing stands against it: it may be used, and the limits admit its version
abbrev pub is_admitted : Requirement → Policy → Uri → Candidate → Bool
is_admitted req p interface c = is_none (why_not p c.standing) && within_limits req.limits interface c.standing.version

abbrev pub admitted_by : Requirement → Policy → Store → Uri → Feed → List Candidate
admitted_by req p stored interface f = filter (is_admitted req p interface) (offered_by p stored interface f)

-- those of the feeds of an interface, feed by feed
abbrev pub admitted : Requirement → Policy → Store → Uri → List Feed → List Candidate
admitted req p stored interface feeds = flat_map (admitted_by req p stored interface) feeds

-- each stands before all behind it
abbrev pub AreRanked : Policy → List Candidate → Type 0
AreRanked p cs = AllPairs (λ (c d : Candidate). Before p c.standing d.standing) cs

-- these, in the order of rank
pub record AreCandidates (req : Requirement) (p : Policy) (stored : Store) (interface : Uri) (feeds : List Feed) (cs : List Candidate) : Type 0 where
  pub same : IsPermutation (admitted req p stored interface feeds) cs
  pub ranked : AreRanked p cs

-- What is asked for.

-- a dependency asks for its interface, unless it only restricts it
abbrev pub kind_asks : DepKind → Bool
kind_asks Essential = true
kind_asks Recommended = true
kind_asks Restricts = false

abbrev pub asks : Dep → Bool
asks d = kind_asks d.kind

-- what dependencies, a runner, a command, an implementation and an interface ask for, in the order of the document
abbrev pub asked : List Dep → Uris
asked ds = map (λ d. d.interface) (filter asks ds)

abbrev pub asked_by_runner : Option Runner → Uris
asked_by_runner None = []
asked_by_runner (Some r) = r.dep.interface ∷ []

unfoldable pub asked_by_command : Command → Uris
asked_by_command k = asked k.deps ++ asked_by_runner k.runner

unfoldable pub asked_by_impl : Impl → Uris
asked_by_impl i = asked i.deps ++ flat_map asked_by_command i.commands

abbrev pub asked_by_all : List Candidate → Uris
asked_by_all cs = flat_map (λ c. asked_by_impl c.imp) cs

abbrev pub asked_by : Interface → Uris
asked_by i = asked_by_all i.candidates
