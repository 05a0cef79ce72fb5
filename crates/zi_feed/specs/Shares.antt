-- What the implementations and the packages of a feed share, by numbers. Nothing of it is in the feed: a number is a place in a table, and says
-- that two of one number have one value.
use Rattle.std.specs.Prelude.{◌≡◌, ℕ, ◌<◌, List, ◌++◌, length, take, slice_get, Option, Some, Result, Ok, Err}
use Rattle.std.specs.Option.{option_map}
use Rattle.zi_parts.specs.declared.types.Dep.{Dep}
use Rattle.zi_parts.specs.declared.types.Impl.{Impl}
use Rattle.zi_parts.specs.declared.types.Native.{Native}
use Rattle.zi_feed.specs.declared.feed.Feed.{Feed}
use Rattle.zi_faults.specs.declared.fault.FeedFault.{FeedFault}
use Rattle.zi_feed.specs.declared.shares.Level.{Level}
use Rattle.zi_feed.specs.declared.shares.Numbers.{Numbers}
use Rattle.zi_feed.specs.declared.shares.NativeNumbers.{NativeNumbers}
use Rattle.zi_feed.specs.declared.shares.Shares.{Shares}
use Rattle.zi_feed.specs.declared.shares.Gathered.{Gathered}
use Rattle.zi_feed.specs.declared.shares.ReadFeed.{ReadFeed}

-- the dependencies of the level of a number
abbrev pub deps_at : List Level → ℕ → Option (List Dep)
deps_at levels n = option_map (λ l. l.deps) (slice_get levels n)

-- those around a level are the dependencies of a level of a smaller number
abbrev pub IsLevel : List Level → ℕ → Level → Type 0
IsLevel levels n l = 0 < l.around → (l.outer < n) × (deps_at levels l.outer ≡ Some (take l.around l.deps))

abbrev pub AreLevels : List Level → Type 0
AreLevels levels = (n : ℕ) → (l : Level) → slice_get levels n ≡ Some l → IsLevel levels n l

-- these stand in the tables under these numbers
pub record NumbersFit (s : Shares) (n : Numbers) (v : Option (List ℕ)) (ls : List (List ℕ)) (ds : List Dep) : Type 0 where
  pub version : slice_get s.versions n.version ≡ Some v
  pub langs : slice_get s.langs n.langs ≡ Some ls
  pub level : deps_at s.levels n.level ≡ Some ds

abbrev pub HasNumbers : Shares → Numbers → Impl → Type 0
HasNumbers s n i = NumbersFit s n (Some i.version) i.langs i.deps

-- these are the shares of these implementations: each has its numbers, in their order
pub record AreShared (s : Shares) (is : List Impl) : Type 0 where
  pub levels : AreLevels s.levels
  pub count : length s.of ≡ length is
  pub each : (k : ℕ) → (n : Numbers) → (i : Impl) → slice_get s.of k ≡ Some n → slice_get is k ≡ Some i → HasNumbers s n i

-- the same of what a feed says of a package, which has no version
pub record HasNativeNumbers (s : Shares) (n : NativeNumbers) (i : Native) : Type 0 where
  pub langs : slice_get s.langs n.langs ≡ Some i.langs
  pub level : deps_at s.levels n.level ≡ Some i.deps

pub record NativesAreShared (s : Shares) (is : List Native) : Type 0 where
  pub count : length s.of_natives ≡ length is
  pub each : (k : ℕ) → (n : NativeNumbers) → (i : Native) → slice_get s.of_natives k ≡ Some n → slice_get is k ≡ Some i → HasNativeNumbers s n i

-- what was gathered has its shares
pub record IsGathered (g : Gathered) : Type 0 where
  pub impls : AreShared g.shares g.impls
  pub natives : NativesAreShared g.shares g.natives

-- a table only grows
pub record Grows {X : Type 0} (old new : List X) : Type 0 where
  pub more : List X
  pub is : new ≡ old ++ more

-- all tables do
pub record TablesGrow (old new : Shares) : Type 0 where
  pub versions : Grows old.versions new.versions
  pub langs : Grows old.langs new.langs
  pub levels : Grows old.levels new.levels

-- what an element says is added, for no implementation or package yet
pub record Adds (old new : Shares) : Type 0 where
  pub tables : TablesGrow old new
  pub levels : AreLevels new.levels
  pub of : new.of ≡ old.of
  pub of_natives : new.of_natives ≡ old.of_natives

-- implementations and packages were added, with their numbers
pub record Gathers (old new : Gathered) : Type 0 where
  pub tables : TablesGrow old.shares new.shares
  pub right : IsGathered new

-- the feed alone of what was read
abbrev pub feed_in : Result ReadFeed FeedFault → Result Feed FeedFault
feed_in (Ok r) = Ok r.feed
feed_in (Err e) = Err e
