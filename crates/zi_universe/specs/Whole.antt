-- What holds of every universe, and the limits of a loading.
use Rattle.std.specs.Prelude.{◌≡◌, ℕ, ◌<◌, ◌≤◌, List, map, length, sum_by, All, IsSomeAnd, slice_get, Contains}
use Rattle.std.specs.List.{flat_map}
use Rattle.zi_policy.specs.declared.types.Policy.{Policy}
use Rattle.zi_universe.specs.declared.types.Interface.{Interface}
use Rattle.zi_universe.specs.Naming.{Uri, Uris, AreApart}
use Rattle.zi_universe.specs.Candidates.{AreRanked, asked_by}

-- the limits
abbrev pub most_feeds : ℕ
most_feeds = 8192

abbrev pub most_interfaces : ℕ
most_interfaces = 4096

abbrev pub most_candidates : ℕ
most_candidates = 65536

-- in bytes
abbrev pub feed_limit : ℕ
feed_limit = 4194304

abbrev pub uris_of : List Interface → Uris
uris_of is = map (λ i. i.uri) is

abbrev pub candidates_in : List Interface → ℕ
candidates_in is = sum_by (λ i. length i.candidates) is

-- the first interface is that of this address
abbrev pub BeginsWith : List Interface → Uri → Type 0
BeginsWith is root = IsSomeAnd (slice_get is 0) (λ i. i.uri ≡ root)

-- The interfaces of a universe: there is a root; their addresses are distinct; they and their candidates are within limits;
-- each interface that a candidate asks for, by an active dependency or a runner, is there; and the candidates of each stand
-- in the strict order of one policy's rank.
pub record IsWhole (is : List Interface) : Type 0 where
  pub rooted : 0 < length is
  pub apart : AreApart (uris_of is)
  pub few_interfaces : length is ≤ most_interfaces
  pub few_candidates : candidates_in is ≤ most_candidates
  pub closed : (uri : Uri) → Contains (flat_map asked_by is) uri → Contains (uris_of is) uri
  pub policy : Policy
  pub ranked : All (λ i. AreRanked policy i.candidates) is
