-- What is known before a stop: the owned dependencies as rows, one for each interface; which interfaces were come to; the first of
-- each bit group.
use Rattle.std.specs.Prelude.{◌≡◌, ℕ, ◌==◌, ◌<◌, Bool, true, false, List, [], map, length, filter, find, take, slice_index_or, Vec, Option, Some, None}
use Rattle.std.specs.List.{list_any}
use Rattle.std.specs.Option.{option_map}
use Rattle.std.specs.declared.alloc.Global.{Global}
use Rattle.zi_policy.specs.declared.types.Width.{Width}
use Rattle.zi_policy.specs.declared.types.Width.TheVariants.{Any, Bits32, Bits64}
use Rattle.zi_universe.specs.declared.types.Candidate.{Candidate}
use Rattle.zi_universe.specs.declared.types.Interface.{Interface}
use Rattle.zi_choice.specs.declared.traced.Stop.{Stop}
use Rattle.zi_choice.specs.declared.traced.Stop.TheVariants.{Came, Needed}
use Rattle.zi_choice.specs.Choice.{Choice, chosen}
use Rattle.zi_choice.specs.Valid.{group}
use Rattle.zi_choice.specs.Stops.{came_to, interface_of}
use Rattle.zi_why.specs.Reasons.{Owned as AnOwned, is_on, owned}
use Rattle.zi_why.specs.declared.known.Owned.{Owned}
use Rattle.zi_why.specs.declared.known.Known.{Known}
use Rattle.zi_why.specs.declared.setting.Setting.{Setting}

abbrev pub universe_of : Setting → List Interface
universe_of on = on.names.now

abbrev pub picks_of : Setting → Choice
picks_of on = on.picks.now

-- the stops before one
abbrev pub before : Setting → ℕ → List Stop
before on n = take n on.stops.now

abbrev pub as_owned : Owned → AnOwned
as_owned o = record { owner = o.owner; dep = o.dep.now }

abbrev pub owner_of : AnOwned → ℕ
owner_of o = o.owner

abbrev pub row_at : List (Vec Owned Global) → ℕ → List Owned
row_at rows r = slice_index_or (map (λ v. v.items) rows) r []

-- each row has exactly those of a list that are on its interface, in order
abbrev pub RowsAre : List Interface → List (Vec Owned Global) → List AnOwned → Type 0
RowsAre u rows os = (q : ℕ) → q < length rows → map as_owned (row_at rows q) ≡ filter (is_on u q) os

-- so many rows, with nothing in them
abbrev pub AreEmpty : ℕ → List (Vec Owned Global) → Type 0
AreEmpty n rows = (length rows ≡ n) × ((q : ℕ) → row_at rows q ≡ [])

-- the choice at a stop is of a bit group
abbrev pub same_width : Width → Width → Bool
same_width Any Any = true
same_width Any Bits32 = false
same_width Any Bits64 = false
same_width Bits32 Any = false
same_width Bits32 Bits32 = true
same_width Bits32 Bits64 = false
same_width Bits64 Any = false
same_width Bits64 Bits32 = false
same_width Bits64 Bits64 = true

abbrev pub is_of_width : Width → Option Candidate → Bool
is_of_width w None = false
is_of_width w (Some c) = same_width w (group c)

abbrev pub is_width_at : List Interface → Choice → Width → Stop → Bool
is_width_at u s w (Came j) = is_of_width w (chosen u s j)
is_width_at u s w (Needed j name) = false

abbrev pub first_of_width : List Interface → Choice → Width → List Stop → Option ℕ
first_of_width u s w xs = option_map interface_of (find (is_width_at u s w) xs)

-- the first whose choice is of the other bit group than this
abbrev pub other_of : Known → Width → Option ℕ
other_of known Any = None
other_of known Bits32 = known.wide
other_of known Bits64 = known.narrow

-- what is known behind these stops
pub record KnowsOf (u : List Interface) (s : Choice) (xs : List Stop) (known : Known) : Type 0 where
  pub len : length known.bearing.items ≡ length u
  pub rows : RowsAre u known.bearing.items (owned u s xs)
  pub came : (j : ℕ) → list_any (λ k. j == k) known.came.keys ≡ came_to xs j
  pub narrow : known.narrow ≡ first_of_width u s Bits32 xs
  pub wide : known.wide ≡ first_of_width u s Bits64 xs

abbrev pub Knows : Setting → ℕ → Known → Type 0
Knows on n known = KnowsOf (universe_of on) (picks_of on) (before on n) known
