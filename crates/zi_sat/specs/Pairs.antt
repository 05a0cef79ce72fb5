-- How the pairs of places are held: a number for each place, and the pairs of those that have one.
use Rattle.std.specs.Prelude.{ℕ, zero, suc, ◌<◌, ◌≤◌, false, List, [], ◌∷◌, length, map, get_or, Option, Some, None}
use Rattle.zi_sat.specs.declared.pair.Pair.{Pair}
use Rattle.zi_sat.specs.declared.pairs.Pairs.TheInside.{Inside}

abbrev pub no_pair : Pair
no_pair = record { first = record { variable = 0; positive = false }; second = record { variable = 0; positive = false } }

-- what a number says: no pair, or the one that stands before it
abbrev pub held : List Pair → ℕ → Option Pair
held ps zero = None
held ps (suc k) = Some (get_or ps k no_pair)

abbrev pub pairs_of : Inside → List (Option Pair)
pairs_of a = map (held a.pairs.items) a.places.items

-- from one place on, each number says a pair behind those that the earlier ones say, and before an end
abbrev pub StandApart : ℕ → ℕ → List ℕ → Type 0
StandApart from end [] = from ≤ end
StandApart from end (zero ∷ ns) = StandApart from end ns
StandApart from end (suc k ∷ ns) = (from ≤ k) × (k < end) × StandApart (suc k) end ns

-- no two places have one pair
abbrev pub AreApart : Inside → Type 0
AreApart a = StandApart 0 (length a.pairs.items) a.places.items
