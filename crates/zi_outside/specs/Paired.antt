-- Launches with their statuses.
use Rattle.std.specs.Prelude.{ℕ, List, [], ◌∷◌, unwrap_or, slice_get}
use Rattle.zi_outside.specs.declared.launch.Launch.{Launch}
use Rattle.zi_outside.specs.Launched.{Ran}

-- launches, each with the status at its place
abbrev pub paired : List Launch → List ℕ → List Ran
paired [] statuses = []
paired (l ∷ ls) [] = []
paired (l ∷ ls) (n ∷ ns) = record { launch = l; status = n } ∷ paired ls ns

-- the status that a launch is answered, by its place: that of the list, and behind its end 0
abbrev pub status_at : List ℕ → ℕ → ℕ
status_at statuses place = unwrap_or (slice_get statuses place) 0
