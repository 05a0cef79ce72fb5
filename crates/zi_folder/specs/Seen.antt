-- What is seen of a shelf in a real folder: it tells nothing of what it holds, nobody plans a failure of it, and it counts its faults.
use Rattle.std.specs.Prelude.{ℕ, List, [], None}
use Rattle.zi_shelf.specs.Shelving.{Shelving}

-- it stands in this folder; that it is honest isn't claimed
abbrev pub folder_seen : ℕ → List ℕ → Shelving
folder_seen faults root = record { told = None; honest = ⊥; sure = ⊥; in_memory = ⊥; faults = faults; root = root; plan = [] }
