-- What a decider has taken in of a trail.
use Rattle.std.specs.Prelude.{◌≡◌, ℕ, List, ◌++◌, take}
use Rattle.zi_sat.specs.declared.entry.Entry.{Entry}

-- it is a first part of the entries
abbrev pub Behind : List Entry → List Entry → Type 0
Behind ts es = (rest : List Entry) × (es ≡ ts ++ rest)

-- it was, before the trail went back
abbrev pub Back : List Entry → List Entry → Type 0
Back ts fs = (es : List Entry) × (n : ℕ) × Behind ts es × (fs ≡ take n es)
