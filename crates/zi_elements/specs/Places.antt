-- Where the elements among nodes stand, and numbers that rise.
use Rattle.std.specs.Prelude.{ℕ, ◌<◌, List, [], ◌∷◌, ◌++◌}
use Rattle.zi_elements.specs.Forest.{Forest, none, words, child}

-- the places of the elements among nodes and in them, in document order
abbrev pub places : Forest → List ℕ
places none = []
places (words t k) = places k
places (child s n attrs f p k) = p ∷ (places f ++ places k)

-- a number is less than each of these
abbrev pub IsBelow : ℕ → List ℕ → Type 0
IsBelow p [] = Unit {0}
IsBelow p (q ∷ qs) = (p < q) × IsBelow p qs

-- each is less than all behind it
abbrev pub AreRising : List ℕ → Type 0
AreRising [] = Unit {0}
AreRising (p ∷ ps) = IsBelow p ps × AreRising ps
