-- A line of a hint.
use Rattle.std.specs.Prelude.{ℕ, List, [], ◌∷◌, ◌++◌, codes, Option, Some, None}
use Rattle.zi_shown.specs.Shown.{shown}

-- the line of a text, in which nothing stands that a terminal would obey
abbrev pub line : List ℕ → List ℕ
line text = codes "hint: " ++ (shown text ++ codes "\n")

-- nothing where there is no text
abbrev pub hint : Option (List ℕ) → List ℕ
hint None = []
hint (Some text) = line text

-- a text that isn't empty
abbrev pub told : List ℕ → Option (List ℕ)
told [] = None
told (c ∷ cs) = Some (c ∷ cs)
