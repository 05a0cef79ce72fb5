-- Small words about texts.
use Rattle.std.specs.Prelude.{ℕ, Bool, ◌==◌, List, ◌∷◌, bytes_eq, length}
use Rattle.zi_text.specs.Pieces.{pieces}

unfoldable pub same : List ℕ → List ℕ → Bool
same = bytes_eq

abbrev pub is_none : {X : Type 0} → List X → Bool
is_none xs = length xs == 0

-- all pieces of a text between separators
abbrev pub pieces_of : ℕ → List ℕ → List (List ℕ)
pieces_of c text = (pieces c text).0 ∷ (pieces c text).1
