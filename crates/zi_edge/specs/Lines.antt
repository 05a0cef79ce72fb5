-- A line that is put in pieces: what is written of each, where a line feed at the end of one is held back.
use Rattle.std.specs.Prelude.{ℕ, ◌==◌, Bool, true, false, List, [], ◌∷◌, ◌++◌, if◌then◌else◌}
use Rattle.zi_shown.specs.Shown.{shown, shown_bytes}

-- a line feed stands at the end
abbrev pub ends_line : List ℕ → Bool
ends_line [] = false
ends_line (b ∷ []) = b == 10
ends_line (b ∷ c ∷ bs) = ends_line (c ∷ bs)

-- what stands before it
abbrev pub body : List ℕ → List ℕ
body [] = []
body (b ∷ []) = if b == 10 then [] else b ∷ []
body (b ∷ c ∷ bs) = b ∷ body (c ∷ bs)

-- a line feed that was held back and ends no line
abbrev pub held_back : Bool → List ℕ
held_back true = shown (10 ∷ [])
held_back false = []

-- what is written of a piece
abbrev pub written_of : Bool → List ℕ → List ℕ
written_of held [] = []
written_of held (b ∷ bs) = held_back held ++ shown_bytes (body (b ∷ bs))

-- whether a line feed is held back then
abbrev pub held_after : Bool → List ℕ → Bool
held_after held [] = held
held_after held (b ∷ bs) = ends_line (b ∷ bs)

-- what is written of a line when so much was put
abbrev pub line_so_far : List ℕ → List ℕ
line_so_far all = shown (body all)
