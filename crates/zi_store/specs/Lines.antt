-- The lines of a text, and the first in which two texts differ.
use Rattle.std.specs.Prelude.{◌≡◌, ◌≢◌, ℕ, ◌<◌, List, [], ◌∷◌, nat_eq, if◌then◌else◌, slice_get}

-- a byte in front of the first line
abbrev pub in_front : ℕ → List (List ℕ) → List (List ℕ)
in_front c [] = (c ∷ []) ∷ []
in_front c (l ∷ ls) = (c ∷ l) ∷ ls

-- each line with the LF that ends it; the last one may have none
abbrev pub lines_of : List ℕ → List (List ℕ)
lines_of [] = []
lines_of (c ∷ cs) = if nat_eq c 10 then (c ∷ []) ∷ lines_of cs else in_front c (lines_of cs)

-- the texts differ in this line, counted from 0, and in none before it; a line that one of them lacks differs too
pub record DifferFirstIn (a b : List ℕ) (k : ℕ) : Type 0 where
  pub here : slice_get (lines_of a) k ≢ slice_get (lines_of b) k
  pub before : (j : ℕ) → j < k → slice_get (lines_of a) j ≡ slice_get (lines_of b) j
