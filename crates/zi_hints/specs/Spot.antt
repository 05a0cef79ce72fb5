-- The line and the column of a place in a document, both from 1.
use Rattle.std.specs.Prelude.{ℕ, ◌+◌, nat_eq, nat_le, if◌then◌else◌, List, [], ◌∷◌, ◌++◌, length, take, codes}
use Rattle.std.specs.List.{count_by}
use Rattle.std.specs.Fmt.{decimal}

-- what stands behind the last line feed (10) of the second, or the first where there is none
abbrev pub last_line : List ℕ → List ℕ → List ℕ
last_line text [] = text
last_line text (b ∷ bs) = if nat_eq b 10 then last_line bs bs else last_line text bs

-- a fault behind these bytes: in the line behind so many line feeds, and there behind so many bytes
unfoldable pub at_spot : List ℕ → List ℕ → List ℕ
at_spot front fault =
    fault ++ codes ": line " ++ decimal (count_by (λ b. nat_eq b 10) front + 1) ++ codes ", column " ++ decimal (length (last_line front front) + 1)

-- a fault at a place of a document, which is told where the document is so long
abbrev pub spotted : List ℕ → ℕ → List ℕ → List ℕ
spotted document place fault = if nat_le place (length document) then at_spot (take place document) fault else fault
