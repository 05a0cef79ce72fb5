-- The name of the file in which a folder of feeds keeps what is at a web address.
use Rattle.std.specs.Prelude.{ℕ, ◌<◌, ◌/◌, ◌%◌, ◌||◌, ◌==◌, Bool, true, List, [], ◌∷◌, if◌then◌else◌}
use Rattle.std.specs.List.{flat_map}
use Rattle.std.specs.Char.{is_ascii_alphanumeric}
use Rattle.std.specs.Fmt.{digit_glyph}

-- a letter or digit of ASCII, `-`, `.` or `_`
abbrev pub is_plain : ℕ → Bool
is_plain b = is_ascii_alphanumeric b || b == 45 || b == 46 || b == 95

-- `%` and the byte's two upper-case hexadecimal digits (RFC 3986, 2.1)
abbrev pub escape : ℕ → List ℕ
escape b = 37 ∷ digit_glyph true (b / 16 % 16) ∷ digit_glyph true (b % 16) ∷ []

-- each byte but the plain ones is escaped
unfoldable pub file_name : List ℕ → List ℕ
file_name address = flat_map (λ b. if is_plain b then b ∷ [] else escape b) address

-- the number is a byte
abbrev pub IsByte : ℕ → Type 0
IsByte b = b < 256
