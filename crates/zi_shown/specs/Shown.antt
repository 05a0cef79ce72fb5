-- How texts and bytes are shown in a line on a terminal.
use Rattle.std.specs.Prelude.{ℕ, ◌/◌, ◌%◌, ◌==◌, Bool, false, not, ◌||◌, List, [], ◌∷◌, ◌++◌, codes, if◌then◌else◌}
use Rattle.std.specs.List.{flat_map}
use Rattle.std.specs.Char.{is_control}
use Rattle.std.specs.Int.{is_in_range}
use Rattle.std.specs.Fmt.{digits, digit_glyph}
use Rattle.std.specs.Str.{chars, encode_utf8_all, is_utf8}

-- the characters that the Unicode standard calls Bidi_Control: they change the direction in which a text is read
abbrev pub is_bidi_control : ℕ → Bool
is_bidi_control c = c == 0x61C || (is_in_range 0x200E 0x200F c || (is_in_range 0x202A 0x202E c || is_in_range 0x2066 0x2069 c))

-- the separators of lines and of paragraphs
abbrev pub is_separator : ℕ → Bool
is_separator c = is_in_range 0x2028 0x2029 c

-- a character may stand as it is: it is no control character, whether of ASCII or of those from 128 on, and neither of the above
unfoldable pub may_stand : ℕ → Bool
may_stand c = not (is_control c || (is_bidi_control c || is_separator c))

-- a character's escape: its number in hexadecimal digits
abbrev pub escape : ℕ → List ℕ
escape c = codes "\\u{" ++ digits 16 false c ++ codes "}"

-- the characters by which one is shown
abbrev pub visible : ℕ → List ℕ
visible c = if may_stand c then c ∷ [] else escape c

-- a text, each of its characters shown
unfoldable pub shown : List ℕ → List ℕ
shown text = encode_utf8_all (flat_map visible (chars text))

-- a byte of what is no text: ASCII that prints, or its escape
abbrev pub visible_byte : ℕ → List ℕ
visible_byte b = if is_in_range 32 126 b then b ∷ [] else codes "\\x" ++ digit_glyph false (b / 16) ∷ digit_glyph false (b % 16) ∷ []

-- bytes, as the text that they are, or one by one
unfoldable pub shown_bytes : List ℕ → List ℕ
shown_bytes bytes = if is_utf8 bytes then shown bytes else flat_map visible_byte bytes
