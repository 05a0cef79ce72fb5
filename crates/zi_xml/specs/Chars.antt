-- The kinds of characters (XML 1.0, Fifth Edition, 2.2, 2.3, 4.1 and 4.3.3). A character is its code.
use Rattle.std.specs.Prelude.{ℕ, ◌+◌, ◌*◌, ◌-◌, Bool, true, false, ◌||◌, ◌&&◌, ◌==◌, nat_le, not, List, [], ◌∷◌, Option, Some, None, if◌then◌else◌, codes, encode_utf8, length}
use Rattle.std.specs.Str.{bytes_eq}

abbrev pub is_between : ℕ → ℕ → ℕ → Bool
is_between a b c = nat_le a c && nat_le c b

-- [2] Char: what XML can carry
unfoldable pub is_char : ℕ → Bool
is_char c = is_between 32 55295 c || c == 9 || c == 10 || c == 13 || is_between 57344 65533 c || is_between 65536 1114111 c

-- [3] S: white space
unfoldable pub is_white : ℕ → Bool
is_white c = c == 32 || c == 9 || c == 10 || c == 13

abbrev pub is_letter : ℕ → Bool
is_letter c = is_between 65 90 c || is_between 97 122 c

-- [4] NameStartChar, where every character from U+0080 that XML can carry counts as one
unfoldable pub is_first : ℕ → Bool
is_first c = is_letter c || c == 95 || c == 58 || (nat_le 128 c && is_char c)

unfoldable pub is_digit : ℕ → Bool
is_digit c = is_between 48 57 c

-- [4a] NameChar, likewise
unfoldable pub is_name : ℕ → Bool
is_name c = is_first c || is_digit c || c == 45 || c == 46

-- [14] CharData, but for its `]]>`: a character that stands for itself between tags
unfoldable pub is_plain : ℕ → Bool
is_plain c = is_char c && not (c == 60) && not (c == 38)

unfoldable pub is_quote : ℕ → Bool
is_quote c = c == 34 || c == 39

-- [10] AttValue: a character that stands for itself in a value in these quotes
abbrev pub is_valued : ℕ → ℕ → Bool
is_valued q c = is_plain c && not (c == q)

-- [81] EncName: its first character, and the others
unfoldable pub is_encoding_first : ℕ → Bool
is_encoding_first c = is_letter c

unfoldable pub is_encoding : ℕ → Bool
is_encoding c = is_letter c || is_digit c || c == 46 || c == 95 || c == 45

-- [66] CharRef: a hexadecimal digit
unfoldable pub is_hex : ℕ → Bool
is_hex c = is_digit c || is_between 65 70 c || is_between 97 102 c

unfoldable pub digit_value : ℕ → ℕ
digit_value c = c - 48

unfoldable pub hex_value : ℕ → ℕ
hex_value c = if is_digit c then c - 48 else if is_between 65 70 c then c - 55 else c - 87

-- the number that digits stand for, after n
abbrev pub decimal_from : ℕ → List ℕ → ℕ
decimal_from n [] = n
decimal_from n (c ∷ cs) = decimal_from (n * 10 + digit_value c) cs

abbrev pub hex_from : ℕ → List ℕ → ℕ
hex_from n [] = n
hex_from n (c ∷ cs) = hex_from (n * 16 + hex_value c) cs

-- an ASCII letter as a small one
unfoldable pub small : ℕ → ℕ
small c = if is_between 65 90 c then c + 32 else c

-- the same letters, ASCII case aside
abbrev pub same_letters : List ℕ → List ℕ → Bool
same_letters [] [] = true
same_letters [] (y ∷ ys) = false
same_letters (x ∷ xs) [] = false
same_letters (x ∷ xs) (y ∷ ys) = small x == small y && same_letters xs ys

-- 4.6 Predefined entities: what a name stands for
unfoldable pub entity : List ℕ → Option ℕ
entity n =
    if bytes_eq n (codes "amp") then Some 38
    else if bytes_eq n (codes "lt") then Some 60
    else if bytes_eq n (codes "gt") then Some 62
    else if bytes_eq n (codes "quot") then Some 34
    else if bytes_eq n (codes "apos") then Some 39
    else None

-- how many bytes a character takes in UTF-8
abbrev pub width : ℕ → ℕ
width c = length (encode_utf8 c)
