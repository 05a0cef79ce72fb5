-- Names that stand in a document as they are.
use Rattle.std.specs.Prelude.{◌≡◌, ℕ, Bool, true, List}
use Rattle.std.specs.List.{list_all}
use Rattle.zi_xml.specs.Chars.{is_between}

-- a printable character of ASCII
abbrev pub is_plain : ℕ → Bool
is_plain c = is_between 32 126 c

abbrev pub are_plain : List ℕ → Bool
are_plain text = list_all is_plain text

abbrev pub ArePlain : List (List ℕ) → Type 0
ArePlain texts = list_all are_plain texts ≡ true
