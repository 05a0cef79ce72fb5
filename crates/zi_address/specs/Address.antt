-- What the addresses in a feed mean: in a feed of the web by the URL Standard's parser with the feed's address as base
-- (section 4.4), in a local feed as a path after the folder of the feed.
use Rattle.std.specs.Prelude.{ℕ, suc, ◌-◌, ◌==◌, Bool, ◌||◌, ◌&&◌, nat_le, List, [], ◌∷◌, ◌++◌, Option, Some, None, Ok, Err, codes, nat_eq, if◌then◌else◌, option_map, ◌≡◌, IsErr}
use Rattle.std.specs.List.{starts_with, list_all, flat_map}
use Rattle.url.specs.Parser.{parse_url, Parsed}
use Rattle.url.specs.Parts.{Parts, serialize}
use Rattle.zi_address.specs.Texts.{same, is_none, pieces_of}

-- the text begins with `http://` or `https://`, in these letters
abbrev pub is_web : List ℕ → Bool
is_web text = starts_with nat_eq text (codes "http://") || starts_with nat_eq text (codes "https://")

-- the text begins with a slash; a feed with such an address is local
abbrev pub is_local : List ℕ → Bool
is_local text = starts_with nat_eq text (codes "/")

-- a character that is seen: `!` to `~`
abbrev pub is_seen : ℕ → Bool
is_seen c = nat_le 33 c && nat_le c 126

-- A URL as it is written, where it is a web address of characters that are seen. The URL Standard's serializer gives no other
-- characters for a web address (1.3, 4.5): it encodes them by `%` and hexadecimal digits.
abbrev pub web_text : Parsed Parts → Option (List ℕ)
web_text (Ok url) = if is_web (serialize url) && list_all is_seen (serialize url) then Some (serialize url) else None
web_text (Err e) = None

-- a text joined to the address of a feed by the URL Standard, where that gives a web address
abbrev pub joined_to : Parsed Parts → List ℕ → Option (List ℕ)
joined_to (Ok base) text = web_text (parse_url (Some base) text)
joined_to (Err e) text = None

abbrev pub without_last : List (List ℕ) → List (List ℕ)
without_last [] = []
without_last (x ∷ []) = []
without_last (x ∷ y ∷ ys) = x ∷ without_last (y ∷ ys)

-- how many of the names before them these parts take away: each `..` takes one, and a name that is taken itself is one less
abbrev pub taken : List (List ℕ) → ℕ
taken [] = 0
taken (x ∷ xs) =
    if is_none x || same x (codes ".") then taken xs
    else if same x (codes "..") then suc (taken xs)
    else taken xs - 1

-- the names among the parts that no part behind them takes away
abbrev pub names_left : List (List ℕ) → List (List ℕ)
names_left [] = []
names_left (x ∷ xs) =
    if is_none x || same x (codes ".") || same x (codes "..") then names_left xs
    else if taken xs == 0 then x ∷ names_left xs
    else names_left xs

-- What is left of the parts of a path: empty and `.` parts say nothing, and each `..` takes away the nearest name before it that is
-- left; there is no path where it finds none.
abbrev pub settled : List (List ℕ) → Option (List (List ℕ))
settled ps = if taken ps == 0 then Some (names_left ps) else None

-- the path with these parts
abbrev pub path_of : List (List ℕ) → List ℕ
path_of [] = codes "/"
path_of (x ∷ xs) = flat_map (λ p. 47 ∷ p) (x ∷ xs)

-- A text placed after the folder of a local feed, whose parts are all but the last of its address. One that begins
-- with a slash stands as it is.
unfoldable pub placed : List ℕ → List ℕ → Option (List ℕ)
placed base text =
    if is_local text then Some text
    else option_map path_of (settled (without_last (pieces_of 47 base) ++ pieces_of 47 text))

-- what an address in the feed at base means
unfoldable pub resolved : List ℕ → List ℕ → Option (List ℕ)
resolved base text =
    if is_web text then Some text
    else if is_local base then placed base text
    else joined_to (parse_url None base) text

-- what a call that gives the expected answer unless there is no room shows: the URL, or that it is refused
abbrev pub Shows : Option Parts → Parsed Parts → Type 0
Shows (Some url) expected = expected ≡ Ok url
Shows None expected = IsErr expected
