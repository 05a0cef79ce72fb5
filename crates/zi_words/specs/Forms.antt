-- What may stand as one word: addresses, names, levels and the like.
use Rattle.std.specs.Prelude.{◌≡◌, ◌≢◌, ℕ, Bool, true, ◌&&◌, ◌||◌, nat_le, nat_eq, if◌then◌else◌, List, [], ◌∷◌, codes, bytes_eq, Option, Some, None, IsSome}
use Rattle.std.specs.List.{list_all, starts_with}
use Rattle.std.specs.Str.{chars}
use Rattle.zi_text.specs.Numeral.{numeral}
use Rattle.zi_version.specs.Range.{IsExpression}
use Rattle.zi_policy.specs.Stabilities.{stability_of}
use Rattle.zi_policy.specs.declared.types.Stability.{Stability}
use Rattle.zi_policy.specs.declared.types.Stability.TheVariants as stability
use Rattle.zi_policy.specs.declared.types.Network.{Network}
use Rattle.zi_policy.specs.declared.types.Network.TheVariants as network

-- a word, by its bytes in UTF-8 (RFC 3629)
abbrev pub Word : Type 0
Word = List ℕ

abbrev pub is_between : ℕ → ℕ → ℕ → Bool
is_between low high c = nat_le low c && nat_le c high

-- a character that XML can carry (XML 1.0, production 2, Char), no tab, LF or CR
unfoldable pub is_carried : ℕ → Bool
is_carried c = is_between 0x20 0xD7FF c || (is_between 0xE000 0xFFFD c || is_between 0x10000 0x10FFFF c)

-- the text begins with this
abbrev pub begins : Word → Word → Bool
begins front text = starts_with nat_eq text front

-- An address: it begins with `http://`, `https://` or `/`, and all its characters can be carried.
unfoldable pub is_address : Word → Bool
is_address text =
    (begins (codes "http://") text || (begins (codes "https://") text || begins (codes "/") text)) && list_all is_carried (chars text)

-- the levels
unfoldable pub level_of : Word → Option Stability
level_of text =
    if bytes_eq text (codes "developer") then Some stability.Developer
    else if bytes_eq text (codes "testing") then Some stability.Testing
    else if bytes_eq text (codes "stable") then Some stability.Stable
    else None

-- how much the network may be used
unfoldable pub network_of : Word → Option Network
network_of text =
    if bytes_eq text (codes "full") then Some network.Full
    else if bytes_eq text (codes "minimal") then Some network.Minimal
    else if bytes_eq text (codes "off") then Some network.Off
    else None

-- the greatest number of lemmas that a search may be let learn
abbrev pub most_lemmas : ℕ
most_lemmas = 4000000000

abbrev pub up_to : ℕ → Option ℕ → Option ℕ
up_to most None = None
up_to most (Some n) = if nat_le n most then Some n else None

-- the numbers of lemmas, in decimal digits
unfoldable pub budget_of : Word → Option ℕ
budget_of text = up_to most_lemmas (numeral text)

-- the number of a demonstration, in decimal digits: from 1 to 1,000
abbrev pub if_between : ℕ → ℕ → Option ℕ → Option ℕ
if_between low high None = None
if_between low high (Some n) = if is_between low high n then Some n else None

unfoldable pub demo_number : Word → Option ℕ
demo_number text = if_between 1 1000 (numeral text)

-- what an argument of an option may be
pub data Form : Type 0 where
  Address : Form
  Name : Form
  Anything : Form
  Range : Form
  Level : Form
  Network' : Form
  Rating : Form
  Budget : Form

-- the word is of this form
abbrev pub Is : Form → Word → Type 0
Is Address w = is_address w ≡ true
Is Name w = w ≢ []
Is Anything w = Unit {0}
Is Range w = IsExpression w
Is Level w = IsSome (level_of w)
Is Network' w = IsSome (network_of w)
Is Rating w = IsSome (stability_of w)
Is Budget w = IsSome (budget_of w)

-- the words are of these forms, one each
abbrev pub Are : List Form → List Word → Type 0
Are [] [] = Unit {0}
Are [] (w ∷ ws) = ⊥
Are (f ∷ fs) [] = ⊥
Are (f ∷ fs) (w ∷ ws) = Is f w × Are fs ws
