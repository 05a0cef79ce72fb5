-- The words before the first space of a line.
use Rattle.std.proofs.Common.{◌≡◌, ◌<◌, ℕ, true, false, List, [], ◌∷◌, ◌++◌, sym, ◌∙◌, arith}
use Rattle.std.specs.Str.{IsAscii, IsUtf8}
use Rattle.std.specs.List.{list_all}
use Rattle.std.proofs.lemmas.Str.Ascii.{IsAscii-nil, IsAscii-cons}
use Rattle.std.proofs.lemmas.Str.{IsUtf8-from_ascii}
use Rattle.std.proofs.lemmas.Bool.Decides.{nat_tests}
use Rattle.std.proofs.lemmas.Bool.{and_parts}
use Rattle.zi_digest.specs.declared.Algorithm.{Algorithm}
use Rattle.zi_tree.specs.Order.{has_byte}
use Rattle.zi_manifest.specs.Listing.{IsHash, is_lower_digit}
use Rattle.zi_manifest.proofs.Cuts.{cut_once}

-- a word before the first separator is the one that is cut off
pub cut_is : (text w v r s : List ℕ) → (text ≡ w ++ 32 ∷ r) × (has_byte 32 w ≡ false) → has_byte 32 v ≡ false → text ≡ v ++ 32 ∷ s → w ≡ v
cut_is text w v r s h k e = (cut_once 32 w v r s h.1 k (sym h.0 ∙ e)).0

-- a hash is a text in ASCII
IsAscii-hash : (h : List ℕ) → list_all is_lower_digit h ≡ true → IsAscii h
IsAscii-hash [] k = IsAscii-nil
IsAscii-hash (d ∷ ds) k = let p = and_parts (is_lower_digit d) (list_all is_lower_digit ds) k in IsAscii-cons d ds (low d p.0) (IsAscii-hash ds p.1)
  where
    low : (d : ℕ) → is_lower_digit d ≡ true → d < 128
    low d e = grind (arith, nat_tests)

pub IsUtf8-hash : (a : Algorithm) (h : List ℕ) → IsHash a h → IsUtf8 h
IsUtf8-hash a h g = IsUtf8-from_ascii h (IsAscii-hash h g.1)
