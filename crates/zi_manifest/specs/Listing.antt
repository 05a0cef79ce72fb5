-- What a listing is, its lines, and which texts are read as one.
use Rattle.std.specs.Prelude.{◌≡◌, ℕ, zero, suc, ◌-◌, ◌<◌, ◌^◌, Bool, true, false, ◌&&◌, ◌||◌, nat_le, List, [], ◌∷◌, ◌++◌, length, ℤ, pos, negsuc}
use Rattle.std.specs.List.{list_all}
use Rattle.std.specs.Ordering.{is_lt, nat_cmp}
use Rattle.std.specs.Cmp.Lexicographic.{slice_cmp}
use Rattle.zi_digest.specs.declared.Algorithm.{Algorithm}
use Rattle.zi_digest.specs.declared.Algorithm.TheVariants.{Sha1new, Sha256, Sha256new}
use Rattle.zi_tree.specs.Dir.{Dir, Nothing, AFile, ALink, AFolder}
use Rattle.zi_tree.specs.Order.{is_name, is_tree, has_byte}
use Rattle.zi_manifest.specs.Sketch.{Sketch, Empty, OfFile, OfLink, OfFolder, sketch, joined, text_of}
use Rattle.zi_manifest.specs.Manifest.{is_bad, as_read, manifest, HasManifest}
use Rattle.zi_manifest.specs.declared.listing.Line.{Line}
use Rattle.zi_manifest.specs.declared.listing.Line.TheVariants.{File, Link, Folder}

-- the lines of the files and links of the folder at this path, as values with whole paths
abbrev pub leaf_lines : List ℕ → Sketch → List Line
leaf_lines p Empty = []
leaf_lines p (OfFile n h e t size rest) = File (joined p n) h e t size ∷ leaf_lines p rest
leaf_lines p (OfLink n h size rest) = Link (joined p n) h size ∷ leaf_lines p rest
leaf_lines p (OfFolder n inside rest) = leaf_lines p rest

-- those of its subfolders, each followed by the folder's own
abbrev pub folder_lines : List ℕ → Sketch → List Line
folder_lines p Empty = []
folder_lines p (OfFile n h e t size rest) = folder_lines p rest
folder_lines p (OfLink n h size rest) = folder_lines p rest
folder_lines p (OfFolder n inside rest) = Folder (joined p n) ∷ leaf_lines (joined p n) inside ++ folder_lines (joined p n) inside ++ folder_lines p rest

-- all lines, in the manifest's order
abbrev pub lines_of : Sketch → List Line
lines_of s = leaf_lines [] s ++ folder_lines [] s

-- a name that stands in a manifest
abbrev pub IsEntryName : List ℕ → Type 0
IsEntryName n = (is_name n ≡ true) × (is_bad n ≡ false)

-- so many digits has a hash
abbrev pub digits_of : Algorithm → ℕ
digits_of Sha1new = 40
digits_of Sha256 = 64
digits_of Sha256new = 64

abbrev pub is_lower_digit : ℕ → Bool
is_lower_digit c = (nat_le 48 c && nat_le c 57) || (nat_le 97 c && nat_le c 102)

-- a hash in lower-case hexadecimal
abbrev pub IsHash : Algorithm → List ℕ → Type 0
IsHash a h = (length h ≡ digits_of a) × (list_all is_lower_digit h ≡ true)

-- a signed number of 64 bits
abbrev pub IsSigned64 : ℤ → Type 0
IsSigned64 (pos n) = n < 2 ^ 63
IsSigned64 (negsuc n) = n < 2 ^ 63

-- the name stands before those of the entries
abbrev pub is_ahead : List ℕ → Sketch → Bool
is_ahead n Empty = true
is_ahead n (OfFile m h e t size rest) = is_lt (slice_cmp nat_cmp n m) && is_ahead n rest
is_ahead n (OfLink m h size rest) = is_lt (slice_cmp nat_cmp n m) && is_ahead n rest
is_ahead n (OfFolder m inside rest) = is_lt (slice_cmp nat_cmp n m) && is_ahead n rest

-- what a listing holds; in each folder names rise strictly, so they are distinct
abbrev pub IsListing : Algorithm → Sketch → Type 0
IsListing a Empty = Unit {0}
IsListing a (OfFile n h e t size rest) = IsEntryName n × IsHash a h × IsSigned64 t × (size < 2 ^ 64) × (is_ahead n rest ≡ true) × IsListing a rest
IsListing a (OfLink n h size rest) = IsEntryName n × IsHash a h × (size < 2 ^ 64) × (is_ahead n rest ≡ true) × IsListing a rest
IsListing a (OfFolder n inside rest) = IsEntryName n × IsListing a inside × (is_ahead n rest ≡ true) × IsListing a rest

-- the text is the manifest of a listing with these lines
pub record ReadsAs (a : Algorithm) (bytes : List ℕ) (lines : List Line) : Type 0 where
  pub listing : Sketch
  pub good : IsListing a listing
  pub text : text_of listing ≡ bytes
  pub lines_are : lines_of listing ≡ lines

-- it is the manifest of some listing
abbrev pub IsManifest : Algorithm → List ℕ → Type 0
IsManifest a bytes = (s : Sketch) × IsListing a s × (text_of s ≡ bytes)

-- so many lines, each with its LF
abbrev pub IsLines : ℕ → List ℕ → Type 0
IsLines zero bytes = bytes ≡ []
IsLines (suc k) bytes = (line rest : List ℕ) × (bytes ≡ line ++ 10 ∷ rest) × (has_byte 10 line ≡ false) × IsLines k rest

-- so many whole lines, with which some manifest begins
abbrev pub BeginsWell : Algorithm → List ℕ → ℕ → Type 0
BeginsWell a bytes k = (front rest more : List ℕ) × (bytes ≡ front ++ rest) × IsLines k front × IsManifest a (front ++ more)

-- line k, from 1, is the first one after which no continuation is a manifest
pub record IsBadAt (a : Algorithm) (bytes : List ℕ) (k : ℕ) : Type 0 where
  pub some : 0 < k
  pub well : BeginsWell a bytes (k - 1)
  pub bad : BeginsWell a bytes k → ⊥
  pub none : IsManifest a bytes → ⊥

-- times are signed numbers of 64 bits and lengths are below 2 ^ 64, as in every tree of the program
abbrev pub Is64Bits : Dir → Type 0
Is64Bits Nothing = Unit {0}
Is64Bits (AFile n b e t rest) = IsSigned64 t × (length b < 2 ^ 64) × Is64Bits rest
Is64Bits (ALink n t rest) = (length t < 2 ^ 64) × Is64Bits rest
Is64Bits (AFolder n inside rest) = Is64Bits inside × Is64Bits rest

-- the listing of a written manifest is the tree's lines
abbrev pub WrittenIsListed : Type 0
WrittenIsListed = (a : Algorithm) (d : Dir) → is_tree d ≡ true → HasManifest d → Is64Bits d → ReadsAs a (manifest a d) (lines_of (sketch a (as_read d)))
