-- The table of packages: lines that end in LF, with single spaces between items, all of ASCII.
--   zi-packages 1 DISTRIBUTION         the first line
--   PACKAGE VERSION MACHINE STATE      a line for each package that the operating system has or could have
-- DISTRIBUTION and PACKAGE are letters, digits, `+`, `-`, `.` and `_`; MACHINE is letters, digits and `_`, or `*`; STATE is
-- `installed` or `available`. No two lines have the same first three items.
use Rattle.std.specs.Prelude.{◌≡◌, ℕ, ◌-◌, ◌≤◌, Bool, true, false, not, ◌==◌, ◌||◌, ◌&&◌, if◌then◌else◌, List, [], ◌∷◌, ◌++◌, map, length, bytes_eq, codes, Option, Some, None, option_map, option_and_then}
use Rattle.std.specs.Char.{is_ascii_alphanumeric}
use Rattle.std.specs.List.{list_all, list_any}
use Rattle.zi_text.specs.Front.{StopsAt}
use Rattle.zi_text.specs.Pieces.{each}
use Rattle.zi_version.specs.Range.{a_version}
use Rattle.zi_packages.specs.Lines.{all_pieces, whole_lines}
use Rattle.zi_packages.specs.declared.types.Packages.{Packages}
use Rattle.zi_packages.specs.declared.types.PackageRow.{PackageRow}
use Rattle.zi_packages.specs.declared.fault.PackagesFault.{PackagesFault}
use Rattle.zi_packages.specs.declared.fault.PackagesFault.TheVariants.{Bad, Memory}

abbrev pub is_word_byte : ℕ → Bool
is_word_byte c = is_ascii_alphanumeric c || c == 95

abbrev pub is_name_byte : ℕ → Bool
is_name_byte c = is_word_byte c || c == 43 || c == 45 || c == 46

-- one or more bytes, all of which pass
abbrev pub is_filled : (ℕ → Bool) → List ℕ → Bool
is_filled test t = not (length t == 0) && list_all test t

unfoldable pub is_name : List ℕ → Bool
is_name t = is_filled is_name_byte t

unfoldable pub is_machine : List ℕ → Bool
is_machine t = bytes_eq t (codes "*") || is_filled is_word_byte t

-- whether it is installed
unfoldable pub state_of : List ℕ → Option Bool
state_of t =
    if bytes_eq t (codes "installed") then Some true
    else if bytes_eq t (codes "available") then Some false
    else None

-- a version of these bytes, which are ASCII
abbrev pub version_of : List ℕ → Option (List ℕ)
version_of t = if is_name t then a_version t else None

-- what a line's items say
abbrev pub row_with : List ℕ → List ℕ → Option (List ℕ) → Option Bool → Option PackageRow
row_with name machine version state =
    if is_name name && is_machine machine
    then option_and_then (λ v. option_map (λ i. record { «package» = name; version = v; machine = machine; installed = i }) state) version
    else None

abbrev pub row_of_items : List (List ℕ) → Option PackageRow
row_of_items (p ∷ v ∷ m ∷ s ∷ []) = row_with p m (version_of v) (state_of s)
row_of_items _ = None

unfoldable pub row_of : List ℕ → Option PackageRow
row_of line = row_of_items (all_pieces 32 line)

abbrev pub distribution_of_items : List (List ℕ) → Option (List ℕ)
distribution_of_items (z ∷ o ∷ d ∷ []) = if bytes_eq z (codes "zi-packages") && bytes_eq o (codes "1") && is_name d then Some d else None
distribution_of_items _ = None

unfoldable pub distribution_of : List ℕ → Option (List ℕ)
distribution_of line = distribution_of_items (all_pieces 32 line)

-- the first three items of a line
abbrev pub front_text : PackageRow → List ℕ
front_text r = r.«package» ++ 32 ∷ (r.version ++ 32 ∷ r.machine)

-- a text is one of these
abbrev pub is_listed : List ℕ → List (List ℕ) → Bool
is_listed t ts = list_any (bytes_eq t) ts

-- none of these is one before it
abbrev pub are_new : List (List ℕ) → List (List ℕ) → Bool
are_new earlier [] = true
are_new earlier (t ∷ ts) = not (is_listed t earlier) && are_new (earlier ++ t ∷ []) ts

-- these lines say this table
pub record Say (lines : List (List ℕ)) (t : Packages) : Type 0 where
  pub first : List ℕ
  pub others : List (List ℕ)
  pub are : lines ≡ first ∷ others
  pub distribution : distribution_of first ≡ Some t.distribution
  pub rows : each row_of others ≡ Some t.rows
  pub apart : are_new [] (map front_text t.rows) ≡ true

-- the lines of a table
abbrev pub RightLines : List (List ℕ) → Type 0
RightLines lines = (t : Packages) × Say lines t

-- the text is that of this table: nothing stands behind the last LF
pub record IsTableText (bytes : List ℕ) (t : Packages) : Type 0 where
  pub lines : List (List ℕ)
  pub cut : all_pieces 10 bytes ≡ lines ++ [] ∷ []
  pub say : Say lines t

-- A bad text is that of no table. The line is the number, from 1, of the first whole line up to which no right text begins so, or
-- one more than the number of whole lines where all of them begin one. Want of memory says nothing.
abbrev pub FaultMeans : List ℕ → PackagesFault → Type 0
FaultMeans bytes (Bad line) = ((t : Packages) → ¬ IsTableText bytes t) × (1 ≤ line) × StopsAt RightLines (whole_lines bytes) (line - 1)
FaultMeans bytes Memory = Unit {0}
