-- What every tree of the program keeps, at every depth: its names are names, and they rise strictly in each folder.
use Rattle.std.specs.Prelude.{ℕ, Bool, true, List, [], ◌&&◌, not, bytes_eq, codes, nat_eq}
use Rattle.std.specs.Ordering.{is_lt, nat_cmp}
use Rattle.std.specs.Cmp.Lexicographic.{slice_cmp}
use Rattle.std.specs.List.{list_any}
use Rattle.std.specs.Str.{is_utf8}
use Rattle.zi_tree.specs.Dir.{Dir, Nothing, AFile, ALink, AFolder}

-- the byte stands in the text
abbrev pub has_byte : ℕ → List ℕ → Bool
has_byte b text = list_any (λ c. nat_eq c b) text

-- a text without `/` and NUL that isn't empty, `.` or `..`
abbrev pub is_plain : List ℕ → Bool
is_plain text = not (bytes_eq text []) && (not (bytes_eq text (codes ".")) && (not (bytes_eq text (codes "..")) && (not (has_byte 47 text) && not (has_byte 0 text))))

-- a name: such a text in UTF-8
abbrev pub is_name : List ℕ → Bool
is_name n = is_utf8 n && is_plain n

-- the name stands before each of these
abbrev pub is_before : List ℕ → Dir → Bool
is_before n Nothing = true
is_before n (AFile m b e t rest) = is_lt (slice_cmp nat_cmp n m) && is_before n rest
is_before n (ALink m t rest) = is_lt (slice_cmp nat_cmp n m) && is_before n rest
is_before n (AFolder m inside rest) = is_lt (slice_cmp nat_cmp n m) && is_before n rest

-- in each folder each name is one and stands before those after it, so a tree has one value
abbrev pub is_tree : Dir → Bool
is_tree Nothing = true
is_tree (AFile n b e t rest) = is_name n && (is_before n rest && is_tree rest)
is_tree (ALink n t rest) = is_name n && (is_before n rest && is_tree rest)
is_tree (AFolder n inside rest) = is_tree inside && (is_name n && (is_before n rest && is_tree rest))
