-- Which texts are relative paths, and what their parts are.
use Rattle.std.specs.Prelude.{ℕ, Bool, not, ◌&&◌, ◌==◌, if◌then◌else◌, List, Option, Some, None, codes, bytes_eq, filter, slice_index, length}
use Rattle.std.specs.List.{list_any, slice_split}
use Rattle.zi_tree.specs.Order.{has_byte}

-- what stands between slashes
abbrev pub between_slashes : List ℕ → List (List ℕ)
between_slashes text = slice_split (λ b. b == 47) text

-- it begins with a slash
abbrev pub is_absolute : List ℕ → Bool
is_absolute text = not (length text == 0) && (slice_index text 0 == 47)

-- it is `..`
abbrev pub is_up : List ℕ → Bool
is_up part = bytes_eq part (codes "..")

-- neither empty nor `.`
abbrev pub is_kept : List ℕ → Bool
is_kept part = not (bytes_eq part (codes "")) && not (bytes_eq part (codes "."))

-- it doesn't begin with `/`, and has no NUL and no part `..`
abbrev pub is_relative : List ℕ → Bool
is_relative text = not (is_absolute text) && (not (has_byte 0 text) && not (list_any is_up (between_slashes text)))

-- the parts of a relative path, without those that are empty or `.`
abbrev pub parts_of : List ℕ → Option (List (List ℕ))
parts_of text = if is_relative text then Some (filter is_kept (between_slashes text)) else None
