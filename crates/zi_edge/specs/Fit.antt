-- Which launches are whole: all paths in them are the same wherever they are read.
use Rattle.std.specs.Prelude.{ℕ, Bool, false, ◌&&◌, ◌==◌, List, [], ◌∷◌}
use Rattle.std.specs.List.{list_all}
use Rattle.zi_outside.specs.declared.launch.Dir.{Dir}
use Rattle.zi_outside.specs.declared.launch.Launch.{Launch}

abbrev pub is_absolute : List ℕ → Bool
is_absolute [] = false
is_absolute (b ∷ bs) = b == 47

-- the first word is a path by which a program is found
abbrev pub has_program : List (List ℕ) → Bool
has_program [] = false
has_program (program ∷ args) = is_absolute program

-- a folder is named by such a path
abbrev pub is_whole : Dir → Bool
is_whole dir = is_absolute dir.folder

abbrev pub is_fit : Launch → Bool
is_fit launch = has_program launch.words && (list_all is_whole launch.dirs && list_all is_whole launch.shims)
