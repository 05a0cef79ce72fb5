-- Which of the calls that fill an entry fit its tree, by the rule on shelves.
use Rattle.std.specs.Prelude.{◌≡◌, ℕ, ℤ, Bool, List, ◌||◌, is_some}
use Rattle.zi_tree.specs.Dir.{Dir}
use Rattle.zi_tree.specs.Paths.{found, has_room}
use Rattle.zi_shelf.specs.Filling.{MakeFolder, Append, FinishFile, MakeLink, filled}
use Rattle.zi_shelf.specs.Fillings.{is_file}

pub record FittingLaw : Type 0 where
  -- a folder, a link and a new file where the folder that is to hold the entry is there and the name in it is free
  pub folder : (path : List (List ℕ)) (d : Dir) → is_some (filled (MakeFolder path) d) ≡ has_room path d
  pub link : (path : List (List ℕ)) (target : List ℕ) (d : Dir) → is_some (filled (MakeLink path target) d) ≡ has_room path d
  -- bytes also where a file is
  pub bytes : (path : List (List ℕ)) (bytes : List ℕ) (d : Dir) → is_some (filled (Append path bytes) d) ≡ (has_room path d || is_file (found path d))
  -- a file is finished where it is
  pub finish : (path : List (List ℕ)) (exec : Bool) (mtime : ℤ) (d : Dir) → is_some (filled (FinishFile path exec mtime) d) ≡ is_file (found path d)
