-- The paths of files.
use Rattle.std.specs.Prelude.{ℕ, List, ◌∷◌, ◌++◌, if◌then◌else◌}
use Rattle.zi_address.specs.Address.{is_web}
use Rattle.zi_edge.specs.FileName.{file_name}

-- the path of the file in which a feed is kept: of one in the web its own in the folder, of any other the one it is named by
abbrev pub feed_path : List ℕ → List ℕ → List ℕ
feed_path folder key = if is_web key then folder ++ 47 ∷ file_name key else key
