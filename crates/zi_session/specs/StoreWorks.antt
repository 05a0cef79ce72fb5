-- The calls that fill an entry of the store, for a digest name and a tree.
use Rattle.std.specs.Prelude.{List, codes, nat_eq, if◌then◌else◌}
use Rattle.std.specs.List.{starts_with}
use Rattle.zi_digest.specs.declared.Algorithm.{Algorithm}
use Rattle.zi_digest.specs.declared.Algorithm.TheVariants.{Sha1new, Sha256, Sha256new}
use Rattle.zi_tree.specs.Dir.{Dir}
use Rattle.zi_shelf.specs.Names.{Name}
use Rattle.zi_shelf.specs.Filling.{Work}
use Rattle.zi_manifest.specs.Manifest.{manifest}
use Rattle.zi_session.specs.Works.{works_of}

-- the algorithm that the text of a digest name begins with
abbrev pub algorithm_in : Name → Algorithm
algorithm_in n = if starts_with nat_eq n (codes "sha1new=") then Sha1new else if starts_with nat_eq n (codes "sha256=") then Sha256 else Sha256new

-- the nodes of the tree, and its manifest by that algorithm
abbrev pub store_works : Name → Dir → List Work
store_works n tree = works_of tree (manifest (algorithm_in n) tree)
