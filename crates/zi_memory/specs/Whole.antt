-- A shelf in memory whose entries hold trees tells trees.
use Rattle.std.specs.Prelude.{◌≡◌, true, false, ◌&&◌, List, [], ◌∷◌, Option, Some, None, if◌then◌else◌}
use Rattle.std.specs.Str.{bytes_eq}
use Rattle.std.proofs.Common.{subst}
use Rattle.std.proofs.lemmas.Bool.{and_parts}
use Rattle.zi_tree.specs.Dir.{Dir}
use Rattle.zi_tree.specs.Order.{is_tree}
use Rattle.zi_shelf.specs.Names.{Name}
use Rattle.zi_shelf.specs.Shelved.{Top}
use Rattle.zi_shelf.specs.Told.{Told, HoldsTrees, TellsTrees}
use Rattle.zi_shelf.specs.declared.call.ShelfCall.{ShelfCall}
use Rattle.zi_memory.specs.declared.top_entry.TopEntry.{TopEntry}
use Rattle.zi_memory.specs.declared.top_entry.Later.{Later}
use Rattle.zi_memory.specs.Memory.{top_of, tops_of, told_of, are_trees}

-- where an entry stands, it holds a tree
abbrev IsWhole : Option (Top Dir) → Type 0
IsWhole None = Unit {0}
IsWhole (Some e) = is_tree e.tree ≡ true

whole_top : (es : List TopEntry) (n : Name) → are_trees es ≡ true → IsWhole (tops_of es n)
whole_top [] n w = tt
whole_top (x ∷ es) n w =
    elim (bytes_eq x.name n) as (λ t. IsWhole (if t then Some (top_of x) else tops_of es n)) [
      | true ↦ (and_parts (is_tree x.tree) (are_trees es) w).0
      | false ↦ whole_top es n (and_parts (is_tree x.tree) (are_trees es) w).1
    ]

-- what is told is that of a shelf that holds trees
abbrev AreTold : Option Told → Type 0
AreTold None = Unit {0}
AreTold (Some s) = HoldsTrees s.shelf

pub tells_trees : (es : List TopEntry) (ps : List Later) (cs : List ShelfCall) → are_trees es ≡ true → TellsTrees (Some (told_of es ps cs))
tells_trees es ps cs w s is = subst AreTold is (λ n e at. subst IsWhole at (whole_top es n w))
