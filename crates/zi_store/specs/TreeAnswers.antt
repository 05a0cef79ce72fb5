-- What reading a tree answers.
use Rattle.std.specs.Prelude.{◌≡◌, Some, None, Result, Ok, Err}
use Rattle.zi_tree.specs.Dir.{Dir}
use Rattle.zi_shelf.specs.Names.{Name}
use Rattle.zi_shelf.specs.Shelved.{Top, Shelved}
use Rattle.zi_shelf.specs.declared.shelf.ShelfFault.{ShelfFault}
use Rattle.zi_manifest.specs.Manifest.{as_read}
use Rattle.zi_tree.specs.Limits.{limit_of}
use Rattle.zi_store.specs.Walking.{passed}
use Rattle.zi_store.specs.declared.stop.Stop.{Stop}
use Rattle.zi_store.specs.declared.stop.Stop.TheVariants as stop
use Rattle.zi_store.specs.declared.trees.TreeRead.{TreeRead}
use Rattle.zi_store.specs.declared.trees.TreeRead.TheVariants as tree

-- The tree of the top entry without a regular file `.manifest` in its top folder, where that passes no limit; Missing where there is no such entry; else the first limit that it passes.
abbrev pub ReadsTree : Name → Result TreeRead ShelfFault → Shelved Dir → Type 0
ReadsTree top (Ok (tree.Read t)) s = (e : Top Dir) × (s.tops top ≡ Some e) × (t ≡ as_read e.tree) × (passed (as_read e.tree) ≡ None)
ReadsTree top (Ok tree.Missing) s = s.tops top ≡ None
ReadsTree top (Ok (tree.TooLarge what limit)) s = (e : Top Dir) × (s.tops top ≡ Some e) × (passed (as_read e.tree) ≡ Some what) × (limit ≡ limit_of what)
ReadsTree top (Err e) s = Unit {0}

-- the same of the walk through the tree
abbrev pub ReadsWhole : Name → Result Dir Stop → Shelved Dir → Type 0
ReadsWhole top (Ok t) s = (e : Top Dir) × (s.tops top ≡ Some e) × (t ≡ as_read e.tree) × (passed (as_read e.tree) ≡ None)
ReadsWhole top (Err stop.Missing) s = s.tops top ≡ None
ReadsWhole top (Err (stop.TooLarge what)) s = (e : Top Dir) × (s.tops top ≡ Some e) × (passed (as_read e.tree) ≡ Some what)
ReadsWhole top (Err (stop.Fault fault)) s = Unit {0}
