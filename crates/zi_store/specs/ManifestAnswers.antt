-- What reading a manifest answers.
use Rattle.std.specs.Prelude.{◌≡◌, List, ℕ, Some, None, Result, Ok, Err}
use Rattle.zi_tree.specs.Dir.{Dir}
use Rattle.zi_digest.specs.declared.Algorithm.{Algorithm}
use Rattle.zi_shelf.specs.Names.{Name}
use Rattle.zi_shelf.specs.Shelved.{Top, Shelved}
use Rattle.zi_shelf.specs.declared.shelf.ShelfFault.{ShelfFault}
use Rattle.zi_manifest.specs.Manifest.{as_read, first_bad, manifest, HasManifest}
use Rattle.zi_tree.specs.Limits.{limit_of}
use Rattle.zi_store.specs.Walking.{passed}
use Rattle.zi_store.specs.declared.stop.Stop.{Stop}
use Rattle.zi_store.specs.declared.stop.Stop.TheVariants as stop
use Rattle.zi_store.specs.declared.manifests.ManifestRead.{ManifestRead}
use Rattle.zi_store.specs.declared.manifests.ManifestRead.TheVariants as read
use Rattle.zi_store.specs.declared.written.Written.{Written}

-- Missing where there is no such entry; else the first limit that the tree as read passes; else its first bad name; else its manifest
abbrev pub ReadsManifest : Algorithm → Name → Result ManifestRead ShelfFault → Shelved Dir → Type 0
ReadsManifest a top (Ok (read.Read text)) s = (e : Top Dir) × (s.tops top ≡ Some e) × (passed (as_read e.tree) ≡ None) × (first_bad (as_read e.tree) ≡ None) × (text ≡ manifest a e.tree)
ReadsManifest a top (Ok read.Missing) s = s.tops top ≡ None
ReadsManifest a top (Ok (read.BadName path)) s = (e : Top Dir) × (s.tops top ≡ Some e) × (passed (as_read e.tree) ≡ None) × (first_bad (as_read e.tree) ≡ Some path)
ReadsManifest a top (Ok (read.TooLarge what limit)) s = (e : Top Dir) × (s.tops top ≡ Some e) × (passed (as_read e.tree) ≡ Some what) × (limit ≡ limit_of what)
ReadsManifest a top (Err e) s = Unit {0}

-- What holds whatever the shelf is: a text is the manifest of some tree, and a bad name is the first one of some tree.
abbrev pub IsOfSomeTree : Algorithm → Result ManifestRead ShelfFault → Type 0
IsOfSomeTree a (Ok (read.Read text)) = (d : Dir) × HasManifest d × (text ≡ manifest a d)
IsOfSomeTree a (Ok (read.BadName path)) = (d : Dir) × (first_bad (as_read d) ≡ Some path)
IsOfSomeTree a (Ok read.Missing) = Unit {0}
IsOfSomeTree a (Ok (read.TooLarge what limit)) = Unit {0}
IsOfSomeTree a (Err e) = Unit {0}

-- the same as ReadsManifest of the walk through the tree
abbrev pub WritesWhole : Algorithm → Name → Result Written Stop → Shelved Dir → Type 0
WritesWhole a top (Ok w) s = (e : Top Dir) × (s.tops top ≡ Some e) × (passed (as_read e.tree) ≡ None) × (w.bad ≡ first_bad (as_read e.tree)) × (w.text.items ≡ manifest a e.tree)
WritesWhole a top (Err stop.Missing) s = s.tops top ≡ None
WritesWhole a top (Err (stop.TooLarge what)) s = (e : Top Dir) × (s.tops top ≡ Some e) × (passed (as_read e.tree) ≡ Some what)
WritesWhole a top (Err (stop.Fault fault)) s = Unit {0}

-- what a walk to its end comes to: the first bad name where one was met, else the manifest
abbrev pub Ends : Written → ManifestRead → Type 0
Ends w (read.Read text) = (w.bad ≡ None) × (text ≡ w.text.items)
Ends w (read.BadName path) = w.bad ≡ Some path
Ends w read.Missing = ⊥
Ends w (read.TooLarge what limit) = ⊥
