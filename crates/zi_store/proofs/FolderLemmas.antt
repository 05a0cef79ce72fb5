-- A subfolder that is read.
use Rattle.std.proofs.Common.{◌≡◌, ℕ, true, false, List, ◌++◌, Option, Some, None, Result, Ok, Err, refl, sym, ◌∙◌, ap, subst}
use Rattle.zi_tree.specs.Dir.{Dir}
use Rattle.zi_tree.specs.Paths.{items, node_in, replaced}
use Rattle.zi_tree.specs.Views.{dir}
use Rattle.zi_tree.specs.declared.change.TreeLimit.{TreeLimit}
use Rattle.zi_tree.specs.declared.tree.TreeNode.{TreeNode}
use Rattle.zi_tree.specs.declared.tree.TreeNode.TheVariants.{File, Link, Folder}
use Rattle.zi_tree.proofs.Replaced.{dir_items, replaced_same}
use Rattle.zi_shelf.specs.Names.{Name}
use Rattle.zi_shelf.specs.Shelved.{Top}
use Rattle.zi_shelf.specs.Told.{Told}
use Rattle.zi_shelf.specs.Reading.{kind_of}
use Rattle.zi_shelf.specs.declared.shelf.EntryKind.{EntryKind}
use Rattle.zi_store.specs.Walking.{Met, Passes}
use Rattle.zi_store.specs.Standing.{Stands}
use Rattle.zi_store.specs.Entries.{bare, is_folder_kind, Walks}
use Rattle.zi_store.specs.declared.stop.Stop.{Stop}
use Rattle.zi_store.specs.declared.stop.Stop.TheVariants as stop
use Rattle.zi_store.proofs.WalkLemmas.{passes_then, stops_then, stops_early}

-- a file or link is in the tree already
pub leaf_stays : (x : TreeNode) (k : EntryKind) (name : Name) (tree : Dir) → k ≡ kind_of x → is_folder_kind k ≡ false → node_in name (items tree) ≡ Some (bare x) → tree ≡ dir (replaced name x (items tree))
leaf_stays (File c e t) k name tree is h there = sym (ap dir (replaced_same name (File c e t) (items tree) there) ∙ dir_items tree)
leaf_stays (Link t) k name tree is h there = sym (ap dir (replaced_same name (Link t) (items tree) there) ∙ dir_items tree)
leaf_stays (Folder i) k name tree is h there = absurd (let same : is_folder_kind k ≡ true = ap is_folder_kind is in cc (same, h))

-- what stops a walk at its first entries stops the whole walk
pub stops_more : {X Y : Type 0} (x : X) (y : Y) (ms more : List Met) (n b n' b' n2 b2 : ℕ) (r : Result Y Stop) (passed why : Stop) → r ≡ Err passed → passed ≡ why → Walks x ms n b (Err why) n' b' → Walks y (ms ++ more) n b r n2 b2
stops_more {X} {Y} x y ms more n b n' b' n2 b2 r passed why e f w = subst (λ z. Walks y (ms ++ more) n b z n2 b2) (sym (e ∙ ap Err f)) (by_case why w)
  where
    by_case : (why : Stop) → Walks x ms n b (Err why) n' b' → Walks y (ms ++ more) n b (Err why) n2 b2
    by_case stop.Missing w = w
    by_case (stop.TooLarge what) w = stops_early n b ms more what w
    by_case (stop.Fault f) w = tt

-- some entries, and then others
pub walks_then : {X : Type 0} (x : X) (ms ns : List Met) (n0 b0 n b n' b' : ℕ) (result : Result X Stop) → Passes n0 b0 ms n b → Walks x ns n b result n' b' → Walks x (ms ++ ns) n0 b0 result n' b'
walks_then x ms ns n0 b0 n b n' b' (Ok y) p w = (w.0, passes_then n0 b0 n b n' b' ms ns p w.1)
walks_then x ms ns n0 b0 n b n' b' (Err stop.Missing) p w = w
walks_then x ms ns n0 b0 n b n' b' (Err (stop.TooLarge what)) p w = stops_then n0 b0 n b ms ns what p w
walks_then x ms ns n0 b0 n b n' b' (Err (stop.Fault f)) p w = tt

-- a folder that is there is listed
pub unlisted_stops : {h : Type 0} {told : Option Told} {top : Name} {path : List Name} (T X : Type 0) (x : X) (d : Dir) (ms : List Met) (n b n' b' : ℕ) (result : Result X Stop) (passed why : Stop) → result ≡ Err passed → passed ≡ why → Stands h told top path d
    → ((s : Told) → h → told ≡ Some s → ◌≡◌ {A = Result T Stop} (Err why) (Err stop.Missing) → s.shelf.tops top ≡ None) → ((what : TreeLimit) → ◌≡◌ {A = Result T Stop} (Err why) (Err (stop.TooLarge what)) → ⊥)
    → Walks x ms n b result n' b'
unlisted_stops {h} {told} {top} {path} T X x d ms n b n' b' result passed why was same st missing limit = subst (λ z. Walks x ms n b z n' b') (sym (was ∙ ap Err same)) (by_case why (missing st.state st.keeps st.tells) limit)
  where
    some_none : (o : Option (Top Dir)) (e : Top Dir) → o ≡ Some e → o ≡ None → ⊥
    some_none o e p q = absurd (cc (p, q))

    by_case : (why : Stop) → (◌≡◌ {A = Result T Stop} (Err why) (Err stop.Missing) → st.state.shelf.tops top ≡ None) → ((what : TreeLimit) → ◌≡◌ {A = Result T Stop} (Err why) (Err (stop.TooLarge what)) → ⊥) → Walks x ms n b (Err why) n' b'
    by_case stop.Missing m l = some_none (st.state.shelf.tops top) st.entry st.is_top (m refl)
    by_case (stop.TooLarge what) m l = absurd (l what refl)
    by_case (stop.Fault f) m l = tt
