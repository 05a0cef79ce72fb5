-- A file or link that is read.
use Rattle.std.proofs.Common.{◌≡◌, ℕ, ℤ, Bool, true, false, ◌&&◌, List, [], ◌∷◌, ◌++◌, length, Option, Some, None, is_none, if◌then◌else◌, Result, Err, refl, sym, ◌∙◌, ap, subst}
use Rattle.zi_tree.specs.Dir.{Dir}
use Rattle.zi_tree.specs.Order.{is_plain}
use Rattle.zi_tree.specs.Paths.{items, node_in, placed}
use Rattle.zi_tree.specs.Views.{Item, dir}
use Rattle.zi_tree.specs.declared.tree.TreeNode.{TreeNode}
use Rattle.zi_tree.specs.declared.tree.TreeNode.TheVariants.{File, Link, Folder}
use Rattle.zi_shelf.specs.Names.{Name}
use Rattle.zi_shelf.specs.Told.{Told}
use Rattle.zi_shelf.specs.Reading.{kind_of}
use Rattle.zi_shelf.specs.declared.shelf.Entry.{Entry}
use Rattle.zi_shelf.specs.declared.shelf.EntryKind.TheVariants as kind
use Rattle.zi_store.specs.Walking.{Passes}
use Rattle.zi_store.specs.Standing.{StandsNode, IsListed}
use Rattle.zi_store.specs.Entries.{bare, leaf_met, Walks}
use Rattle.zi_store.specs.declared.stop.Stop.{Stop}
use Rattle.zi_store.proofs.WalkLemmas.{walks_passed}

-- what is said of a file holds of what is told to be one
pub as_file : {h : Type 0} {told : Option Told} {top : Name} {path : List Name} {Q : Type 0} (x : TreeNode) (exec : Bool) (mtime : ℤ) (size : ℕ) → kind.File exec mtime size ≡ kind_of x → StandsNode h told top path x
    → ((bytes : List ℕ) (exec : Bool) (mtime : ℤ) → StandsNode h told top path (File bytes exec mtime) → Q) → Q
as_file (File b e t) exec mtime size k st f = f b e t st
as_file (Link t) exec mtime size k st f = absurd (cc k)
as_file (Folder d) exec mtime size k st f = absurd (cc k)

pub file_stops : {h : Type 0} {told : Option Told} {top : Name} {path : List Name} (x : TreeNode) (exec : Bool) (mtime : ℤ) (size : ℕ) (n b n' b' n2 b2 : ℕ) (r : Result TreeNode Stop) (passed why : Stop) → r ≡ Err passed → passed ≡ why → kind.File exec mtime size ≡ kind_of x → StandsNode h told top path x
    → ((bytes : List ℕ) (exec : Bool) (mtime : ℤ) → StandsNode h told top path (File bytes exec mtime) → Walks bytes (record { depth = 0; size = length bytes } ∷ []) n b (Err why) n' b')
    → Walks (bare x) (leaf_met x) n b r n2 b2
file_stops (File c e t) exec mtime size n b n' b' n2 b2 r passed why is same k st f = walks_passed c (File c e t) (record { depth = 0; size = length c } ∷ []) (record { depth = 0; size = length c } ∷ []) n b n' b' n2 b2 r passed why is same refl (f c e t st)
file_stops (Link t) exec mtime size n b n' b' n2 b2 r passed why is same k st f = absurd (cc k)
file_stops (Folder d) exec mtime size n b n' b' n2 b2 r passed why is same k st f = absurd (cc k)

pub file_walks : {h : Type 0} {told : Option Told} {top : Name} {path : List Name} (x : TreeNode) (exec : Bool) (mtime stamp : ℤ) (size : ℕ) (read : List ℕ) (n b n' b' : ℕ) → stamp ≡ mtime → kind.File exec mtime size ≡ kind_of x → StandsNode h told top path x
    → ((bytes : List ℕ) (exec : Bool) (mtime : ℤ) → StandsNode h told top path (File bytes exec mtime) → (read ≡ bytes) × Passes n b (record { depth = 0; size = length bytes } ∷ []) n' b')
    → (File read exec stamp ≡ bare x) × Passes n b (leaf_met x) n' b'
file_walks (File c e t) exec mtime stamp size read n b n' b' same k st f =
    let w = f c e t st in
    let same_exec : exec ≡ e = cc k in
    let same_time : mtime ≡ t = cc k in
    (ap (λ z. File z exec stamp) w.0 ∙ ap (λ z. File c z stamp) same_exec ∙ ap (λ z. File c e z) (same ∙ same_time), w.1)
file_walks (Link t) exec mtime stamp size read n b n' b' same k st f = absurd (cc k)
file_walks (Folder d) exec mtime stamp size read n b n' b' same k st f = absurd (cc k)

-- a name that is free has a place
pub has_place : (n m : Name) (is : List Item) (place : Option (List Name)) → m ≡ n → is_plain n ≡ true → node_in n is ≡ None → place ≡ (if is_plain m && is_none (node_in m is) then Some (m ∷ []) else None) → place ≡ Some (n ∷ [])
has_place n m is place e h k q =
    subst (λ z. place ≡ (if is_plain z && is_none (node_in z is) then Some (z ∷ []) else None)) e q
    ∙ ap (λ b. if b && is_none (node_in n is) then Some (n ∷ []) else None) h ∙ ap (λ (o : Option TreeNode). if is_none o then Some (n ∷ []) else None) k

pub has_child : (n m : Name) (path : List Name) (place : Option (List Name)) → m ≡ n → is_plain n ≡ true → place ≡ (if is_plain m then Some (path ++ m ∷ []) else None) → place ≡ Some (path ++ n ∷ [])
has_child n m path place e h q =
    subst (λ z. place ≡ (if is_plain z then Some (path ++ z ∷ []) else None)) e q ∙ ap (λ b. if b then Some (path ++ n ∷ []) else None) h

-- only such a one has it
pub place_is : (n m : Name) (b : Bool) (place : List Name) → m ≡ n → Some place ≡ (if b then Some (m ∷ []) else None) → place ≡ n ∷ []
place_is n m true place e k = let same : place ≡ m ∷ [] = cc k in same ∙ ap (λ z. z ∷ []) e
place_is n m false place e k = absurd (cc k)

pub child_is : (n m : Name) (b : Bool) (path place : List Name) → m ≡ n → Some place ≡ (if b then Some (path ++ m ∷ []) else None) → place ≡ path ++ n ∷ []
child_is n m true path place e k = let same : place ≡ path ++ m ∷ [] = cc k in same ∙ ap (λ z. path ++ z ∷ []) e
child_is n m false path place e k = absurd (cc k)

-- at its place it stands
pub listed_at : {h : Type 0} {told : Option Told} {top : Name} (path : List Name) (e : Entry) (x : TreeNode) (place : List Name) → place ≡ path ++ e.name ∷ [] → IsListed h told top path e x → StandsNode h told top place x
listed_at {h = h} {told = told} {top = top} path e x place is l = subst (λ p. StandsNode h told top p x) (sym is) l.stands

-- what was read is put
pub put_is : (n : Name) (old new : Dir) (x y : TreeNode) → y ≡ bare x → new ≡ dir (placed n y (items old)) → new ≡ dir (placed n (bare x) (items old))
put_is n old new x y e h = h ∙ ap (λ z. dir (placed n z (items old))) e
