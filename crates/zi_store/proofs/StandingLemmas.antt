-- What stands in a folder that stands on a shelf.
use Rattle.std.proofs.Common.{◌≡◌, ℕ, ℤ, Bool, false, List, [], ◌∷◌, ◌++◌, Option, Some, None, IsSome, refl, sym, ◌∙◌, ap, subst, if◌then◌else◌}
use Rattle.zi_tree.specs.Dir.{Dir}
use Rattle.zi_tree.specs.Paths.{items, node_in, found, found_in, is_last}
use Rattle.zi_tree.specs.declared.tree.TreeNode.{TreeNode}
use Rattle.zi_tree.specs.declared.tree.TreeNode.TheVariants.{File, Link, Folder}
use Rattle.zi_shelf.specs.Names.{Name}
use Rattle.zi_shelf.specs.Shelved.{Top}
use Rattle.zi_shelf.specs.Told.{Told}
use Rattle.zi_shelf.specs.Reading.{Entries, Read, Target, folder_at}
use Rattle.zi_store.specs.Standing.{Stands, StandsNode}
use Rattle.zi_store.specs.Entries.{Fits}

last_none : (ms : List Name) (n : Name) → is_last (ms ++ n ∷ []) ≡ false
last_none [] n = absurd_last n
  where
    absurd_last : (n : Name) → is_last ([] ++ n ∷ []) ≡ false
    absurd_last n = refl
last_none (m ∷ ms) n = refl

-- the folder at the path is entered by its first name
pub first_folder : (m : Name) (ms : List Name) (t d : Dir) → folder_at (m ∷ ms) t ≡ Some d → (i : Dir) × (node_in m (items t) ≡ Some (Folder i)) × (folder_at ms i ≡ Some d)
first_folder m [] t d h = by_node (node_in m (items t)) refl h
  where
    by_node : (o : Option TreeNode) → node_in m (items t) ≡ o → folder_at (m ∷ []) t ≡ Some d → (i : Dir) × (node_in m (items t) ≡ Some (Folder i)) × (folder_at [] i ≡ Some d)
    by_node None e k = absurd (cc (k, e))
    by_node (Some (File b x y)) e k = absurd (cc (k, e))
    by_node (Some (Link x)) e k = absurd (cc (k, e))
    by_node (Some (Folder i)) e k = (i, e, cc (k, e))
first_folder m (m2 ∷ ms) t d h = by_node (node_in m (items t)) refl h
  where
    by_node : (o : Option TreeNode) → node_in m (items t) ≡ o → folder_at (m ∷ m2 ∷ ms) t ≡ Some d → (i : Dir) × (node_in m (items t) ≡ Some (Folder i)) × (folder_at (m2 ∷ ms) i ≡ Some d)
    by_node None e k = absurd (cc (k, e))
    by_node (Some (File b x y)) e k = absurd (cc (k, e))
    by_node (Some (Link x)) e k = absurd (cc (k, e))
    by_node (Some (Folder i)) e k = (i, e, cc (k, e))

-- one name more
pub found_more : (path : List Name) (n : Name) (t d : Dir) → folder_at path t ≡ Some d → found (path ++ n ∷ []) t ≡ node_in n (items d)
found_more [] n t d h = let e : t ≡ d = cc h in ap (λ x. node_in n (items x)) e
found_more (m ∷ ms) n t d h =
    let f = first_folder m ms t d h in
    not_last m ms n t ∙ ap (λ o. found_in (λ inside. found (ms ++ n ∷ []) inside) o) f.1 ∙ found_more ms n f.0 d f.2
  where
    not_last : (m : Name) (ms : List Name) (n : Name) (t : Dir) → found (m ∷ (ms ++ n ∷ [])) t ≡ found_in (λ inside. found (ms ++ n ∷ []) inside) (node_in m (items t))
    not_last m ms n t = ap (λ b. if b then node_in m (items t) else found_in (λ inside. found (ms ++ n ∷ []) inside) (node_in m (items t))) (last_none ms n)

pub node_below : {h : Type 0} {told : Option Told} {top : Name} {path : List Name} {d : Dir} (n : Name) (x : TreeNode) → Stands h told top path d → node_in n (items d) ≡ Some x → StandsNode h told top (path ++ n ∷ []) x
node_below {path = path} {d = d} n x st e = record {
  keeps = st.keeps;
  state = st.state;
  tells = st.tells;
  entry = st.entry;
  is_top = st.is_top;
  is_there = found_more path n st.entry.tree d st.is_there ∙ e;
}

pub folder_there : {h : Type 0} {told : Option Told} {top : Name} (path : List Name) (m : Name) {i : Dir} → StandsNode h told top (path ++ m ∷ []) (Folder i) → Stands h told top (path ++ m ∷ []) i
folder_there path m st = record {
  keeps = st.keeps;
  state = st.state;
  tells = st.tells;
  entry = st.entry;
  is_top = st.is_top;
  is_there = at_path path m st.entry.tree _ st.is_there;
}
  where
    at_path : (path : List Name) (m : Name) (t i : Dir) → found (path ++ m ∷ []) t ≡ Some (Folder i) → folder_at (path ++ m ∷ []) t ≡ Some i
    at_path [] m t i h = cc h
    at_path (n ∷ ns) m t i h = cc h

told_one : (told : Option Told) (a b : Told) → told ≡ Some a → told ≡ Some b → a ≡ b
told_one told a b h k = cc (h, k)

-- the calls that read it fit
pub fits_entries : {h : Type 0} {told : Option Told} {top : Name} {path : List Name} {d : Dir} → Stands h told top path d → Fits told (Entries top path)
fits_entries {told = told} {top = top} {path = path} st s e top_entry is =
    let same = told_one told st.state s st.tells e in
    let one : st.entry ≡ top_entry = let at_s = subst (λ (x : Told). x.shelf.tops top ≡ Some st.entry) same st.is_top in cc (at_s, is) in
    subst (λ (x : Top Dir). IsSome (folder_at path x.tree)) one (subst IsSome (sym st.is_there) refl)

pub fits_read : {h : Type 0} {told : Option Told} {top : Name} {path : List Name} {bytes : List ℕ} {exec : Bool} {mtime : ℤ} (offset max : ℕ) → StandsNode h told top path (File bytes exec mtime) → Fits told (Read top path offset max)
fits_read {told = told} {top = top} {path = path} offset max st s e =
    let same = told_one told st.state s st.tells e in (
      st.entry,
      subst (λ (x : Told). x.shelf.tops top ≡ Some st.entry) same st.is_top,
      rw st.is_there tt,
    )

pub fits_target : {h : Type 0} {told : Option Told} {top : Name} {path : List Name} {target : List ℕ} → StandsNode h told top path (Link target) → Fits told (Target top path)
fits_target {told = told} {top = top} {path = path} st s e =
    let same = told_one told st.state s st.tells e in (
      st.entry,
      subst (λ (x : Told). x.shelf.tops top ≡ Some st.entry) same st.is_top,
      rw st.is_there tt,
    )
