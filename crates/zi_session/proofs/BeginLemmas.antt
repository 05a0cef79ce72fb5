-- Bad names of a tree that is to be added.
use Rattle.std.proofs.Common.{◌≡◌, ℕ, suc, Bool, true, false, ◌&&◌, ◌||◌, List, [], ◌∷◌, ◌++◌, Option, Some, None, refl, sym, ◌∙◌, ap, bytes_eq, if◌then◌else◌}
use Rattle.std.specs.Option.{option_or}
use Rattle.zi_tree.specs.Dir.{Dir, Nothing, AFile, ALink, AFolder}
use Rattle.zi_tree.specs.declared.tree.TreeNode.{TreeNode}
use Rattle.zi_tree.specs.declared.tree.TreeNode.TheVariants.{File, Link, Folder}
use Rattle.zi_tree.specs.Views.{entry_of}
use Rattle.zi_tree.specs.Paths.{items, name_in, node_of, node_in, after}
use Rattle.zi_tree.specs.Order.{is_plain}
use Rattle.zi_tree.proofs.After.{after_step}
use Rattle.zi_manifest.specs.Sketch.{joined}
use Rattle.zi_manifest.specs.Manifest.{own_name, has_newline, is_bad, leaf_bad, folder_bad, first_bad, as_read}
use Rattle.zi_session.specs.AtPlace.{is_leaf}
use Rattle.zi_text.proofs.ListLaws.{first_none}

-- a name makes a path longer
pub no_child : (m n : List ℕ) (p : List (List ℕ)) (o : Option (List (List ℕ))) → m ≡ n → is_plain n ≡ true → o ≡ (if is_plain m then Some (p ++ m ∷ []) else None) → o ≡ None → ⊥
no_child m n p o e h i z =
    let t : is_plain m ≡ true = ap is_plain e ∙ h in
    let s : o ≡ Some (p ++ m ∷ []) = i ∙ ap (λ b. if b then Some (p ++ m ∷ []) else None) t in
    cc (sym s ∙ z)

-- the first bad name among the files and links, from one entry on
leaf_first : (n : List ℕ) (x : TreeNode) (d : Dir) → leaf_bad [] (entry_of n x d) ≡ (if is_leaf x && is_bad n then Some n else leaf_bad [] d)
leaf_first n (File b e t) d = refl
leaf_first n (Link t) d = refl
leaf_first n (Folder i) d = refl

leaf_here : (d : Dir) (i : ℕ) (n : List ℕ) (x : TreeNode) → name_in (items d) i ≡ Some n → node_of (items d) i ≡ Some x → leaf_bad [] (after i d) ≡ (if is_leaf x && is_bad n then Some n else leaf_bad [] (after (suc i) d))
leaf_here d i n x h k = ap (leaf_bad []) (after_step d i n x h k) ∙ leaf_first n x (after (suc i) d)

pub bad_here : (d : Dir) (i : ℕ) (n : List ℕ) (x : TreeNode) → name_in (items d) i ≡ Some n → node_of (items d) i ≡ Some x → (is_leaf x && is_bad n) ≡ true → leaf_bad [] (after i d) ≡ Some n
bad_here d i n x h k b = leaf_here d i n x h k ∙ rw b refl

pub good_here : (d : Dir) (i : ℕ) (n : List ℕ) (x : TreeNode) → name_in (items d) i ≡ Some n → node_of (items d) i ≡ Some x → (is_leaf x && is_bad n) ≡ false → leaf_bad [] (after i d) ≡ leaf_bad [] (after (suc i) d)
good_here d i n x h k b = leaf_here d i n x h k ∙ rw b refl

-- where no name is bad, none is `.manifest`
bad_own : (n : List ℕ) (o p : Option (List ℕ)) → (if is_bad n then o else p) ≡ None → (o ≡ None → ⊥) → (bytes_eq n own_name ≡ false) × (p ≡ None)
bad_own n o p h s = by_case (has_newline n) (bytes_eq n own_name) h
  where
    by_case : (a b : Bool) → (if a || b then o else p) ≡ None → (b ≡ false) × (p ≡ None)
    by_case true b k = absurd (s k)
    by_case false true k = absurd (s k)
    by_case false false k = (refl, k)

-- a tree without a bad name among the top files is read as it is
pub read_good : (d : Dir) → leaf_bad [] d ≡ None → as_read d ≡ d
read_good Nothing h = refl
read_good (AFile n b e t rest) h = let q = bad_own n (Some n) (leaf_bad [] rest) h (λ x. cc x) in rw q.0 (ap (AFile n b e t) (read_good rest q.1))
read_good (ALink n t rest) h = let q = bad_own n (Some n) (leaf_bad [] rest) h (λ x. cc x) in ap (ALink n t) (read_good rest q.1)
read_good (AFolder n inside rest) h = ap (AFolder n inside) (read_good rest h)

none_second : (o p : Option (List ℕ)) → option_or o p ≡ None → p ≡ None
none_second None p h = h
none_second (Some x) p h = absurd (cc h)

-- and has no node `.manifest` at the top, where no subfolder is bad either
free_of : (d : Dir) (p : List ℕ) → leaf_bad p d ≡ None → folder_bad p d ≡ None → node_in own_name (items d) ≡ None
free_of Nothing p h k = refl
free_of (AFile n b e t rest) p h k = let q = bad_own n (Some (joined p n)) (leaf_bad p rest) h (λ x. cc x) in rw q.0 (free_of rest p q.1 k)
free_of (ALink n t rest) p h k = let q = bad_own n (Some (joined p n)) (leaf_bad p rest) h (λ x. cc x) in rw q.0 (free_of rest p q.1 k)
free_of (AFolder n inside rest) p h k =
    let q = bad_own n (Some (joined p n)) (option_or (leaf_bad (joined p n) inside) (option_or (folder_bad (joined p n) inside) (folder_bad p rest))) k (λ x. cc x) in
    rw q.0 (free_of rest p h (none_second (folder_bad (joined p n) inside) (folder_bad p rest) (none_second (leaf_bad (joined p n) inside) (option_or (folder_bad (joined p n) inside) (folder_bad p rest)) q.1)))

pub own_free : (d : Dir) → first_bad d ≡ None → node_in own_name (items d) ≡ None
own_free d h = free_of d [] (first_none (leaf_bad [] d) (folder_bad [] d) h) (none_second (leaf_bad [] d) (folder_bad [] d) h)

-- the first bad name of all is the first one among the top files and links, if there is one
pub first_leaf : (d : Dir) (p : List ℕ) → leaf_bad [] d ≡ Some p → first_bad d ≡ Some p
first_leaf d p h = rw h refl
