-- The folder that holds what stands at a path.
use Rattle.std.proofs.Common.{◌≡◌, ℕ, zero, suc, ◌+◌, ◌<◌, ◌≤◌, List, [], ◌∷◌, Option, Some, None, drop, length, length-drop, get_or, Bool, true, false, not, is_none, is_some, refl, ◌∙◌, arith}
use denote.Bor.{Bor}
use Rattle.std.specs.Option.{option_copied}
use Rattle.zi_tree.specs.Dir.{Dir}
use Rattle.zi_tree.specs.declared.tree.TreeNode.{TreeNode}
use Rattle.zi_tree.specs.declared.tree.TreeNode.TheVariants.{File, Link, Folder}
use Rattle.zi_tree.specs.Paths.{items, node_in, found, holder, last_name}

-- what stands under a name in a folder that is there
abbrev pub node_held : List ℕ → Option Dir → Option TreeNode
node_held n None = None
node_held n (Some folder) = node_in n (items folder)

pub found_held : (path : List (List ℕ)) (d : Dir) → found path d ≡ node_held (last_name path) (holder path d)
found_held [] d = refl
found_held (n ∷ []) d = refl
found_held (n ∷ m ∷ ms) d = by_node (node_in n (items d)) refl (λ inside. found_held (m ∷ ms) inside)
  where
    by_node : (o : Option TreeNode) → node_in n (items d) ≡ o → ((inside : Dir) → found (m ∷ ms) inside ≡ node_held (last_name (m ∷ ms)) (holder (m ∷ ms) inside)) → found (n ∷ m ∷ ms) d ≡ node_held (last_name (n ∷ m ∷ ms)) (holder (n ∷ m ∷ ms) d)
    by_node None e ih = rw e refl
    by_node (Some (File b t k)) e ih = rw e refl
    by_node (Some (Link t)) e ih = rw e refl
    by_node (Some (Folder i)) e ih = rw e (ih i)

pub last_is : (path : List (List ℕ)) (k : ℕ) (n : List ℕ) → length path ≡ k + 1 → n ≡ get_or path k n → n ≡ last_name path
last_is [] k n h e = absurd (omega arith)
last_is (m ∷ []) zero n h e = e
last_is (m ∷ []) (suc k) n h e = absurd (omega arith)
last_is (m ∷ l ∷ ls) zero n h e = absurd (omega arith)
last_is (m ∷ l ∷ ls) (suc k) n h e = last_is (l ∷ ls) k n (omega arith) e

-- the walk has come to the folder before the last part
pub holder_last : (path : List (List ℕ)) (k : ℕ) (whole here : Dir) → k < length path → length path ≤ k + 1 → holder (drop k path) here ≡ holder path whole → Some here ≡ holder path whole
holder_last path k whole here lt le h = one (drop k path) (omega (arith, length-drop k path)) ∙ h
  where
    one : (ns : List (List ℕ)) → length ns ≡ 1 → Some here ≡ holder ns here
    one [] e = absurd (omega arith)
    one (n ∷ []) e = refl
    one (n ∷ m ∷ ms) e = absurd (omega arith)

pub none_copied : {A : Type 0} (o : Option (Bor A)) (r : Bool) → is_some o ≡ not r → r ≡ is_none (option_copied o)
none_copied None true h = refl
none_copied None false h = absurd (cc h)
none_copied (Some x) true h = absurd (cc h)
none_copied (Some x) false h = refl
