-- Calls made one after another.
use Rattle.std.proofs.Common.{◌≡◌, ℕ, zero, suc, ◌-◌, ◌/◌, Bool, false, ℤ, pos, List, [], ◌∷◌, ◌++◌, map, length, take, drop, Option, Some, None, refl, sym, ◌∙◌, ap, option_and_then, option_map}
use Rattle.std.proofs.lemmas.List.{append_assoc, take-append-drop}
use Rattle.zi_tree.specs.Dir.{Dir, Nothing}
use Rattle.zi_tree.specs.declared.tree.TreeNode.{TreeNode}
use Rattle.zi_tree.specs.declared.tree.TreeNode.TheVariants.{File, Link, Folder}
use Rattle.zi_tree.specs.Views.{Item, dir}
use Rattle.zi_tree.specs.Paths.{items, node_in, placed, replaced}
use Rattle.zi_tree.proofs.Items.{items_of_dir}
use Rattle.zi_shelf.specs.Filling.{Work, MakeFolder, Append, FinishFile, MakeLink, trees, filled, filled_at, node_after, with_node, in_folder, path_of}
use Rattle.zi_session.specs.Works.{cut, pieces, file_works, below}
use Rattle.zi_session.specs.Made.{made}
use Rattle.zi_tree.proofs.Replaced.{replaced_twice, node_replaced, replaced_same}
use Rattle.zi_session.proofs.Placed.{node_placed, replaced_placed}

-- all these calls, one after another
abbrev pub run : List Work → Dir → Option Dir
run [] d = Some d
run (w ∷ ws) d = option_and_then (run ws) (filled w d)

pub run_is_made : (ws : List Work) (d : Dir) → made trees ws (length ws) d ≡ run ws d
run_is_made [] d = refl
run_is_made (w ∷ ws) d =
    elim (filled w d) as (λ o. option_and_then (made trees ws (length ws)) o ≡ option_and_then (run ws) o) [ None ↦ refl | Some x ↦ run_is_made ws x ]

pub run_append : (ws vs : List Work) (d : Dir) → run (ws ++ vs) d ≡ option_and_then (run vs) (run ws d)
run_append [] vs d = refl
run_append (w ∷ ws) vs d =
    elim (filled w d) as (λ o. option_and_then (run (ws ++ vs)) o ≡ option_and_then (run vs) (option_and_then (run ws) o)) [ None ↦ refl | Some x ↦ run_append ws vs x ]

-- a first call, then the others
pub run_then : (w : Work) (ws : List Work) (d e : Dir) (o : Option Dir) → filled w d ≡ Some e → run ws e ≡ o → run (w ∷ ws) d ≡ o
run_then w ws d e o h k = ap (option_and_then (run ws)) h ∙ k

pub run_both : (ws vs : List Work) (d e : Dir) (o : Option Dir) → run ws d ≡ Some e → run vs e ≡ o → run (ws ++ vs) d ≡ o
run_both ws vs d e o h k = run_append ws vs d ∙ ap (option_and_then (run vs)) h ∙ k

-- a call in the top folder
fill_here : (w : Work) (n : List ℕ) (is : List Item) → path_of w ≡ n ∷ [] → filled w (dir is) ≡ with_node n (node_in n is) (node_after w (node_in n is)) is
unfolding filled
fill_here w n is e = ap (λ p. filled_at p w (dir is)) e ∙ ap (λ (l : List Item). with_node n (node_in n l) (node_after w (node_in n l)) l) (items_of_dir is)

-- where it finds nothing
fill_new : (w : Work) (n : List ℕ) (is : List Item) (x : TreeNode) → path_of w ≡ n ∷ [] → node_in n is ≡ None → node_after w None ≡ Some x → filled w (dir is) ≡ Some (dir (placed n x is))
fill_new w n is x e free after =
    fill_here w n is e ∙ ap (λ o. with_node n o (node_after w o) is) free ∙ ap (λ o. with_node n None o is) after

fill_old : (w : Work) (n : List ℕ) (is : List Item) (x y : TreeNode) → path_of w ≡ n ∷ [] → node_in n is ≡ Some y → node_after w (Some y) ≡ Some x → filled w (dir is) ≡ Some (dir (replaced n x is))
fill_old w n is x y e there after =
    fill_here w n is e ∙ ap (λ o. with_node n o (node_after w o) is) there ∙ ap (λ o. with_node n (Some y) o is) after

pub make_folder : (n : List ℕ) (is : List Item) → node_in n is ≡ None → filled (MakeFolder (n ∷ [])) (dir is) ≡ Some (dir (placed n (Folder Nothing) is))
make_folder n is free = fill_new (MakeFolder (n ∷ [])) n is (Folder Nothing) refl free refl

pub make_link : (n t : List ℕ) (is : List Item) → node_in n is ≡ None → filled (MakeLink (n ∷ []) t) (dir is) ≡ Some (dir (placed n (Link t) is))
make_link n t is free = fill_new (MakeLink (n ∷ []) t) n is (Link t) refl free refl

append_first : (n b : List ℕ) (is : List Item) → node_in n is ≡ None → filled (Append (n ∷ []) b) (dir is) ≡ Some (dir (placed n (File b false (pos 0)) is))
append_first n b is free = fill_new (Append (n ∷ []) b) n is (File b false (pos 0)) refl free refl

-- what a file is so far
abbrev so_far : List ℕ → List ℕ → List Item → Dir
so_far n b is = dir (placed n (File b false (pos 0)) is)

append_more : (n old b : List ℕ) (is : List Item) → node_in n is ≡ None → filled (Append (n ∷ []) b) (so_far n old is) ≡ Some (so_far n (old ++ b) is)
append_more n old b is free =
    fill_old (Append (n ∷ []) b) n (placed n (File old false (pos 0)) is) (File (old ++ b) false (pos 0)) (File old false (pos 0)) refl (node_placed n (File old false (pos 0)) is free) refl
    ∙ ap (λ (l : List Item). Some (dir l)) (replaced_placed n (File old false (pos 0)) (File (old ++ b) false (pos 0)) is free)

finish : (n b : List ℕ) (e : Bool) (t : ℤ) (is : List Item) → node_in n is ≡ None → filled (FinishFile (n ∷ []) e t) (so_far n b is) ≡ Some (dir (placed n (File b e t) is))
finish n b e t is free =
    fill_old (FinishFile (n ∷ []) e t) n (placed n (File b false (pos 0)) is) (File b e t) (File b false (pos 0)) refl (node_placed n (File b false (pos 0)) is free) refl
    ∙ ap (λ (l : List Item). Some (dir l)) (replaced_placed n (File b false (pos 0)) (File b e t) is free)

append_rest : (k : ℕ) (n old b : List ℕ) (is : List Item) → node_in n is ≡ None → run (map (Append (n ∷ [])) (cut k b)) (so_far n old is) ≡ Some (so_far n (old ++ b) is)
append_rest zero n old b is free = run_then (Append (n ∷ []) b) [] (so_far n old is) (so_far n (old ++ b) is) (Some (so_far n (old ++ b) is)) (append_more n old b is free) refl
append_rest (suc k) n old b is free =
    run_then (Append (n ∷ []) (take 65536 b)) (map (Append (n ∷ [])) (cut k (drop 65536 b))) (so_far n old is) (so_far n (old ++ take 65536 b) is) (Some (so_far n (old ++ b) is))
    (append_more n old (take 65536 b) is free)
    (append_rest k n (old ++ take 65536 b) (drop 65536 b) is free
    ∙ ap (λ l. Some (so_far n l is)) (append_assoc old (take 65536 b) (drop 65536 b) ∙ ap (λ l. old ++ l) (take-append-drop 65536 b)))

append_all : (k : ℕ) (n b : List ℕ) (is : List Item) → node_in n is ≡ None → run (map (Append (n ∷ [])) (cut k b)) (dir is) ≡ Some (so_far n b is)
append_all zero n b is free = run_then (Append (n ∷ []) b) [] (dir is) (so_far n b is) (Some (so_far n b is)) (append_first n b is free) refl
append_all (suc k) n b is free =
    run_then (Append (n ∷ []) (take 65536 b)) (map (Append (n ∷ [])) (cut k (drop 65536 b))) (dir is) (so_far n (take 65536 b) is) (Some (so_far n b is))
    (append_first n (take 65536 b) is free)
    (append_rest k n (take 65536 b) (drop 65536 b) is free ∙ ap (λ l. Some (so_far n l is)) (take-append-drop 65536 b))

-- a whole file
pub make_file : (n b : List ℕ) (e : Bool) (t : ℤ) (is : List Item) → node_in n is ≡ None → run (file_works (n ∷ []) b e t) (dir is) ≡ Some (dir (placed n (File b e t) is))
unfolding pieces
make_file n b e t is free =
    run_both (map (Append (n ∷ [])) (cut ((length b - 1) / 65536) b)) (FinishFile (n ∷ []) e t ∷ []) (dir is) (so_far n b is) (Some (dir (placed n (File b e t) is)))
    (append_all ((length b - 1) / 65536) n b is free)
    (run_then (FinishFile (n ∷ []) e t) [] (so_far n b is) (dir (placed n (File b e t) is)) (Some (dir (placed n (File b e t) is))) (finish n b e t is free) refl)

-- what a call does doesn't depend on the path
after_under : (n : List ℕ) (w : Work) (o : Option TreeNode) → node_after (below (n ∷ []) w) o ≡ node_after w o
after_under n (MakeFolder p) None = refl
after_under n (MakeFolder p) (Some x) = refl
after_under n (Append p b) None = refl
after_under n (Append p b) (Some (File old e t)) = refl
after_under n (Append p b) (Some (Link t)) = refl
after_under n (Append p b) (Some (Folder d)) = refl
after_under n (FinishFile p e t) None = refl
after_under n (FinishFile p e t) (Some (File b f m)) = refl
after_under n (FinishFile p e t) (Some (Link l)) = refl
after_under n (FinishFile p e t) (Some (Folder d)) = refl
after_under n (MakeLink p t) None = refl
after_under n (MakeLink p t) (Some x) = refl

in_same : (n : List ℕ) (is : List Item) (o : Option TreeNode) (f g : Dir → Option Dir) → ((d : Dir) → f d ≡ g d) → in_folder n is o f ≡ in_folder n is o g
in_same n is None f g h = refl
in_same n is (Some (File b e t)) f g h = refl
in_same n is (Some (Link t)) f g h = refl
in_same n is (Some (Folder d)) f g h = ap (option_map (λ new. dir (replaced n (Folder new) is))) (h d)

at_under : (p : List (List ℕ)) (n : List ℕ) (w : Work) (d : Dir) → filled_at p (below (n ∷ []) w) d ≡ filled_at p w d
at_under [] n w d = refl
at_under (m ∷ []) n w d = ap (λ o. with_node m (node_in m (items d)) o (items d)) (after_under n w (node_in m (items d)))
at_under (m ∷ k ∷ ks) n w d = in_same m (items d) (node_in m (items d)) (λ x. filled_at (k ∷ ks) (below (n ∷ []) w) x) (λ x. filled_at (k ∷ ks) w x) (λ x. at_under (k ∷ ks) n w x)

path_under : (n : List ℕ) (w : Work) → path_of (below (n ∷ []) w) ≡ n ∷ path_of w
path_under n (MakeFolder p) = refl
path_under n (Append p b) = refl
path_under n (FinishFile p e t) = refl
path_under n (MakeLink p t) = refl

at_in : (p : List (List ℕ)) (n : List ℕ) (w : Work) (is : List Item) (i new : Dir) → node_in n is ≡ Some (Folder i) → filled_at p w i ≡ Some new → filled_at (n ∷ p) (below (n ∷ []) w) (dir is) ≡ Some (dir (replaced n (Folder new) is))
at_in [] n w is i new there h = absurd (cc h)
at_in (m ∷ ms) n w is i new there h =
    ap (λ (l : List Item). in_folder n l (node_in n l) (λ x. filled_at (m ∷ ms) (below (n ∷ []) w) x)) (items_of_dir is)
    ∙ ap (λ o. in_folder n is o (λ x. filled_at (m ∷ ms) (below (n ∷ []) w) x)) there
    ∙ ap (option_map (λ x. dir (replaced n (Folder x) is))) (at_under (m ∷ ms) n w i ∙ h)

-- a call in a folder of the top
fill_in : (n : List ℕ) (w : Work) (is : List Item) (i new : Dir) → node_in n is ≡ Some (Folder i) → filled w i ≡ Some new → filled (below (n ∷ []) w) (dir is) ≡ Some (dir (replaced n (Folder new) is))
unfolding filled
fill_in n w is i new there h = ap (λ p. filled_at p (below (n ∷ []) w) (dir is)) (path_under n w) ∙ at_in (path_of w) n w is i new there h

-- calls in a folder of the top
pub run_in : (ws : List Work) (n : List ℕ) (is : List Item) (i new : Dir) → node_in n is ≡ Some (Folder i) → run ws i ≡ Some new → run (map (below (n ∷ [])) ws) (dir is) ≡ Some (dir (replaced n (Folder new) is))
run_in [] n is i new there h = let e : i ≡ new = cc h in ap (λ (l : List Item). Some (dir l)) (sym (replaced_same n (Folder i) is there)) ∙ ap (λ x. Some (dir (replaced n (Folder x) is))) e
run_in (w ∷ ws) n is i new there h =
    elim (filled w i) as (λ o. filled w i ≡ o → option_and_then (run ws) o ≡ Some new → run (map (below (n ∷ [])) (w ∷ ws)) (dir is) ≡ Some (dir (replaced n (Folder new) is))) [
      | None ↦ λ e k. absurd (cc k)
      | Some x ↦ λ e k.
          run_then (below (n ∷ []) w) (map (below (n ∷ [])) ws) (dir is) (dir (replaced n (Folder x) is)) (Some (dir (replaced n (Folder new) is)))
          (fill_in n w is i x there e)
          (run_in ws n (replaced n (Folder x) is) x new (node_replaced n (Folder i) (Folder x) is there) k
          ∙ ap (λ (l : List Item). Some (dir l)) (replaced_twice n (Folder x) (Folder new) is))
    ] refl h
