-- The calls for a tree's places are those for its nodes.
use Rattle.std.proofs.Common.{◌≡◌, ℕ, List, [], ◌∷◌, ◌++◌, map, refl, sym, ◌∙◌, ap}
use Rattle.std.specs.List.{flat_map}
use Rattle.std.proofs.lemmas.List.{append_assoc, map-append}
use Rattle.std.proofs.lemmas.Grind.{flat_map-append}
use Rattle.zi_tree.specs.Dir.{Dir, Nothing, AFile, ALink, AFolder}
use Rattle.zi_tree.specs.declared.tree.TreeNode.{TreeNode}
use Rattle.zi_tree.specs.declared.tree.TreeNode.TheVariants.{File, Link, Folder}
use Rattle.zi_tree.specs.declared.place.Place.{Place}
use Rattle.zi_tree.specs.Walk.{spots, leaf_places, folder_places, places}
use Rattle.zi_shelf.specs.Filling.{Work, MakeFolder, Append, FinishFile, MakeLink}
use Rattle.zi_session.specs.Works.{pieces, below, leaf_works, folder_works, node_works}
use Rattle.zi_session.specs.AtPlace.{node_calls, calls_at}

-- a call in a folder of a folder
below_twice : (p q : List (List ℕ)) (w : Work) → below p (below q w) ≡ below (p ++ q) w
below_twice p q (MakeFolder r) = ap MakeFolder (sym (append_assoc p q r))
below_twice p q (Append r b) = ap (λ t. Append t b) (sym (append_assoc p q r))
below_twice p q (FinishFile r e t) = ap (λ s. FinishFile s e t) (sym (append_assoc p q r))
below_twice p q (MakeLink r t) = ap (λ s. MakeLink s t) (sym (append_assoc p q r))

all_below : (p q : List (List ℕ)) (ws : List Work) → map (below p) (map (below q) ws) ≡ map (below (p ++ q)) ws
all_below p q [] = refl
all_below p q (w ∷ ws) = ap (λ v. v ∷ map (below p) (map (below q) ws)) (below_twice p q w) ∙ ap (λ vs. below (p ++ q) w ∷ vs) (all_below p q ws)

-- in the top folder
below_top : (w : Work) → below [] w ≡ w
below_top (MakeFolder r) = refl
below_top (Append r b) = refl
below_top (FinishFile r e t) = refl
below_top (MakeLink r t) = refl

all_top : (ws : List Work) → map (below []) ws ≡ ws
all_top [] = refl
all_top (w ∷ ws) = ap (λ v. v ∷ map (below []) ws) (below_top w) ∙ ap (λ vs. w ∷ vs) (all_top ws)

pieces_below : (p q : List (List ℕ)) (bs : List (List ℕ)) → map (below p) (map (Append q) bs) ≡ map (Append (p ++ q)) bs
pieces_below p q [] = refl
pieces_below p q (b ∷ bs) = ap (λ vs. Append (p ++ q) b ∷ vs) (pieces_below p q bs)

-- the calls for one entry
node_below : (p : List (List ℕ)) (n : List ℕ) (x : TreeNode) → map (below p) (node_calls (n ∷ []) x) ≡ node_calls (p ++ n ∷ []) x
node_below p n (File b e t) =
    map-append (below p) (map (Append (n ∷ [])) (pieces b)) (FinishFile (n ∷ []) e t ∷ [])
    ∙ ap (λ vs. vs ++ FinishFile (p ++ n ∷ []) e t ∷ []) (pieces_below p (n ∷ []) (pieces b))
node_below p n (Link t) = refl
node_below p n (Folder d) = refl

-- one file or link more
leaf_first : (p : List (List ℕ)) (n : List ℕ) (x : TreeNode) (left all : List Work) → left ≡ map (below p) all → node_calls (p ++ n ∷ []) x ++ left ≡ map (below p) (node_calls (n ∷ []) x ++ all)
leaf_first p n x left all h =
    ap (λ l. node_calls (p ++ n ∷ []) x ++ l) h ∙ ap (λ l. l ++ map (below p) all) (sym (node_below p n x)) ∙ sym (map-append (below p) (node_calls (n ∷ []) x) all)

-- the calls for the files and links of a folder, and those for its subfolders with all in them
leaf_calls : (p : List (List ℕ)) (d : Dir) → flat_map calls_at (leaf_places p d) ≡ map (below p) (leaf_works d)
leaf_calls p Nothing = refl
leaf_calls p (AFile n b e t rest) = leaf_first p n (File b e t) (flat_map calls_at (leaf_places p rest)) (leaf_works rest) (leaf_calls p rest)
leaf_calls p (ALink n t rest) = leaf_first p n (Link t) (flat_map calls_at (leaf_places p rest)) (leaf_works rest) (leaf_calls p rest)
leaf_calls p (AFolder n inside rest) = leaf_calls p rest

folder_calls : (p : List (List ℕ)) (d : Dir) → flat_map calls_at (folder_places p d) ≡ map (below p) (folder_works d)
folder_calls p Nothing = refl
folder_calls p (AFile n b e t rest) = folder_calls p rest
folder_calls p (ALink n t rest) = folder_calls p rest
folder_calls p (AFolder n inside rest) =
    let q = p ++ n ∷ [] in
    let leaves = leaf_places q inside in
    let folders = folder_places q inside in
    let more = map (below p) (folder_works rest) in
    let both : flat_map calls_at (leaves ++ folders) ≡ map (below q) (node_works inside) =
    flat_map-append calls_at leaves folders ∙ ap (λ l. l ++ flat_map calls_at folders) (leaf_calls q inside)
    ∙ ap (λ l. map (below q) (leaf_works inside) ++ l) (folder_calls q inside) ∙ sym (map-append (below q) (leaf_works inside) (folder_works inside)) in
    ap (λ l. MakeFolder q ∷ l) (flat_map-append calls_at (leaves ++ folders) (folder_places p rest) ∙ ap (λ l. l ++ flat_map calls_at (folder_places p rest)) both
    ∙ ap (λ l. map (below q) (node_works inside) ++ l) (folder_calls p rest) ∙ ap (λ l. l ++ more) (sym (all_below p (n ∷ []) (node_works inside)))
    ∙ sym (map-append (below p) (map (below (n ∷ [])) (node_works inside)) (folder_works rest)))

all_calls : (d : Dir) → flat_map calls_at (places d) ≡ node_works d
all_calls d =
    flat_map-append calls_at (leaf_places [] d) (folder_places [] d) ∙ ap (λ l. l ++ flat_map calls_at (folder_places [] d)) (leaf_calls [] d)
    ∙ ap (λ l. map (below []) (leaf_works d) ++ l) (folder_calls [] d) ∙ sym (map-append (below []) (leaf_works d) (folder_works d)) ∙ all_top (node_works d)

-- so it is before the first of them
pub at_start : (d : Dir) (left ps : List Place) → left ≡ ps → spots ps ≡ places d → flat_map calls_at (spots left) ≡ node_works d
at_start d left ps e h = ap (flat_map calls_at) (ap spots e ∙ h) ∙ all_calls d
