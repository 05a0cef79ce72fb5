-- The lines of a tree's places are its manifest, and the first bad name among them is that of the tree.
use Rattle.std.proofs.Common.{◌≡◌, ℕ, true, false, List, [], ◌∷◌, ◌++◌, None, Some, refl, sym, ◌∙◌, ap, if◌then◌else◌}
use Rattle.std.specs.Option.{option_or}
use Rattle.std.specs.List.{flat_map}
use Rattle.std.proofs.lemmas.List.{append_assoc}
use Rattle.std.proofs.lemmas.Grind.{flat_map-append}
use Rattle.zi_digest.specs.declared.Algorithm.{Algorithm}
use Rattle.zi_tree.specs.Dir.{Dir, Nothing, AFile, ALink, AFolder}
use Rattle.zi_tree.specs.declared.tree.TreeNode.TheVariants.{File, Link, Folder}
use Rattle.zi_tree.specs.declared.place.Place.{Place}
use Rattle.zi_tree.specs.Walk.{Spot, spot, spots, leaf_places, folder_places, places}
use Rattle.zi_manifest.specs.Sketch.{sketch, joined, folder_line, leaf_text, folder_text}
use Rattle.zi_manifest.specs.Manifest.{is_bad, as_read, leaf_bad, folder_bad, first_bad, manifest}
use Rattle.zi_manifest.specs.Walk.{shown, bad_name}
use Rattle.zi_manifest.specs.AtPlace.{joined_all, path_text, is_top, line_at, bad_at, bad_among}
use Rattle.zi_manifest.proofs.Walks.{shown_nothing, bad_entry, text_entry, folders_read_bad, folders_read_text, or_assoc}

-- the path of a subfolder
top_below : (p : List (List ℕ)) (n : List ℕ) → is_top (p ++ n ∷ []) ≡ false
top_below [] n = refl
top_below (m ∷ ms) n = refl

joined_more : (text : List ℕ) (p : List (List ℕ)) (n : List ℕ) → joined_all text (p ++ n ∷ []) ≡ joined (joined_all text p) n
joined_more text [] n = refl
joined_more text (m ∷ ms) n = joined_more (joined text m) ms n

-- the lines of the files and links of a folder, and those of its subfolders with all in them
leaf_lines : (a : Algorithm) (p : List (List ℕ)) (d : Dir) → flat_map (line_at a) (leaf_places p d) ≡ leaf_text (sketch a (shown (is_top p) d))
leaf_lines a p Nothing = ap (λ (y : Dir). leaf_text (sketch a y)) (sym (shown_nothing (is_top p)))
leaf_lines a p (AFile n b e t rest) = ap (λ l. line_at a (spot p n (File b e t)) ++ l) (leaf_lines a p rest) ∙ sym (text_entry a (is_top p) n (File b e t) rest)
leaf_lines a p (ALink n t rest) = ap (λ l. line_at a (spot p n (Link t)) ++ l) (leaf_lines a p rest) ∙ sym (text_entry a (is_top p) n (Link t) rest)
leaf_lines a p (AFolder n inside rest) = leaf_lines a p rest ∙ sym (text_entry a (is_top p) n (Folder inside) rest)

folder_lines : (a : Algorithm) (p : List (List ℕ)) (d : Dir) → flat_map (line_at a) (folder_places p d) ≡ folder_text (path_text p) (sketch a d)
folder_lines a p Nothing = refl
folder_lines a p (AFile n b e t rest) = folder_lines a p rest
folder_lines a p (ALink n t rest) = folder_lines a p rest
folder_lines a p (AFolder n inside rest) =
    let f = line_at a in
    let q = p ++ n ∷ [] in
    let text = joined (path_text p) n in
    let here = folder_line text in
    let leaves = leaf_text (sketch a inside) in
    let folders = folder_text text (sketch a inside) in
    let more = folder_text (path_text p) (sketch a rest) in
    let first : flat_map f (leaf_places q inside) ≡ leaves = leaf_lines a q inside ∙ ap (λ b. leaf_text (sketch a (shown b inside))) (top_below p n) in
    let second : flat_map f (folder_places q inside) ≡ folders = folder_lines a q inside ∙ ap (λ t. folder_text t (sketch a inside)) (joined_more [] p n) in
    let both : flat_map f (leaf_places q inside ++ folder_places q inside) ≡ leaves ++ folders =
    flat_map-append f (leaf_places q inside) (folder_places q inside) ∙ ap (λ l. l ++ flat_map f (folder_places q inside)) first ∙ ap (λ l. leaves ++ l) second in
    ap (λ l. here ++ l) (flat_map-append f (leaf_places q inside ++ folder_places q inside) (folder_places p rest) ∙ ap (λ l. l ++ flat_map f (folder_places p rest)) both ∙ ap (λ l. (leaves ++ folders) ++ l) (folder_lines a p rest))
    ∙ sym (append_assoc here (leaves ++ folders) more) ∙ ap (λ l. l ++ more) (sym (append_assoc here leaves folders))

manifest_lines : (a : Algorithm) (d : Dir) → flat_map (line_at a) (places d) ≡ manifest a d
manifest_lines a d =
    flat_map-append (line_at a) (leaf_places [] d) (folder_places [] d) ∙ ap (λ l. l ++ flat_map (line_at a) (folder_places [] d)) (leaf_lines a [] d)
    ∙ ap (λ l. leaf_text (sketch a (as_read d)) ++ l) (folder_lines a [] d ∙ sym (folders_read_text a [] d))

-- the first bad name of several places
bad_append : (ss ts : List Spot) → bad_among (ss ++ ts) ≡ option_or (bad_among ss) (bad_among ts)
bad_append [] ts = refl
bad_append (s ∷ ss) ts = ap (option_or (bad_at s)) (bad_append ss ts) ∙ sym (or_assoc (bad_at s) (bad_among ss) (bad_among ts))

leaf_bads : (p : List (List ℕ)) (d : Dir) → bad_among (leaf_places p d) ≡ leaf_bad (path_text p) (shown (is_top p) d)
leaf_bads p Nothing = ap (leaf_bad (path_text p)) (sym (shown_nothing (is_top p)))
leaf_bads p (AFile n b e t rest) = ap (option_or (bad_at (spot p n (File b e t)))) (leaf_bads p rest) ∙ sym (bad_entry (is_top p) (path_text p) n (File b e t) rest)
leaf_bads p (ALink n t rest) = ap (option_or (bad_at (spot p n (Link t)))) (leaf_bads p rest) ∙ sym (bad_entry (is_top p) (path_text p) n (Link t) rest)
leaf_bads p (AFolder n inside rest) = leaf_bads p rest ∙ sym (bad_entry (is_top p) (path_text p) n (Folder inside) rest)

folder_bads : (p : List (List ℕ)) (d : Dir) → bad_among (folder_places p d) ≡ folder_bad (path_text p) d
folder_bads p Nothing = refl
folder_bads p (AFile n b e t rest) = folder_bads p rest
folder_bads p (ALink n t rest) = folder_bads p rest
folder_bads p (AFolder n inside rest) =
    let q = p ++ n ∷ [] in
    let text = joined (path_text p) n in
    let leaves = leaf_bad text inside in
    let folders = folder_bad text inside in
    let more = folder_bad (path_text p) rest in
    let first : bad_among (leaf_places q inside) ≡ leaves = leaf_bads q inside ∙ ap (λ b. leaf_bad (path_text q) (shown b inside)) (top_below p n) ∙ ap (λ t. leaf_bad t inside) (joined_more [] p n) in
    let second : bad_among (folder_places q inside) ≡ folders = folder_bads q inside ∙ ap (λ t. folder_bad t inside) (joined_more [] p n) in
    let both : bad_among (leaf_places q inside ++ folder_places q inside) ≡ option_or leaves folders =
    bad_append (leaf_places q inside) (folder_places q inside) ∙ ap (λ o. option_or o (bad_among (folder_places q inside))) first ∙ ap (option_or leaves) second in
    ap (option_or (bad_name (path_text p) n)) (bad_append (leaf_places q inside ++ folder_places q inside) (folder_places p rest)
    ∙ ap (λ o. option_or o (bad_among (folder_places p rest))) both ∙ ap (option_or (option_or leaves folders)) (folder_bads p rest) ∙ or_assoc leaves folders more)
    ∙ elim (is_bad n) as (λ c. option_or (if c then Some text else None) (option_or leaves (option_or folders more)) ≡ (if c then Some text else option_or leaves (option_or folders more))) [ true ↦ refl | false ↦ refl ]

first_among : (d : Dir) → bad_among (places d) ≡ first_bad (as_read d)
first_among d =
    bad_append (leaf_places [] d) (folder_places [] d) ∙ ap (λ o. option_or o (bad_among (folder_places [] d))) (leaf_bads [] d)
    ∙ ap (option_or (leaf_bad [] (as_read d))) (folder_bads [] d ∙ sym (folders_read_bad [] d))

-- so it is before the first of them
pub at_start : (a : Algorithm) (d : Dir) (left ps : List Place) → left ≡ ps → spots ps ≡ places d → (flat_map (line_at a) (spots left) ≡ manifest a d) × (bad_among (spots left) ≡ first_bad (as_read d))
at_start a d left ps e h = let s = ap spots e ∙ h in (ap (flat_map (line_at a)) s ∙ manifest_lines a d, ap bad_among s ∙ first_among d)
