-- The walk that finds all nodes of a tree.
use Rattle.std.proofs.Common.{◌≡◌, ◌<◌, List, [], ◌∷◌, ◌++◌, length, sym, ◌∙◌, ap, arith, length-append}
use Rattle.std.proofs.lemmas.List.{append_assoc, append-nil, map-append}
use Rattle.zi_tree.specs.declared.place.Place.{Place}
use Rattle.zi_tree.specs.declared.walk.Waiting.{Waiting}
use Rattle.zi_tree.specs.Walk.{Spot, spot_of, spots, leaf_places, folder_places}
use Rattle.zi_tree.specs.Waiting.{all_in, waiting_places}

-- one place more
spots_more : (ps : List Place) (p : Place) (later : List Place) → later ≡ ps ++ p ∷ [] → spots later ≡ spots ps ++ spot_of p ∷ []
spots_more ps p later e = ap spots e ∙ map-append spot_of ps (p ∷ [])

-- one folder more that waits, which goes first
pub waiting_more : (ws : List Waiting) (w : Waiting) → waiting_places (ws ++ w ∷ []) ≡ (spot_of w.place ∷ all_in w.path w.inside.now) ++ waiting_places ws
waiting_more [] w = sym (append-nil (spot_of w.place ∷ all_in w.path w.inside.now))
waiting_more (v ∷ ws) w =
    let first = spot_of w.place ∷ all_in w.path w.inside.now in
    let last = spot_of v.place ∷ all_in v.path v.inside.now in
    ap (λ l. l ++ last) (waiting_more ws w) ∙ append_assoc first (waiting_places ws) last

-- a folder that waited is found and entered
pub entered : (ws left later : List Waiting) (w : Waiting) (found mid new : List Place) (all : List Spot) → ws ≡ left ++ w ∷ [] → mid ≡ found ++ w.place ∷ [] → spots new ≡ spots mid ++ leaf_places w.path w.inside.now
    → waiting_places later ≡ folder_places w.path w.inside.now ++ waiting_places left → spots found ++ waiting_places ws ≡ all → spots new ++ waiting_places later ≡ all
entered ws left later w found mid new all e m n l h =
    let s = spot_of w.place in
    let leaves = leaf_places w.path w.inside.now in
    let folders = folder_places w.path w.inside.now in
    let rest = waiting_places left in
    ap (λ t. spots new ++ t) l ∙ ap (λ t. t ++ (folders ++ rest)) (n ∙ ap (λ t. t ++ leaves) (spots_more found w.place mid m) ∙ append_assoc (spots found) (s ∷ []) leaves)
    ∙ append_assoc (spots found) (s ∷ leaves) (folders ++ rest) ∙ ap (λ t. spots found ++ s ∷ t) (sym (append_assoc leaves folders rest))
    ∙ ap (λ t. spots found ++ t) (sym (ap waiting_places e ∙ waiting_more left w)) ∙ h

-- so less is left
pub fewer : (ws left later : List Waiting) (w : Waiting) → ws ≡ left ++ w ∷ [] → waiting_places later ≡ folder_places w.path w.inside.now ++ waiting_places left → length (waiting_places later) < length (waiting_places ws)
fewer ws left later w e l =
    let leaves = leaf_places w.path w.inside.now in
    let folders = folder_places w.path w.inside.now in
    let rest = waiting_places left in
    omega (arith, ap length l, length-append folders rest, ap length (ap waiting_places e ∙ waiting_more left w), length-append (spot_of w.place ∷ (leaves ++ folders)) rest, length-append leaves folders)
