-- A file, piece by piece.
use Rattle.std.proofs.Common.{◌≡◌, ◌<◌, ◌≤◌, ℕ, suc, ◌-◌, ◌/◌, List, [], ◌∷◌, ◌++◌, map, length, take, drop, sym, ◌∙◌, ap, arith, length-drop}
use Rattle.std.proofs.lemmas.List.{append_assoc, map-append}
use Rattle.zi_shelf.specs.Filling.{Work, Append}
use Rattle.zi_session.specs.Works.{work_of, cut, pieces}
use Rattle.zi_session.specs.AtPlace.{calls}
use Rattle.zi_session.specs.declared.work.Work.{Work as Kept}

pub last_piece : (b : List ℕ) → length b ≤ 65536 → pieces b ≡ b ∷ []
unfolding pieces
last_piece b h = let e : (length b - 1) / 65536 ≡ 0 = omega arith in ap (λ k. cut k b) e

pub first_piece : (b : List ℕ) → 65536 < length b → pieces b ≡ take 65536 b ∷ pieces (drop 65536 b)
unfolding pieces
first_piece b h = let e : (length b - 1) / 65536 ≡ suc ((length (drop 65536 b) - 1) / 65536) = omega (arith, length-drop 65536 b) in ap (λ k. cut k b) e

-- one call more
pub call_pushed : (ws vs : List Kept) (w : Kept) → vs ≡ ws ++ w ∷ [] → calls vs ≡ calls ws ++ work_of w ∷ []
call_pushed ws vs w e = ap calls e ∙ map-append work_of ws (w ∷ [])

-- one piece more
pub piece_put : (path : List (List ℕ)) (ws vs : List Kept) (b piece more : List ℕ) (all : List Work) → 65536 < length b → piece ≡ take 65536 b → more ≡ drop 65536 b → calls ws ++ map (Append path) (pieces b) ≡ all → calls vs ≡ calls ws ++ Append path piece ∷ []
    → calls vs ++ map (Append path) (pieces more) ≡ all
piece_put path ws vs b piece more all lt p m h e =
    ap (λ l. l ++ map (Append path) (pieces more)) e ∙ append_assoc (calls ws) (Append path piece ∷ []) (map (Append path) (pieces more))
    ∙ ap (λ l. calls ws ++ map (Append path) l) (ap (λ q. q ∷ pieces more) p ∙ ap (λ q. take 65536 b ∷ pieces q) m ∙ sym (first_piece b lt)) ∙ h

pub last_put : (path : List (List ℕ)) (ws vs : List Kept) (b : List ℕ) (all : List Work) → length b ≤ 65536 → calls ws ++ map (Append path) (pieces b) ≡ all → calls vs ≡ calls ws ++ Append path b ∷ [] → calls vs ≡ all
last_put path ws vs b all le h e = e ∙ ap (λ l. calls ws ++ map (Append path) l) (sym (last_piece b le)) ∙ h
