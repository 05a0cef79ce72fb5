-- The bytes of a file, piece by piece.
use Rattle.std.proofs.Common.{◌≡◌, ℕ, ℤ, ◌≤◌, Bool, true, false, List, [], ◌∷◌, ◌++◌, length, take, drop, refl, sym, ◌∙◌, ap, subst, append_assoc, arith, ◌⊎◌, inl, inr, Option, Some, Ok, length-append, MatchBool}
use Rattle.std.proofs.lemmas.List.{append-nil, nil_from_length}
use Rattle.std.proofs.lemmas.List.{take-append-drop}
use Rattle.zi_tree.specs.Dir.{Dir}
use Rattle.zi_tree.specs.Paths.{found}
use Rattle.zi_tree.specs.declared.tree.TreeNode.TheVariants.{File}
use Rattle.zi_shelf.specs.Names.{Name}
use Rattle.zi_shelf.specs.Shelved.{Top}
use Rattle.zi_shelf.specs.Told.{Told}
use Rattle.zi_shelf.specs.Reading.{Read, ReadAnswer, IsPiece}
use Rattle.zi_store.specs.Standing.{StandsNode}
use Rattle.zi_store.specs.Entries.{IsFront}

take_drop : (n : ℕ) (xs : List ℕ) → take n xs ++ drop n xs ≡ xs
take_drop n xs = take-append-drop n xs

drop_front : (old rest : List ℕ) → drop (length old) (old ++ rest) ≡ rest
drop_front [] rest = refl
drop_front (x ∷ old) rest = drop_front old rest

-- the next piece is of what is left
piece_is : (old all : List ℕ) (max : ℕ) (piece : List ℕ) (rest : List ℕ) → old ++ rest ≡ all → (p : IsPiece all (length old) max piece) → piece ≡ take p.number rest
piece_is old all max piece rest e p = p.is ∙ ap (λ l. take p.number l) (ap (λ l. drop (length old) l) (sym e) ∙ drop_front old rest)

pub piece_front : (old new all : List ℕ) (max : ℕ) (piece : List ℕ) → new ≡ old ++ piece → IsPiece all (length old) max piece → IsFront old all → IsFront new all
piece_front old new all max piece e p (rest, f) = (
  drop p.number rest,
  ap (λ l. l ++ drop p.number rest) (e ∙ ap (λ l. old ++ l) (piece_is old all max piece rest f p)) ∙ append_assoc old (take p.number rest) (drop p.number rest) ∙ ap (λ l. old ++ l) (take_drop p.number rest) ∙ f,
)

ended_at : (old all piece rest : List ℕ) (max : ℕ) → old ++ rest ≡ all → IsPiece all (length old) max piece → 1 ≤ max → piece ≡ [] → old ≡ all
ended_at old all piece rest max f p h none = by_end p.end
  where
    by_end : (max ≡ 0) ⊎ ((piece ≡ [] → length all ≤ length old) × (length all ≤ length old → piece ≡ [])) → old ≡ all
    by_end (inl z) = absurd (omega (arith, h, z))
    by_end (inr both) =
        let short = both.0 none in
        let sum = ap length (sym f) ∙ length-append old rest in
        let nothing : rest ≡ [] = nil_from_length rest (omega (arith, short, sum)) in
        sym (append-nil old) ∙ ap (λ l. old ++ l) (sym nothing) ∙ f

pub piece_end : (old new all : List ℕ) (max : ℕ) (piece : List ℕ) → new ≡ old ++ piece → IsPiece all (length old) max piece → 1 ≤ max → length new ≤ length old → IsFront old all → old ≡ all
piece_end old new all max piece e p h short (rest, f) =
    let sum = ap length e ∙ length-append old piece in
    ended_at old all piece rest max f p h (nil_from_length piece (omega (arith, short, sum)))

-- what a read of a file that stands there says
pub read_front : {T h : Type 0} {told : Option Told} {top : Name} {path : List Name} (all : List ℕ) (exec : Bool) (mtime : ℤ) (st : StandsNode h told top path (File all exec mtime)) (max : ℕ) (old new : List ℕ) (x : T)
    → ReadAnswer (Read top path (length old) max) old (Ok x) new st.state.shelf → 1 ≤ max → IsFront old all → (more : Bool) → (more ≡ false → length new ≤ length old) → MatchBool more (IsFront new all) (old ≡ all)
read_front {top = top} {path = path} all exec mtime st max old new x (e, bytes, exec', mtime', piece, tops, there, is, p) h front more short =
    let one : st.entry ≡ e = let t = st.is_top in cc (t, tops) in
    let here : found path st.entry.tree ≡ Some (File bytes exec' mtime') = subst (λ (y : Top Dir). found path y.tree ≡ Some (File bytes exec' mtime')) (sym one) there in
    let same : bytes ≡ all = let t = st.is_there in cc (t, here) in
    let q = subst (λ l. IsPiece l (length old) max piece) same p in
    by_more more short q
  where
    by_more : (more : Bool) → (more ≡ false → length new ≤ length old) → IsPiece all (length old) max piece → MatchBool more (IsFront new all) (old ≡ all)
    by_more true s q = piece_front old new all max piece is q front
    by_more false s q = piece_end old new all max piece is q h (s refl) front

-- the same of a read into a buffer of its own
pub next_front : {T h : Type 0} {told : Option Told} {top : Name} {path : List Name} (all : List ℕ) (exec : Bool) (mtime : ℤ) (st : StandsNode h told top path (File all exec mtime)) (max n : ℕ) (front piece : List ℕ) (x : T)
    → n ≡ length front → ReadAnswer (Read top path n max) [] (Ok x) piece st.state.shelf → 1 ≤ max → IsFront front all → (more : Bool) → (more ≡ false → piece ≡ []) → MatchBool more (IsFront (front ++ piece) all) (front ≡ all)
next_front {T = T} {top = top} {path = path} all exec mtime st max n front piece x at (e, bytes, exec', mtime', part, tops, there, is, p) h before more none =
    read_front {T = T} all exec mtime st max front (front ++ piece) x
    (e, bytes, exec', mtime', part, tops, there, ap (λ l. front ++ l) is, subst (λ k. IsPiece bytes k max part) at p) h before more
    (λ m. let empty = ap (λ l. length (front ++ l)) (none m) ∙ ap length (append-nil front) in omega (arith, empty))
