-- What an inherited list says, piece by piece.
use Rattle.std.proofs.Common.{◌≡◌, ℕ, suc, ◌+◌, ◌<◌, ◌≤◌, List, [], ◌∷◌, ◌++◌, length, map, filter, drop, get_or, Bor, sym, ap, ◌∙◌, arith, append_assoc}
use Rattle.std.specs.List.{flat_map}
use Rattle.std.proofs.Math.Seq.{drop-cons}
use Rattle.std.proofs.lemmas.List.{append-nil, drop_all, map-append}
use Rattle.std.proofs.lemmas.List.Elements.{filter-append}
use Rattle.zi_parts.specs.declared.types.Dep.{Dep}
use Rattle.zi_parts.specs.declared.types.Command.{Command}
use Rattle.zi_universe.specs.declared.types.Interface.{Interface}
use Rattle.zi_choice.specs.Choice.{Choice}
use Rattle.zi_choice.specs.Walk.{Walk, is_used}
use Rattle.zi_sels.specs.Chosen.{plain, is_met, met, used_command, used_of}

-- the items of pieces
abbrev pub items_of : {X : Type 0} → List (Bor (List X)) → List X
items_of pieces = flat_map (λ s. s.now) pieces

module _ {X Y : Type 0} (says : List X → List Y) (parts : (xs ys : List X) → says (xs ++ ys) ≡ says xs ++ says ys) where
  pub piece_next : (pieces : List (Bor (List X))) (i : ℕ) (piece : Bor (List X)) (before now total : List Y) → i < length pieces → piece ≡ get_or pieces i piece
      → now ≡ before ++ says piece.now → before ++ says (items_of (drop i pieces)) ≡ total → now ++ says (items_of (drop (i + 1) pieces)) ≡ total
  piece_next pieces i piece before now total lt is made kept =
      let n : suc i ≡ i + 1 = omega arith in
      let rest : List X = items_of (drop (i + 1) pieces) in
      let e : drop i pieces ≡ piece ∷ drop (i + 1) pieces = drop-cons pieces i piece lt ∙ (ap (λ y. y ∷ drop (suc i) pieces) (sym is) ∙ ap (λ j. piece ∷ drop j pieces) n) in
      ap (λ q. q ++ says rest) made ∙ append_assoc before (says piece.now) (says rest) ∙ ap (λ q. before ++ q) (sym (parts piece.now rest))
      ∙ ap (λ q. before ++ says (items_of q)) (sym e) ∙ kept

  pub piece_end : (pieces : List (Bor (List X))) (i : ℕ) (before total : List Y) → length pieces ≤ i → says [] ≡ [] → before ++ says (items_of (drop i pieces)) ≡ total → before ≡ total
  piece_end pieces i before total le none kept =
      sym (append-nil before) ∙ ap (λ q. before ++ q) (sym none) ∙ ap (λ q. before ++ says (items_of q)) (sym (drop_all i pieces le)) ∙ kept

pub met-append : (u : List Interface) (s : Choice) (xs ys : List Dep) → met u s (xs ++ ys) ≡ met u s xs ++ met u s ys
met-append u s xs ys = ap (map plain) (filter-append (is_met u s) xs ys) ∙ map-append plain (filter (is_met u s) xs) (filter (is_met u s) ys)

pub used-append : (u : List Interface) (s : Choice) (walk : Walk) (i : ℕ) (xs ys : List Command) → used_of u s walk i (xs ++ ys) ≡ used_of u s walk i xs ++ used_of u s walk i ys
used-append u s walk i xs ys =
    ap (map (used_command u s)) (filter-append (λ (k : Command). is_used walk i k.name) xs ys)
    ∙ map-append (used_command u s) (filter (λ (k : Command). is_used walk i k.name) xs) (filter (λ (k : Command). is_used walk i k.name) ys)
