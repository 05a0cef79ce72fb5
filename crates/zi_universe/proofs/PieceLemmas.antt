-- What an inherited list asks for, piece by piece.
use Rattle.std.proofs.Common.{◌≡◌, ℕ, suc, ◌+◌, ◌<◌, ◌≤◌, List, [], ◌∷◌, ◌++◌, length, map, filter, drop, get_or, Bor, sym, ap, ◌∙◌, arith}
use Rattle.std.specs.List.{flat_map}
use Rattle.std.proofs.Math.Seq.{drop-cons}
use Rattle.std.proofs.lemmas.List.{drop_all, map-append}
use Rattle.std.proofs.lemmas.List.Elements.{filter-append}
use Rattle.std.proofs.lemmas.Grind.{flat_map-append}
use Rattle.zi_parts.specs.declared.types.Dep.{Dep}
use Rattle.zi_parts.specs.declared.types.Command.{Command}
use Rattle.zi_universe.specs.Naming.{Uris, joined}
use Rattle.zi_universe.specs.Candidates.{asks, asked, asked_by_command}
use Rattle.zi_universe.proofs.NamingLemmas.{joined_twice}

-- the items of pieces
abbrev pub items_of : {X : Type 0} → List (Bor (List X)) → List X
items_of pieces = flat_map (λ s. s.now) pieces

module _ {X : Type 0} (says : List X → Uris) (parts : (xs ys : List X) → says (xs ++ ys) ≡ says xs ++ says ys) where
  pub pieces_next : (pieces : List (Bor (List X))) (i : ℕ) (piece : Bor (List X)) (before now total : Uris) → i < length pieces → piece ≡ get_or pieces i piece
      → now ≡ joined before (says piece.now) → joined before (says (items_of (drop i pieces))) ≡ total → joined now (says (items_of (drop (i + 1) pieces))) ≡ total
  pieces_next pieces i piece before now total lt is made kept =
      let n : suc i ≡ i + 1 = omega arith in
      let rest : List X = items_of (drop (i + 1) pieces) in
      let e : drop i pieces ≡ piece ∷ drop (i + 1) pieces = drop-cons pieces i piece lt ∙ (ap (λ y. y ∷ drop (suc i) pieces) (sym is) ∙ ap (λ j. piece ∷ drop j pieces) n) in
      ap (λ q. joined q (says rest)) made ∙ joined_twice before (says piece.now) (says rest) ∙ ap (joined before) (sym (parts piece.now rest))
      ∙ ap (λ q. joined before (says (items_of q))) (sym e) ∙ kept

  pub pieces_end : (pieces : List (Bor (List X))) (i : ℕ) (before total : Uris) → length pieces ≤ i → says [] ≡ [] → joined before (says (items_of (drop i pieces))) ≡ total → before ≡ total
  pieces_end pieces i before total le none kept = ap (joined before) (sym none) ∙ ap (λ q. joined before (says (items_of q))) (sym (drop_all i pieces le)) ∙ kept

pub asked-append : (xs ys : List Dep) → asked (xs ++ ys) ≡ asked xs ++ asked ys
asked-append xs ys = ap (map (λ (d : Dep). d.interface)) (filter-append asks xs ys) ∙ map-append (λ (d : Dep). d.interface) (filter asks xs) (filter asks ys)

pub commands-append : (xs ys : List Command) → flat_map asked_by_command (xs ++ ys) ≡ flat_map asked_by_command xs ++ flat_map asked_by_command ys
commands-append xs ys = flat_map-append asked_by_command xs ys
