-- Arguments over variables of the same names have the same fault.
use Rattle.std.proofs.Common.{◌≡◌, ℕ, zero, suc, ◌+◌, ◌-◌, ◌==◌, true, false, nat_eq, bytes_eq, codes, if◌then◌else◌, List, [], ◌∷◌, length, Option, Some, None, Result, Ok, Err, refl, sym, ap, ◌∙◌}
use Rattle.std.specs.Prelude.{is_some}
use Rattle.std.specs.List.{slice_split, starts_with, onto_first}
use Rattle.std.specs.Option.{option_or}
use Rattle.zi_parts.specs.declared.types.Word.{Word}
use Rattle.zi_parts.specs.declared.types.Word.TheVariants.{Arg, ForEach}
use Rattle.zi_bind.specs.declared.fault.BindFault.{BindFault}
use Rattle.zi_bind.specs.Expansion.{Values, with_item, reference, valued, referred_by, referred, both, behind_dollars, is_dollar, in_pieces, expanded_text, all_both, alone, each_of, expanded_texts, for_items, cut_past, items_of, items_in, expanded}
use Rattle.zi_bind.specs.Names.{HaveSameNames, fault_in, FaultsByNames}

-- The fault of one text.

same_valued : (name rest : List ℕ) (a b : Option (List ℕ)) → is_some a ≡ is_some b → fault_in (valued name rest a) ≡ fault_in (valued name rest b)
same_valued name rest None None e = refl
same_valued name rest None (Some y) e = absurd (cc e)
same_valued name rest (Some x) None e = absurd (cc e)
same_valued name rest (Some x) (Some y) e = refl

module _ (v w : Values) (same : HaveSameNames v w) where
  same_referred_by : (place : ℕ) (found : Option (List ℕ × List ℕ)) → fault_in (referred_by v place found) ≡ fault_in (referred_by w place found)
  same_referred_by place None = refl
  same_referred_by place (Some found) = same_valued found.0 found.1 (v found.0) (w found.0) (same found.0)

  same_referred : (place : ℕ) (text : List ℕ) → fault_in (referred v place text) ≡ fault_in (referred w place text)
  same_referred place text = same_referred_by place (reference text)

fault_both : (a b : Result (List ℕ) BindFault) → fault_in (both a b) ≡ option_or (fault_in a) (fault_in b)
fault_both (Err e) b = refl
fault_both (Ok x) (Err e) = refl
fault_both (Ok x) (Ok y) = refl

same_both : (a b c d : Result (List ℕ) BindFault) → fault_in a ≡ fault_in c → fault_in b ≡ fault_in d → fault_in (both a b) ≡ fault_in (both c d)
same_both a b c d e f = fault_both a b ∙ ap (λ o. option_or o (fault_in b)) e ∙ ap (option_or (fault_in c)) f ∙ sym (fault_both c d)

same_behind : (v w : Values) → HaveSameNames v w → (place : ℕ) (pieces : List (List ℕ)) → fault_in (behind_dollars v place pieces) ≡ fault_in (behind_dollars w place pieces)
same_behind v w same place [] = refl
same_behind v w same place (p ∷ []) = same_referred v w same place p
same_behind v w same place ([] ∷ q ∷ ps) =
    same_both (Ok (36 ∷ q)) (behind_dollars v (place + 2 + length q) ps) (Ok (36 ∷ q)) (behind_dollars w (place + 2 + length q) ps) refl (same_behind v w same (place + 2 + length q) ps)
same_behind v w same place ((c ∷ p) ∷ q ∷ ps) =
    same_both (referred v place (c ∷ p)) (behind_dollars v (place + 1 + length (c ∷ p)) (q ∷ ps)) (referred w place (c ∷ p)) (behind_dollars w (place + 1 + length (c ∷ p)) (q ∷ ps))
    (same_referred v w same place (c ∷ p)) (same_behind v w same (place + 1 + length (c ∷ p)) (q ∷ ps))

same_pieces : (v w : Values) → HaveSameNames v w → (pieces : List (List ℕ)) → fault_in (in_pieces v pieces) ≡ fault_in (in_pieces w pieces)
same_pieces v w same [] = refl
same_pieces v w same (p ∷ ps) = same_both (Ok p) (behind_dollars v (length p) ps) (Ok p) (behind_dollars w (length p) ps) refl (same_behind v w same (length p) ps)

same_text : (v w : Values) → HaveSameNames v w → (text : List ℕ) → fault_in (expanded_text v text) ≡ fault_in (expanded_text w text)
unfolding expanded_text
same_text v w same text = same_pieces v w same (slice_split is_dollar text)

-- The fault of a list.

fault_all : (a b : Result (List (List ℕ)) BindFault) → fault_in (all_both a b) ≡ option_or (fault_in a) (fault_in b)
fault_all (Err e) b = refl
fault_all (Ok x) (Err e) = refl
fault_all (Ok x) (Ok y) = refl

fault_alone : (r : Result (List ℕ) BindFault) → fault_in (alone r) ≡ fault_in r
fault_alone (Err e) = refl
fault_alone (Ok x) = refl

pub same_each : {X : Type 0} (f g : X → Result (List (List ℕ)) BindFault) → ((x : X) → fault_in (f x) ≡ fault_in (g x)) → (xs : List X) → fault_in (each_of f xs) ≡ fault_in (each_of g xs)
same_each f g h [] = refl
same_each f g h (x ∷ xs) =
    fault_all (f x) (each_of f xs) ∙ ap (λ o. option_or o (fault_in (each_of f xs))) (h x) ∙ ap (option_or (fault_in (g x))) (same_each f g h xs)
    ∙ sym (fault_all (g x) (each_of g xs))

same_texts : (v w : Values) → HaveSameNames v w → (args : List (List ℕ)) → fault_in (expanded_texts v args) ≡ fault_in (expanded_texts w args)
same_texts v w same args =
    same_each (λ arg. alone (expanded_text v arg)) (λ arg. alone (expanded_text w arg))
    (λ arg. fault_alone (expanded_text v arg) ∙ same_text v w same arg ∙ sym (fault_alone (expanded_text w arg))) args

-- Items: with one, whichever, the same names are set; and where there is an item, all have one fault.

item_names : (v w : Values) → HaveSameNames v w → (x y : List ℕ) → HaveSameNames (with_item (Some x) v) (with_item (Some y) w)
item_names v w same x y name = elim (bytes_eq name (codes "item")) as (λ b. is_some (if b then Some x else v name) ≡ is_some (if b then Some y else w name)) [
  | true ↦ refl
  | false ↦ same name
]

twice : (o : Option BindFault) → option_or o o ≡ o
twice None = refl
twice (Some e) = refl

once : (o : Option BindFault) → option_or o None ≡ o
once None = refl
once (Some e) = refl

all_one : (f : List ℕ → Result (List (List ℕ)) BindFault) (k : Option BindFault) → ((x : List ℕ) → fault_in (f x) ≡ k) → (x : List ℕ) (xs : List (List ℕ)) → fault_in (each_of f (x ∷ xs)) ≡ k
all_one f k h x [] = fault_all (f x) (Ok []) ∙ once (fault_in (f x)) ∙ h x
all_one f k h x (y ∷ ys) =
    fault_all (f x) (each_of f (y ∷ ys)) ∙ ap (λ o. option_or o (fault_in (each_of f (y ∷ ys)))) (h x) ∙ ap (option_or k) (all_one f k h y ys) ∙ twice k

-- a text that is cut has an item
HasOne : List (List ℕ) → Type 0
HasOne items = (x : List ℕ) × (xs : List (List ℕ)) × (items ≡ x ∷ xs)

onto_some : (x : ℕ) (items : List (List ℕ)) → HasOne items → HasOne (onto_first x items)
unfolding HasOne
onto_some x [] (y, ys, e) = absurd (cc e)
onto_some x (t ∷ ts) h = (x ∷ t, ts, refl)

cut_some : (n : ℕ) (separator text : List ℕ) → HasOne (cut_past n separator text)
unfolding HasOne
cut_some n separator [] = ([], [], refl)
cut_some (suc n) separator (x ∷ xs) = cut_some n separator xs
cut_some zero separator (x ∷ xs) =
    elim (starts_with nat_eq (x ∷ xs) separator) as (λ b. HasOne (if b then [] ∷ cut_past (length separator - 1) separator xs else onto_first x (cut_past zero separator xs))) [
      | true ↦ ([], cut_past (length separator - 1) separator xs, refl)
      | false ↦ onto_some x (cut_past zero separator xs) (cut_some zero separator xs)
    ]

items_some : (separator text : List ℕ) → HasOne (items_of separator text)
unfolding items_of HasOne
items_some separator text = elim (length separator == 0) as (λ b. HasOne (if b then text ∷ [] else cut_past 0 separator text)) [
  | true ↦ (text, [], refl)
  | false ↦ cut_some 0 separator text
]

module _ (v w : Values) (same : HaveSameNames v w) (args : List (List ℕ)) where
  one_of : (items others : List (List ℕ)) → HasOne items → HasOne others → fault_in (for_items v args items) ≡ fault_in (for_items w args others)
  unfolding HasOne
  one_of items others (x, xs, e) (y, ys, d) =
      let k = fault_in (expanded_texts (with_item (Some x) v) args) in
      ap (λ is. fault_in (for_items v args is)) e
      ∙ all_one (λ item. expanded_texts (with_item (Some item) v) args) k (λ z. same_texts (with_item (Some z) v) (with_item (Some x) v) (item_names v v (λ n. refl) z x) args) x xs
      ∙ sym (all_one (λ item. expanded_texts (with_item (Some item) w) args) k (λ z. same_texts (with_item (Some z) w) (with_item (Some x) v) (item_names w v (λ n. sym (same n)) z x) args) y ys)
      ∙ ap (λ is. fault_in (for_items w args is)) (sym d)

  same_items : (separator : List ℕ) (a b : Option (List ℕ)) → is_some a ≡ is_some b → fault_in (for_items v args (items_in separator a)) ≡ fault_in (for_items w args (items_in separator b))
  same_items separator None None e = refl
  same_items separator None (Some y) e = absurd (cc e)
  same_items separator (Some x) None e = absurd (cc e)
  same_items separator (Some x) (Some y) e = one_of (items_of separator x) (items_of separator y) (items_some separator x) (items_some separator y)

pub same_word : (v w : Values) → HaveSameNames v w → (word : Word) → fault_in (expanded v word) ≡ fault_in (expanded w word)
unfolding expanded
same_word v w same (Arg text) = fault_alone (expanded_text v text) ∙ same_text v w same text ∙ sym (fault_alone (expanded_text w text))
same_word v w same (ForEach item_from separator args) = same_items v w same args separator (v item_from) (w item_from) (same item_from)

pub same_faults : FaultsByNames
same_faults v w same words = same_each (expanded v) (expanded w) (same_word v w same) words
