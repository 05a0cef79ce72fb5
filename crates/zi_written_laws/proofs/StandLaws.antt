-- An element can be written whose attributes can be, and whose children can be.
use Rattle.std.specs.Prelude.{bytes_eq, not}
use Rattle.std.proofs.Common.{◌≡◌, ℕ, suc, ◌+◌, nat_le, Bool, true, false, ◌||◌, cond, List, [], ◌∷◌, ◌++◌, Some, None, refl, sym, ap, ◌∙◌}
use Rattle.std.specs.List.{list_any, position_from}
use Rattle.std.proofs.lemmas.List.Folds.{list_any-append}
use Rattle.std.proofs.lemmas.Bool.{or_from, or_parts}
use Rattle.zi_elements.specs.declared.element.Attr.{Attr}
use Rattle.zi_elements.specs.Forest.{Forest, none, words, Elem}
use Rattle.zi_names.specs.Names.{has_twice}
use Rattle.zi_elements.specs.Namespace.{injector}
use Rattle.zi_docout.specs.Amiss.{is_plain_name, is_carried, is_amiss_attr, is_amiss_text, same_name, texts, count, Standing, is_amiss, standing, alone, first_amiss}
use Rattle.zi_docout.specs.Elements.{nodes, elem}
use Rattle.zi_universe.proofs.NamingLemmas.{bytes_eq-refl}
use Rattle.zi_doc_laws.specs.Trees.{IsCarried}
use Rattle.zi_sels_laws.proofs.LikeLaws.{Each}
use Rattle.zi_sels.specs.Written.{text_node}
use Rattle.zi_written_laws.proofs.TextLaws.{carried_passes}
use Rattle.zi_written_laws.proofs.DrawnLaws.{Drawn, drawn_fine, drawn_once, are_own}

-- with so many elements around it, it can be written, and all in it
abbrev pub CanStand : ℕ → Elem → Type 0
CanStand d e = list_any is_amiss (standing d (alone e)) ≡ false

no_texts : (es : List Elem) → texts (nodes es) ≡ []
no_texts [] = refl
no_texts (e ∷ es) = no_texts es

-- An element by itself, whose children are these nodes.
own_fine : (d : ℕ) (name : List ℕ) (attrs : List Attr) (f : Forest) → nat_le 64 d ≡ false → is_plain_name name ≡ true → list_any is_amiss_attr attrs ≡ false → has_twice same_name attrs ≡ false
    → list_any (is_amiss_text (count f)) (texts f) ≡ false → is_amiss (record { around = d; space = injector; name = name; attrs = attrs; inside = f }) ≡ false
unfolding is_amiss
own_fine d name attrs f near plain values once text =
    or_from _ (has_twice same_name attrs)
    (or_from _ (list_any (is_amiss_text (count f)) (texts f))
    (or_from _ (list_any is_amiss_attr attrs)
    (or_from _ (not (is_plain_name name)) (or_from (nat_le 64 d) (not (bytes_eq injector injector)) near (ap not (bytes_eq-refl injector))) (ap not plain)) values) text) once

-- the first of nodes, what is in it, and the nodes behind it
joined_fine : (s : Standing) (inner behind : List Standing) → is_amiss s ≡ false → list_any is_amiss inner ≡ false → list_any is_amiss behind ≡ false → list_any is_amiss (s ∷ (inner ++ behind)) ≡ false
joined_fine s inner behind x y z =
    or_from (is_amiss s) (list_any is_amiss (inner ++ behind)) x
    (list_any-append is_amiss inner behind ∙ or_from (list_any is_amiss inner) (list_any is_amiss behind) y z)

-- elements one behind another
all_stand : (d : ℕ) (es : List Elem) → Each (CanStand d) es → list_any is_amiss (standing d (nodes es)) ≡ false
all_stand d [] h = refl
all_stand d (e ∷ es) h =
    let here : Standing = record { around = d; space = e.space; name = e.name; attrs = e.attrs; inside = e.inside } in
    let inner : List Standing = standing (suc d) e.inside in
    let x = or_parts (is_amiss here) (list_any is_amiss (inner ++ [])) h.0 in
    let y = or_parts (list_any is_amiss inner) false (sym (list_any-append is_amiss inner []) ∙ x.1) in
    joined_fine here inner (standing d (nodes es)) x.0 y.0 (all_stand d es h.1)

pub elem_stands : {ns : List (List ℕ)} (d : ℕ) (name : List ℕ) (attrs : List Attr) (es : List Elem) → nat_le 64 d ≡ false → is_plain_name name ≡ true → Drawn ns attrs → are_own ns ≡ true
    → Each (CanStand (suc d)) es → CanStand d (elem name attrs es)
elem_stands d name attrs es near plain drawn own h =
    let text : list_any (is_amiss_text (count (nodes es))) (texts (nodes es)) ≡ false = ap (λ ts. list_any (is_amiss_text (count (nodes es))) ts) (no_texts es) in
    joined_fine (record { around = d; space = injector; name = name; attrs = attrs; inside = nodes es }) (standing (suc d) (nodes es)) []
    (own_fine d name attrs (nodes es) near plain (drawn_fine drawn own) (drawn_once drawn own) text) (all_stand (suc d) es h) refl

-- an element whose one child is a text, or that has none
pub text_stands : (d : ℕ) (name t : List ℕ) → nat_le 64 d ≡ false → is_plain_name name ≡ true → IsCarried t
    → CanStand d (record { space = injector; name = name; attrs = []; inside = text_node t; place = 0 })
unfolding is_amiss_text
text_stands d name [] near plain c = joined_fine (record { around = d; space = injector; name = name; attrs = []; inside = none }) [] [] (own_fine d name [] none near plain refl refl refl) refl refl
text_stands d name (x ∷ t) near plain c =
    let f : Forest = words (x ∷ t) none in
    let fit : not (is_carried (x ∷ t)) ≡ false = ap not (carried_passes (x ∷ t) c) in
    joined_fine (record { around = d; space = injector; name = name; attrs = []; inside = f }) [] []
    (own_fine d name [] f near plain refl refl (or_from (not (is_carried (x ∷ t))) false fit refl)) refl refl

none_found : (es : List Standing) (i : ℕ) → list_any is_amiss es ≡ false → position_from is_amiss i es ≡ None
none_found [] i h = refl
none_found (e ∷ es) i h = by (is_amiss e) h (none_found es (i + 1))
  where
    by : (b : Bool) → b || list_any is_amiss es ≡ false → (list_any is_amiss es ≡ false → position_from is_amiss (i + 1) es ≡ None) → cond b (Some i) (position_from is_amiss (i + 1) es) ≡ None
    by true k f = absurd (cc k)
    by false k f = f k

pub none_amiss : (e : Elem) → CanStand 0 e → first_amiss e ≡ None
unfolding first_amiss
none_amiss e h = none_found (standing 0 (alone e)) 0 h
