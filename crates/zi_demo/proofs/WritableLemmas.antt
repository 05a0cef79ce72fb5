-- The feeds of the demonstration can be written.
use Rattle.std.proofs.Common.{◌≡◌, ℕ, suc, ◌+◌, ◌^◌, ◌<◌, Bool, true, false, not, ◌||◌, nat_le, List, [], ◌∷◌, ◌++◌, map, Some, None, refl, ap, ◌∙◌, arith}
use Rattle.std.specs.Prelude.{codes, decimal, if◌then◌else◌}
use Rattle.std.specs.List.{list_any, list_all, position_from}
use Rattle.std.specs.Str.{bytes_eq}
use Rattle.std.proofs.lemmas.List.Folds.{list_any-append}
use Rattle.std.proofs.lemmas.Slice.Eq.{bytes_eq-Decides}
use Rattle.std.proofs.lemmas.Bool.{or_from, not_from_true, or_parts, and_parts}
use Rattle.zi_elements.specs.declared.element.Node.{Node}
use Rattle.zi_elements.specs.Forest.{Forest, none, Elem, gathered, joined, nodes_view}
use Rattle.zi_names.specs.Names.{has_twice}
use Rattle.zi_xml.specs.Chars.{is_digit}
use Rattle.zi_elements.specs.Namespace.{injector}
use Rattle.zi_docout.specs.Amiss.{is_plain_name, is_carried, is_amiss_attr, is_amiss_text, same_name, texts, count, Standing, is_amiss, alone, standing, first_amiss}
use Rattle.zi_docout.specs.Elements.{attr, nodes, Adds}
use Rattle.zi_demo.specs.Feeds.{address, requires_elem, restricts_elem, restricting, version, two_versions, three_versions, numbers, numbered, p_q_r, needs, interface}
use Rattle.zi_demo.specs.Plain.{are_plain, ArePlain}
use Rattle.zi_demo.proofs.PlainLemmas.{carried, plain_address, plain_behind, plain_decimal, plain_names}

-- nodes that so many elements stand around can be written
abbrev Writable : ℕ → Forest → Type 0
Writable around f = list_any is_amiss (standing around f) ≡ false

none_of : (a b c d e f : Bool) → a ≡ false → b ≡ false → c ≡ false → d ≡ false → e ≡ false → f ≡ false → a || b || c || d || e || f ≡ false
none_of a b c d e f h i j k l m =
    or_from (a || b || c || d || e) f (or_from (a || b || c || d) e (or_from (a || b || c) d (or_from (a || b) c (or_from a b h i) j) k) l) m

-- an attribute with a plain value
fine_attr : (name value : List ℕ) → is_plain_name name ≡ true → bytes_eq name (codes "xmlns") ≡ false → are_plain value ≡ true → is_amiss_attr (attr name value) ≡ false
unfolding is_amiss_attr
fine_attr name value h k p =
    or_from _ _ (or_from _ _ (or_from _ _ refl (not_from_true (is_plain_name name) h)) k) (not_from_true (is_carried value) (carried value p))

-- an element of the injector's namespace that holds no text
pub record Tag (e : Elem) : Type 0 where
  pub space : e.space ≡ injector
  pub name : is_plain_name e.name ≡ true
  pub attrs : list_any is_amiss_attr e.attrs ≡ false
  pub once : has_twice same_name e.attrs ≡ false
  pub bare : texts e.inside ≡ []

same_space : (s : List ℕ) → s ≡ injector → not (bytes_eq s injector) ≡ false
same_space s e = not_from_true (bytes_eq s injector) ((bytes_eq-Decides s injector).1 e)

written : (around : ℕ) (e : Elem) → nat_le 64 around ≡ false → Tag e
    → is_amiss (record { around = around; space = e.space; name = e.name; attrs = e.attrs; inside = e.inside }) ≡ false
unfolding is_amiss
written around e near tag =
    none_of (nat_le 64 around) (not (bytes_eq e.space injector)) (not (is_plain_name e.name)) (list_any is_amiss_attr e.attrs)
    (list_any (is_amiss_text (count e.inside)) (texts e.inside)) (has_twice same_name e.attrs)
    near (same_space e.space tag.space) (not_from_true (is_plain_name e.name) tag.name) tag.attrs (ap (list_any (is_amiss_text (count e.inside))) tag.bare) tag.once

before : (around : ℕ) (e : Elem) (g : Forest) → nat_le 64 around ≡ false → Tag e → Writable (suc around) e.inside → Writable around g → Writable around (joined (alone e) g)
before around e g near tag inside behind =
    or_from (is_amiss (record { around = around; space = e.space; name = e.name; attrs = e.attrs; inside = e.inside }))
    (list_any is_amiss (standing (suc around) e.inside ++ standing around g))
    (written around e near tag)
    (list_any-append is_amiss (standing (suc around) e.inside) (standing around g) ∙ or_from _ _ inside behind)

no_texts : (es : List Elem) → texts (nodes es) ≡ []
no_texts [] = refl
no_texts (e ∷ es) = no_texts es

-- what is needed
need_tag : (name : List ℕ) → are_plain name ≡ true → Tag (requires_elem name)
unfolding requires_elem is_plain_name is_digit
need_tag name h = record {
  space = refl;
  name = refl;
  attrs = or_from _ false (fine_attr (codes "interface") (address name) refl refl (plain_address name h)) refl;
  once = refl;
  bare = refl;
}

no_need : (name : List ℕ) → Writable 3 (requires_elem name).inside
unfolding requires_elem
no_need name = refl

needed : (names : List (List ℕ)) → ArePlain names → Writable 2 (nodes (map requires_elem names))
needed [] h = refl
needed (name ∷ names) h =
    let k = and_parts (are_plain name) (list_all are_plain names) h in
    before 2 (requires_elem name) (nodes (map requires_elem names)) refl (need_tag name k.0) (no_need name) (needed names k.1)

-- what is restricted
limit_tag : (range name : List ℕ) → are_plain range ≡ true → are_plain name ≡ true → Tag (restricts_elem range name)
unfolding restricts_elem is_plain_name is_digit
limit_tag range name g h = record {
  space = refl;
  name = refl;
  attrs = or_from _ _ (fine_attr (codes "interface") (address name) refl refl (plain_address name h)) (or_from _ false (fine_attr (codes "version") range refl refl g) refl);
  once = refl;
  bare = refl;
}

no_limit : (range name : List ℕ) → Writable 3 (restricts_elem range name).inside
unfolding restricts_elem
no_limit range name = refl

limited : (range : List ℕ) (others : List (List ℕ)) → are_plain range ≡ true → ArePlain others → Writable 2 (restricting range others)
limited range [] g h = refl
limited range (name ∷ others) g h =
    let k = and_parts (are_plain name) (list_all are_plain others) h in
    before 2 (restricts_elem range name) (restricting range others) refl (limit_tag range name g k.0) (no_limit range name) (limited range others g k.1)

-- versions
version_tag : (number : ℕ) (inside : Forest) → number < 2 ^ 64 → texts inside ≡ [] → Tag (version number inside)
unfolding version is_plain_name is_digit
version_tag number inside small bare =
    let n : are_plain (decimal number) ≡ true = plain_decimal number small in
    record {
      space = refl;
      name = refl;
      attrs =
          or_from _ _ (fine_attr (codes "id") (codes "v" ++ decimal number) refl refl (plain_behind (codes "v") (decimal number) refl n))
          (or_from _ _ (fine_attr (codes "version") (decimal number) refl refl n) (or_from _ false (fine_attr (codes "local-path") (codes ".") refl refl refl) refl));
      once = refl;
      bare = bare;
    }

inside_version : (number : ℕ) (inside : Forest) → (version number inside).inside ≡ inside
unfolding version
inside_version number inside = refl

one_more : (number : ℕ) (inside : Forest) (es : List Elem) → number < 2 ^ 64 → texts inside ≡ [] → Writable 2 inside → Writable 1 (nodes es) → Writable 1 (nodes (version number inside ∷ es))
one_more number inside es small bare within behind =
    before 1 (version number inside) (nodes es) refl (version_tag number inside small bare)
    (ap (λ (f : Forest). list_any is_amiss (standing 2 f)) (inside_version number inside) ∙ within) behind

-- a feed
position_none : (es : List Standing) (i : ℕ) → list_any is_amiss es ≡ false → position_from is_amiss i es ≡ None
position_none [] i h = refl
position_none (e ∷ es) i h =
    let k = or_parts (is_amiss e) (list_any is_amiss es) h in
    ap (λ (b : Bool). if b then Some i else position_from is_amiss (i + 1) es) k.0 ∙ position_none es (i + 1) k.1

interface_tag : (f : Forest) → texts f ≡ [] → Tag (interface f)
unfolding interface is_plain_name is_digit
interface_tag f bare = record { space = refl; name = refl; attrs = refl; once = refl; bare = bare }

inside_interface : (f : Forest) → (interface f).inside ≡ f
unfolding interface
inside_interface f = refl

interface_fine : (es : List Elem) → Writable 1 (nodes es) → first_amiss (interface (nodes es)) ≡ None
unfolding first_amiss
interface_fine es h =
    position_none (standing 0 (alone (interface (nodes es)))) 0
    (before 0 (interface (nodes es)) none refl (interface_tag (nodes es) (no_texts es))
    (ap (λ (f : Forest). list_any is_amiss (standing 1 f)) (inside_interface (nodes es)) ∙ h) refl)

two_fine : (others : List (List ℕ)) → ArePlain others → first_amiss (interface (nodes (two_versions others))) ≡ None
two_fine others h =
    interface_fine (two_versions others)
    (one_more 2 (restricting (codes "2..") others) (version 1 none ∷ []) (omega arith) (no_texts (map (restricts_elem (codes "2..")) others)) (limited (codes "2..") others refl h)
    (one_more 1 none [] (omega arith) refl refl refl))

three_fine : (others : List (List ℕ)) → ArePlain others → first_amiss (interface (nodes (three_versions others))) ≡ None
three_fine others h =
    interface_fine (three_versions others)
    (one_more 3 (restricting (codes "!3") others) (version 2 (restricting (codes "!2") others) ∷ version 1 none ∷ []) (omega arith)
    (no_texts (map (restricts_elem (codes "!3")) others)) (limited (codes "!3") others refl h)
    (one_more 2 (restricting (codes "!2") others) (version 1 none ∷ []) (omega arith) (no_texts (map (restricts_elem (codes "!2")) others)) (limited (codes "!2") others refl h)
    (one_more 1 none [] (omega arith) refl refl refl)))

root_fine : (n : ℕ) → n < 2 ^ 32 → first_amiss (interface (nodes (version 1 (nodes (needs n)) ∷ []))) ≡ None
unfolding needs
root_fine n h =
    interface_fine (version 1 (nodes (needs n)) ∷ [])
    (one_more 1 (nodes (needs n)) [] (omega arith) (no_texts (needs n)) (needed (map numbered (numbers 1 n) ++ p_q_r) (plain_names n h)) refl)

-- nodes that are these elements
pub seen : (versions : List Node) (es : List Elem) → Adds [] versions es → nodes_view versions ≡ nodes es
seen versions es h = ap gathered h

pub two_written : (versions : List Node) (others : List (List ℕ)) → Adds [] versions (two_versions others) → ArePlain others → first_amiss (interface (nodes_view versions)) ≡ None
two_written versions others a h = ap (λ (f : Forest). first_amiss (interface f)) (seen versions (two_versions others) a) ∙ two_fine others h

pub three_written : (versions : List Node) (others : List (List ℕ)) → Adds [] versions (three_versions others) → ArePlain others → first_amiss (interface (nodes_view versions)) ≡ None
three_written versions others a h = ap (λ (f : Forest). first_amiss (interface f)) (seen versions (three_versions others) a) ∙ three_fine others h

pub root_written : (versions : List Node) (n : ℕ) → Adds [] versions (version 1 (nodes (needs n)) ∷ []) → n < 2 ^ 32 → first_amiss (interface (nodes_view versions)) ≡ None
root_written versions n a h =
    ap (λ (f : Forest). first_amiss (interface f)) (seen versions (version 1 (nodes (needs n)) ∷ []) a) ∙ root_fine n h
