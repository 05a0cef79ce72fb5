-- What the tags of a canonical text mean under the one declaration of its root.
use Rattle.std.specs.Prelude.{codes, encode_utf8_all, if◌then◌else◌}
use Rattle.std.proofs.Common.{◌≡◌, ℕ, Bool, true, false, not, ◌||◌, ◌&&◌, cond, List, [], ◌∷◌, ◌++◌, map, filter, reverse, take, drop, nat_eq, refl, sym, ap, ◌∙◌}
use Rattle.std.specs.List.{list_any, list_all, starts_with, before_first, after_first}
use Rattle.std.specs.Str.{bytes_eq, chars}
use Rattle.std.proofs.Math.Utf8.{encode}
use Rattle.std.proofs.lemmas.Str.{encodes-chars}
use Rattle.std.proofs.lemmas.List.{take-append-drop}
use Rattle.std.proofs.lemmas.List.Folds.{list_any-append}
use Rattle.std.proofs.lemmas.Slice.Eq.{bytes_eq-Decides}
use Rattle.std.proofs.lemmas.Bool.Decides.{nat_tests}
use Rattle.std.proofs.Common.{arith}
use Rattle.std.proofs.lemmas.Bool.{or_parts, and_parts, or_from, false_from_ne_true}
use Rattle.zi_elements.specs.declared.element.Attr.{Attr}
use Rattle.zi_names.specs.declared.attributes.Raw.{Raw}
use Rattle.zi_names.specs.declared.attributes.Binding.{Binding}
use Rattle.zi_names.specs.Names.{is_colon, has_colon, prefix, local, is_qualified, is_declaration, binding_of, first_scope, scope_in, address_of, resolved, attributes_of, is_bad_name, is_bad_attribute, has_bad_prefix, has_twice, same_expanded, is_prefixed, has_repeated, is_reserved, is_bad_binding}
use Rattle.zi_names.specs.Names as names
use Rattle.zi_xml.specs.Chars.{is_letter, is_digit, is_char}
use Rattle.zi_xml.specs.Syntax.{Written}
use Rattle.zi_xml.specs.Meaning.{raw_of, value_of}
use Rattle.zi_elements.specs.Namespace.{injector}
use Rattle.zi_docout.specs.Canonical.{declaring}
use Rattle.zi_docout.specs.Amiss.{is_name_byte, is_plain_name, is_amiss_attr, same_name}
use Rattle.zi_docout.proofs.FineLemmas.{FineAttr, fine_attr, Carried}
use Rattle.zi_docout.proofs.BitLemmas.{value_bit, value_bits_mean}
use Rattle.zi_docout.proofs.ParsedLemmas.{written, name_spelled}
use Rattle.zi_xml.proofs.Backward.{same_list}

no_colon_byte : (c : ℕ) → is_name_byte c ≡ true → is_colon c ≡ false
unfolding is_digit
no_colon_byte c h = grind (arith, nat_tests)

no_colon_letter : (c : ℕ) → is_letter c ≡ true → is_colon c ≡ false
no_colon_letter c h = grind (arith, nat_tests)

no_colons : (cs : List ℕ) → list_all is_name_byte cs ≡ true → has_colon cs ≡ false
no_colons [] h = refl
no_colons (c ∷ cs) h = let x = and_parts _ _ h in ap (λ b. b || has_colon cs) (no_colon_byte c x.0) ∙ no_colons cs x.1

-- a plain name has no prefix
pub no_colon : (n : List ℕ) → is_plain_name n ≡ true → has_colon n ≡ false
unfolding is_plain_name
no_colon [] h = cc
no_colon (c ∷ cs) h = let x = and_parts _ _ h in ap (λ b. b || has_colon cs) (no_colon_letter c x.0) ∙ no_colons cs x.1

pub no_prefix : (n : List ℕ) → has_colon n ≡ false → prefix n ≡ []
unfolding prefix
no_prefix n h = ap (λ b. if b then before_first is_colon n else []) h

pub all_local : (n : List ℕ) → has_colon n ≡ false → local n ≡ n
unfolding local
all_local n h = ap (λ b. if b then after_first is_colon n else n) h

plain_test : (x y z : Bool) → x ≡ false → not (not x || y) || (x && z) ≡ false
plain_test true y z h = cc
plain_test false y z h = refl

good_name : (scope : List Binding) (n : List ℕ) → has_colon n ≡ false → is_bad_name scope n ≡ false
unfolding is_bad_name is_qualified
good_name scope n h = plain_test (has_colon n) _ _ h

front_colon : (k : ℕ) (n : List ℕ) → has_colon n ≡ false → has_colon (take k n) ≡ false
front_colon k n h = (or_parts _ _ (sym (list_any-append is_colon (take k n) (drop k n)) ∙ (ap has_colon (take-append-drop k n) ∙ h))).0

no_declaration_front : (n : List ℕ) → has_colon n ≡ false → starts_with nat_eq n (codes "xmlns:") ≡ false
no_declaration_front n h =
    false_from_ne_true _ (λ e.
    let same = same_list (codes "xmlns:") (take 6 n) e in
    let z : true ≡ false = ap has_colon same ∙ front_colon 6 n h in cc)

-- an attribute as the tag has it
abbrev pub raw : Attr → Raw
raw a = record { name = a.name; value = a.value }

no_declaration : (a : Attr) → FineAttr a → is_declaration (raw a) ≡ false
unfolding is_declaration
no_declaration a h = or_from _ _ h.other (no_declaration_front a.name (no_colon a.name h.name))

written_raw : (a : Attr) (ws : List Written) → is_plain_name a.name ≡ true → Carried a.value → raw_of (written a ∷ ws) ≡ raw a ∷ raw_of ws
written_raw a ws n v =
    let value : value_of false (map value_bit (chars a.value)) ≡ a.value = value_bits_mean (chars a.value) ∙ encodes-chars a.value v.utf8 in
    let name : encode_utf8_all a.name ≡ a.name = (name_spelled a.name n).text in
    let R : List ℕ → List ℕ → List Raw = λ x y. record { name = x; value = y } ∷ raw_of ws in
    ap (λ x. R x (value_of false (map value_bit (chars a.value)))) name ∙ ap (λ y. R a.name y) value

pub raws : (xs : List Attr) → list_any is_amiss_attr xs ≡ false → raw_of (map written xs) ≡ map raw xs
raws [] h = refl
raws (a ∷ xs) h =
    let x = or_parts _ _ h in
    let y = fine_attr a x.0 in
    written_raw a (map written xs) y.name y.value ∙ ap (λ v. raw a ∷ v) (raws xs x.1)

pub undeclared : (xs : List Attr) → list_any is_amiss_attr xs ≡ false → filter is_declaration (map raw xs) ≡ []
undeclared [] h = refl
undeclared (a ∷ xs) h =
    let x = or_parts _ _ h in
    ap (λ b. cond b (raw a ∷ filter is_declaration (map raw xs)) (filter is_declaration (map raw xs))) (no_declaration a (fine_attr a x.0)) ∙ undeclared xs x.1

abbrev stays : Raw → Bool
stays a = not (is_declaration a)

attr_back : (scope : List Binding) (a : Attr) → FineAttr a → resolved scope (raw a) ≡ a
unfolding resolved
attr_back scope a h =
    let colon = no_colon a.name h.name in
    let R : List ℕ → List ℕ → Attr = λ s n. record { space = s; name = n; value = a.value } in
    ap (λ b. R (if b then address_of scope (prefix a.name) else []) (local a.name)) colon
    ∙ (ap (λ s. R s (local a.name)) (sym h.space) ∙ ap (λ n. R a.space n) (all_local a.name colon))

stayed : (xs : List Attr) → list_any is_amiss_attr xs ≡ false → filter stays (map raw xs) ≡ map raw xs
stayed [] h = refl
stayed (a ∷ xs) h =
    let x = or_parts _ _ h in
    ap (λ b. cond (not b) (raw a ∷ filter stays (map raw xs)) (filter stays (map raw xs))) (no_declaration a (fine_attr a x.0)) ∙ ap (λ v. raw a ∷ v) (stayed xs x.1)

resolved_back : (scope : List Binding) (xs : List Attr) → list_any is_amiss_attr xs ≡ false → map (resolved scope) (map raw xs) ≡ xs
resolved_back scope [] h = refl
resolved_back scope (a ∷ xs) h =
    let x = or_parts _ _ h in
    ap (λ v. v ∷ map (resolved scope) (map raw xs)) (attr_back scope a (fine_attr a x.0)) ∙ ap (λ v. a ∷ v) (resolved_back scope xs x.1)

bad_attrs : (scope : List Binding) (xs : List Attr) → list_any is_amiss_attr xs ≡ false → list_any (is_bad_attribute scope) (map raw xs) ≡ false
unfolding is_bad_attribute
bad_attrs scope [] h = refl
bad_attrs scope (a ∷ xs) h =
    let x = or_parts _ _ h in
    let y = fine_attr a x.0 in
    or_from _ _ (choice (is_declaration (raw a)) _ _ (no_declaration a y) ∙ good_name scope a.name (no_colon a.name y.name)) (bad_attrs scope xs x.1)
  where
    choice : (b x y : Bool) → b ≡ false → (if b then x else y) ≡ y
    choice true x y h = cc
    choice false x y h = refl

no_prefixed : (xs : List Attr) → list_any is_amiss_attr xs ≡ false → filter is_prefixed (map raw xs) ≡ []
no_prefixed [] h = refl
no_prefixed (a ∷ xs) h =
    let x = or_parts _ _ h in
    ap (λ b. cond (b && not (is_declaration (raw a))) (raw a ∷ filter is_prefixed (map raw xs)) (filter is_prefixed (map raw xs))) (no_colon a.name (fine_attr a x.0).name) ∙ no_prefixed xs x.1

same_among : (a : Attr) (xs : List Attr) → list_any (names.same_name (raw a)) (map raw xs) ≡ list_any (same_name a) xs
same_among a [] = refl
same_among a (b ∷ xs) = ap (λ v. same_name a b || v) (same_among a xs)

same_twice : (xs : List Attr) → has_twice names.same_name (map raw xs) ≡ has_twice same_name xs
same_twice [] = refl
same_twice (a ∷ xs) = ap (λ v. v || has_twice names.same_name (map raw xs)) (same_among a xs) ∙ ap (λ v. list_any (same_name a) xs || v) (same_twice xs)

-- What a tag of these attributes means inside a scope.
pub record Meant (scope : List Binding) (ws : List Raw) (inner : List Binding) (n : List ℕ) (xs : List Attr) : Type 0 where
  pub entered : scope_in ws scope ≡ inner
  pub space : address_of inner (prefix n) ≡ injector
  pub name : local n ≡ n
  pub attrs : attributes_of ws inner ≡ xs
  pub prefixes : has_bad_prefix n ws inner ≡ false
  pub once : has_repeated ws inner ≡ false

-- inside the scope of the root
pub inner_meant : (scope : List Binding) (n : List ℕ) (xs : List Attr) → address_of scope [] ≡ injector → is_plain_name n ≡ true → list_any is_amiss_attr xs ≡ false
    → has_twice same_name xs ≡ false → Meant scope (map raw xs) scope n xs
unfolding scope_in attributes_of has_bad_prefix has_repeated
inner_meant scope n xs here plain fine once =
    let colon = no_colon n plain in
    record {
      entered = ap (λ v. reverse (map binding_of v) ++ scope) (undeclared xs fine);
      space = ap (address_of scope) (no_prefix n colon) ∙ here;
      name = all_local n colon;
      attrs = ap (map (resolved scope)) (stayed xs fine) ∙ resolved_back scope xs fine;
      prefixes = or_from _ _ (good_name scope n colon) (bad_attrs scope xs fine);
      once = or_from _ _ (same_twice xs ∙ once) (ap (has_twice (same_expanded scope)) (no_prefixed xs fine));
    }

-- the scope inside the root
abbrev pub root_scope : List Binding
root_scope = record { prefix = []; address = injector } ∷ first_scope

pub root_here : address_of root_scope [] ≡ injector
unfolding address_of
root_here = refl

other_way : (a b : List ℕ) → bytes_eq a b ≡ false → bytes_eq b a ≡ false
other_way a b h = false_from_ne_true _ (λ e. let z : false ≡ true = sym h ∙ (bytes_eq-Decides a b).1 (sym (same_list b a e)) in cc)

not_xmlns : (xs : List Attr) → list_any is_amiss_attr xs ≡ false → list_any (names.same_name (raw declaring)) (map raw xs) ≡ false
not_xmlns [] h = refl
not_xmlns (a ∷ xs) h = let x = or_parts _ _ h in or_from _ _ (other_way a.name (codes "xmlns") (fine_attr a x.0).other) (not_xmlns xs x.1)

pub root_meant : (n : List ℕ) (xs : List Attr) → is_plain_name n ≡ true → list_any is_amiss_attr xs ≡ false → has_twice same_name xs ≡ false
    → Meant first_scope (raw declaring ∷ map raw xs) root_scope n xs
unfolding scope_in attributes_of has_bad_prefix has_repeated is_declaration binding_of is_bad_attribute is_bad_binding is_qualified is_reserved local prefix injector
root_meant n xs plain fine once =
    let colon = no_colon n plain in
    record {
      entered = ap (λ v. reverse (binding_of (raw declaring) ∷ map binding_of v) ++ first_scope) (undeclared xs fine);
      space = ap (address_of root_scope) (no_prefix n colon) ∙ root_here;
      name = all_local n colon;
      attrs = ap (map (resolved root_scope)) (stayed xs fine) ∙ resolved_back root_scope xs fine;
      prefixes = or_from _ _ (good_name root_scope n colon) (bad_attrs root_scope xs fine);
      once = or_from _ _ (or_from _ _ (not_xmlns xs fine) (same_twice xs ∙ once)) (ap (has_twice (same_expanded root_scope)) (no_prefixed xs fine));
    }

pub declaring_fine : (is_plain_name declaring.name ≡ true) × Carried declaring.value
unfolding is_plain_name is_digit injector chars encode is_char
declaring_fine = (refl, record { utf8 = (injector, (refl, refl)); chars = refl })

pub root_raws : (xs : List Attr) → list_any is_amiss_attr xs ≡ false → raw_of (map written (declaring ∷ xs)) ≡ raw declaring ∷ map raw xs
root_raws xs h = written_raw declaring (map written xs) declaring_fine.0 declaring_fine.1 ∙ ap (λ v. raw declaring ∷ v) (raws xs h)
