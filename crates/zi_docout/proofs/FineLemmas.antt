-- What is known of an element that can be written.
use Rattle.std.specs.Prelude.{IsUtf8, codes}
use Rattle.std.proofs.Common.{◌≡◌, ℕ, suc, true, false, nat_le, nat_lt, List, [], ◌∷◌, refl, sym, ◌∙◌}
use Rattle.std.specs.List.{list_any, list_all}
use Rattle.std.specs.Str.{bytes_eq, chars}
use Rattle.std.proofs.lemmas.List.Folds.{list_any-append}
use Rattle.std.proofs.lemmas.Str.{IsUtf8-from_is_utf8}
use Rattle.std.proofs.lemmas.Bool.{or_parts, and_parts, not-false}
use Rattle.zi_elements.specs.declared.element.Attr.{Attr}
use Rattle.zi_elements.specs.Forest.{Forest, child}
use Rattle.zi_names.specs.Names.{is_empty, has_twice}
use Rattle.zi_xml.specs.Chars.{is_char}
use Rattle.zi_elements.specs.Namespace.{injector}
use Rattle.zi_docout.specs.Amiss.{is_plain_name, is_carried, is_amiss_attr, is_amiss_text, same_name, texts, count, Standing, is_amiss, standing}
use Rattle.zi_xml.proofs.Backward.{same_list}

-- an element that can be written
pub record Fine (e : Standing) : Type 0 where
  pub near : nat_le 64 e.around ≡ false
  pub space : e.space ≡ injector
  pub name : is_plain_name e.name ≡ true
  pub attrs : list_any is_amiss_attr e.attrs ≡ false
  pub once : has_twice same_name e.attrs ≡ false
  pub texts : list_any (is_amiss_text (count e.inside)) (texts e.inside) ≡ false

pub fine : (e : Standing) → is_amiss e ≡ false → Fine e
unfolding is_amiss
fine e h =
    let o = or_parts _ _ h in
    let t = or_parts _ _ o.0 in
    let a = or_parts _ _ t.0 in
    let n = or_parts _ _ a.0 in
    let s = or_parts _ _ n.0 in
    record {
      near = s.0;
      space = same_list e.space injector (not-false _ s.1);
      name = not-false _ n.1;
      attrs = a.1;
      once = o.1;
      texts = t.1;
    }

-- a text that XML can carry
pub record Carried (t : List ℕ) : Type 0 where
  pub utf8 : IsUtf8 t
  pub chars : list_all is_char (chars t) ≡ true

pub carried : (t : List ℕ) → is_carried t ≡ true → Carried t
unfolding is_carried
carried t h = let x = and_parts _ _ h in record { utf8 = IsUtf8-from_is_utf8 t x.0; chars = x.1 }

no_bytes : (t : List ℕ) → is_empty t ≡ true → t ≡ []
no_bytes [] h = refl
no_bytes (c ∷ t) h = cc

-- an attribute that can be written
pub record FineAttr (a : Attr) : Type 0 where
  pub space : a.space ≡ []
  pub name : is_plain_name a.name ≡ true
  pub other : bytes_eq a.name (codes "xmlns") ≡ false
  pub value : Carried a.value

pub fine_attr : (a : Attr) → is_amiss_attr a ≡ false → FineAttr a
unfolding is_amiss_attr
fine_attr a h =
    let v = or_parts _ _ h in
    let x = or_parts _ _ v.0 in
    let n = or_parts _ _ x.0 in
    record {
      space = no_bytes a.space (not-false _ n.0);
      name = not-false _ n.1;
      other = x.1;
      value = carried a.value (not-false _ v.1);
    }

-- a text that can be written
pub record FineText (n : ℕ) (t : List ℕ) : Type 0 where
  pub lone : nat_lt 1 n ≡ false
  pub some : is_empty t ≡ false
  pub carried : Carried t

pub fine_text : (n : ℕ) (t : List ℕ) → is_amiss_text n t ≡ false → FineText n t
unfolding is_amiss_text
fine_text n t h =
    let c = or_parts _ _ h in
    let e = or_parts _ _ c.0 in
    record { lone = e.0; some = e.1; carried = carried t (not-false _ c.1) }

-- What holds of all elements among nodes holds of the first, of those in it and of those behind it.
pub record Parts (d : ℕ) (s n : List ℕ) (attrs : List Attr) (f k : Forest) : Type 0 where
  pub here : Fine (record { around = d; space = s; name = n; attrs = attrs; inside = f })
  pub inside : list_any is_amiss (standing (suc d) f) ≡ false
  pub behind : list_any is_amiss (standing d k) ≡ false

pub parts : (d : ℕ) (s n : List ℕ) (attrs : List Attr) (f : Forest) (p : ℕ) (k : Forest)
    → list_any is_amiss (standing d (child s n attrs f p k)) ≡ false → Parts d s n attrs f k
parts d s n attrs f p k h =
    let x = or_parts _ _ h in
    let y = or_parts _ _ (sym (list_any-append is_amiss (standing (suc d) f) (standing d k)) ∙ x.1) in
    record { here = fine _ x.0; inside = y.0; behind = y.1 }
