-- What is read of elements can be carried, where each text and each value in them can be.
use Rattle.std.specs.Prelude.{if◌then◌else◌, option_map, option_and_then, unwrap_or, not}
use Rattle.std.proofs.Common.{ℕ, Bool, true, false, cond, List, [], ◌∷◌, ◌++◌, map, Option, Some, None}
use Rattle.std.specs.List.{find, filter}
use Rattle.zi_elements.specs.declared.element.Attr.{Attr}
use Rattle.zi_elements.specs.declared.element.Element.{Element}
use Rattle.zi_elements.specs.Forest.{Forest, none, words, child, Elem, elements, text_in, is_attribute, attribute, value, element_view, whole}
use Rattle.zi_address.specs.Address.{resolved}
use Rattle.zi_reading.specs.Ways.{Ways, InFeed}
use Rattle.zi_reading.specs.Reading.{meaning, stands, is_closed, is_part, parts, named}
use Rattle.zi_faults.specs.Sites.{Site, here, under, sites, path}
use Rattle.zi_faults.specs.Said.{inherited, Said, said}
use Rattle.zi_parts.specs.Values.{address_in}
use Rattle.zi_reading.specs.Words.{is_among}
use Rattle.zi_doc_laws.specs.Trees.{IsCarried, HasCarriedValues, HasCarriedTexts}
use Rattle.zi_doc_laws.proofs.CarriedLaws.{none_carried, both_carried}
use Rattle.zi_sels_laws.proofs.LikeLaws.{Each, each_append}
use Rattle.zi_sels_laws.proofs.FreeLaws.{sub_filter}
use Rattle.zi_written_laws.proofs.TextLaws.{IsCarriedOr, or_carried, either_carried}
use Rattle.zi_written_laws.proofs.AddressLaws.{resolved_carried}

-- all values and texts in an element can be carried
pub record IsCarriedElem (e : Elem) : Type 0 where
  pub values : HasCarriedValues e.attrs
  pub texts : HasCarriedTexts e.inside

pub root_carried : (t : Element) → HasCarriedTexts (whole t) → IsCarriedElem (element_view t)
root_carried t h = record { values = h.0; texts = h.1.0 }

found_carried : (p : Attr → Bool) (attrs : List Attr) → HasCarriedValues attrs → IsCarriedOr (option_map (λ (a : Attr). a.value) (find p attrs))
found_carried p [] h = tt
found_carried p (a ∷ attrs) h = by (p a) (found_carried p attrs h.1)
  where
    by : (b : Bool) → IsCarriedOr (option_map (λ (a : Attr). a.value) (find p attrs)) → IsCarriedOr (option_map (λ (a : Attr). a.value) (cond b (Some a) (find p attrs)))
    by true k = h.0
    by false k = k

pub attribute_carried : (name : List ℕ) (e : Elem) → IsCarriedElem e → IsCarriedOr (attribute name e)
attribute_carried name e h = found_carried (is_attribute name) e.attrs h.values

pub value_carried : (name : List ℕ) (e : Elem) → IsCarriedElem e → IsCarried (value name e)
value_carried name e h = or_carried (attribute name e) [] (attribute_carried name e h) none_carried

pub text_carried : (f : Forest) → HasCarriedTexts f → IsCarried (text_in f)
text_carried none h = none_carried
text_carried (words t k) h = both_carried t (text_in k) h.0 (text_carried k h.1)
text_carried (child s n a f p k) h = text_carried k h.1.1

pub elements_carried : (f : Forest) → HasCarriedTexts f → Each IsCarriedElem (elements f)
elements_carried none h = tt
elements_carried (words t k) h = elements_carried k h.1
elements_carried (child s n a f p k) h = (record { values = h.0; texts = h.1.0 }, elements_carried k h.1.1)

pub parts_carried : (ways : Ways) (e : Elem) → IsCarriedElem e → Each IsCarriedElem (parts ways e)
unfolding parts
parts_carried ways e h = by (is_closed e) (sub_filter IsCarriedElem (is_part ways e.name) (elements e.inside) (elements_carried e.inside h.texts))
  where
    by : (b : Bool) → Each IsCarriedElem (filter (is_part ways e.name) (elements e.inside)) → Each IsCarriedElem (if b then [] else filter (is_part ways e.name) (elements e.inside))
    by true k = tt
    by false k = k

pub named_carried : (ways : Ways) (names : List (List ℕ)) (e : Elem) → IsCarriedElem e → Each IsCarriedElem (named ways names e)
named_carried ways names e h = sub_filter IsCarriedElem (λ c. is_among names c.name) (parts ways e) (parts_carried ways e h)

-- Addresses, as a feed at an address means them.

pub address_carried : (uri name : List ℕ) (e : Elem) → IsCarried uri → IsCarriedElem e → IsCarried (address_in (InFeed uri) name e)
address_carried uri name e u h = by (attribute name e) (attribute_carried name e h)
  where
    by : (o : Option (List ℕ)) → IsCarriedOr o → IsCarried (unwrap_or (option_and_then (meaning (InFeed uri)) o) [])
    by None k = none_carried
    by (Some t) k = or_carried (resolved uri t) [] (resolved_carried uri t u k) none_carried

-- Elements that are read, each with those around it.

abbrev pub IsCarriedAlong : Site → Type 0
IsCarriedAlong t = Each IsCarriedElem (path t)

each_under : (e : Elem) (ss : List Site) → IsCarriedElem e → Each IsCarriedAlong ss → Each IsCarriedAlong (map (under e) ss)
each_under e [] c h = tt
each_under e (s ∷ ss) c h = ((c, h.0), each_under e ss c h.1)

pub sites_carried : (ways : Ways) (parent : List ℕ) (f : Forest) → HasCarriedTexts f → Each IsCarriedAlong (sites ways parent f)
sites_carried ways parent none h = tt
sites_carried ways parent (words t k) h = sites_carried ways parent k h.1
sites_carried ways parent (child s n a f p k) h =
    let e : Elem = record { space = s; name = n; attrs = a; inside = f; place = p } in
    let c : IsCarriedElem e = record { values = h.0; texts = h.1.0 } in
    either e c (stands ways parent e) (is_closed e) (sites_carried ways n f h.1.0) (sites_carried ways parent k h.1.1)
  where
    either : (e : Elem) → IsCarriedElem e → (b c : Bool) → Each IsCarriedAlong (sites ways e.name e.inside) → Each IsCarriedAlong (sites ways parent k)
        → Each IsCarriedAlong (if not b then sites ways parent k else if c then here e ∷ sites ways parent k else here e ∷ (map (under e) (sites ways e.name e.inside) ++ sites ways parent k))
    either e x false c within more = more
    either e x true true within more = ((x, tt), more)
    either e x true false within more =
        ((x, tt), each_append IsCarriedAlong (map (under e) (sites ways e.name e.inside)) (sites ways parent k) (each_under e (sites ways e.name e.inside) x within) more)

inherited_carried : (name : List ℕ) (es : List Elem) → Each IsCarriedElem es → IsCarriedOr (inherited name es)
inherited_carried name [] h = tt
inherited_carried name (e ∷ es) h = either_carried (inherited name es) (attribute name e) (inherited_carried name es h.1) (attribute_carried name e h.0)

-- what a path says can be carried, as far as it is written again
pub record IsCarriedSaid (s : Said) : Type 0 where
  pub version : IsCarriedOr s.version
  pub modifier : IsCarriedOr s.modifier
  pub released : IsCarriedOr s.released
  pub arch : IsCarriedOr s.arch
  pub main : IsCarriedOr s.main
  pub local_path : IsCarriedOr s.local_path

pub said_carried : (es : List Elem) → Each IsCarriedElem es → IsCarriedSaid (said es)
said_carried es h = record {
  version = inherited_carried _ es h;
  modifier = inherited_carried _ es h;
  released = inherited_carried _ es h;
  arch = inherited_carried _ es h;
  main = inherited_carried _ es h;
  local_path = inherited_carried _ es h;
}
