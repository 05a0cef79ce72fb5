-- Places are marked one after another.
use Rattle.std.proofs.Common.{◌≡◌, ◌≢◌, ℕ, zero, suc, ◌==◌, ◌+◌, ◌<◌, ◌≤◌, Bool, true, false, ◌||◌, List, [], ◌∷◌, ◌++◌, length, map, take, set, get_or, replicate, slice_index_or, refl, sym, ap, ◌∙◌, subst, arith, inl, inr, ◌⊎◌}
use Rattle.std.specs.List.{list_any}
use Rattle.std.proofs.lemmas.Bool.{false≢true}
use Rattle.std.proofs.lemmas.List.{map-append, get_or-replicate, get_or-set_same, get_or-set_other, length-set, length-replicate}
use Rattle.zi_choice.specs.Walk.{Place as APlace}
use Rattle.zi_choice.specs.Traces.{as_place}
use Rattle.zi_choice.specs.declared.traced.Place.{Place}
use Rattle.std.proofs.lemmas.Option.{slice_get-get_or, same_Some}
use Rattle.zi_build.proofs.WriteLaws.{item_at}
use Rattle.zi_choice.proofs.GrowLaws.{any_right}
use Rattle.zi_choice.proofs.ChoiceLaws.{same_number}
use Rattle.zi_numbering.specs.Listing.{AreListed, comes_to}
use Rattle.zi_version.proofs.Steps.{differ}
use Rattle.zi_xml.proofs.CharLemmas.{same_self}
use Rattle.zi_names.proofs.Expanded.{front_more}

pub none_listed : (n : ℕ) (ms : List Bool) → ms ≡ replicate n false → AreListed n [] ms
none_listed n ms e = record {
  each = ap length e ∙ length-replicate n false;
  are = λ i l. ap (λ xs. get_or xs i false) e ∙ get_or-replicate n i false false l;
}

pub places_more : (ps : List Place) (i : ℕ) (d : Place) → i < length ps → map as_place (take (i + 1) ps) ≡ map as_place (take i ps) ++ as_place (get_or ps i d) ∷ []
places_more ps i d l =
    let x = item_at ps i l in
    let same : x.0 ≡ get_or ps i d = same_Some _ _ (sym x.2 ∙ slice_get-get_or ps i d l) in
    ap (map as_place) (front_more ps i x.0 l x.1) ∙ map-append as_place (take i ps) (x.0 ∷ []) ∙ ap (λ y. map as_place (take i ps) ++ as_place y ∷ []) same

any_not : {A : Type 0} (test : A → Bool) (xs : List A) (y : A) → test y ≡ false → list_any test (xs ++ y ∷ []) ≡ list_any test xs
any_not test [] y e = ap (λ b. b || false) e
any_not test (x ∷ xs) y e = ap (λ b. test x || b) (any_not test xs y e)

marked_at : (n : ℕ) (ps : List APlace) (ms : List Bool) (p : APlace) → p.interface < length ms → AreListed n ps ms → AreListed n (ps ++ p ∷ []) (set ms p.interface true)
marked_at n ps ms p l h = record {
  each = length-set ms p.interface true ∙ h.each;
  are = λ i w. elim (same_number i p.interface) [
    | inl e ↦ subst (λ j. get_or (set ms p.interface true) j false ≡ comes_to (ps ++ p ∷ []) j) (sym e) (get_or-set_same ms p.interface true false l ∙ sym (any_right (λ (q : APlace). q.interface == p.interface) ps p (same_self p.interface)))
    | inr apart ↦ get_or-set_other ms p.interface i true false apart ∙ h.are i w ∙ sym (any_not (λ (q : APlace). q.interface == i) ps p (differ p.interface i (λ e. apart (sym e))))
  ];
}

pub marked : (ms : List Bool) (i : ℕ) → i < length ms → (n : ℕ) (ps : List APlace) (p : APlace) → p.interface ≡ i → AreListed n ps ms → AreListed n (ps ++ p ∷ []) (set ms i true)
marked ms i l n ps p e h = subst (λ j. AreListed n (ps ++ p ∷ []) (set ms j true)) e (marked_at n ps ms p (subst (λ j. j < length ms) (sym e) l) h)

pub passed : (ms : List Bool) (i : ℕ) → length ms ≤ i → (n : ℕ) (ps : List APlace) (p : APlace) → p.interface ≡ i → AreListed n ps ms → AreListed n (ps ++ p ∷ []) ms
passed ms m l n ps p same h = record {
  each = h.each;
  are = λ i w. let e = h.each in h.are i w ∙ sym (any_not (λ (q : APlace). q.interface == i) ps p (differ p.interface i (λ z. omega (arith, z, w, l, e, same))));
}
