-- Expanded names as keys of a set: the local name, then the address.
use Rattle.std.proofs.Common.{◌≡◌, ◌+◌, ℕ, Bool, true, false, cond, ◌&&◌, List, [], ◌∷◌, ◌++◌, Bor, refl, ap, ◌∙◌, drop-cons, take, drop, suc, get_or, ◌<◌, length, sym}
use Rattle.std.specs.Prelude.{filter}
use Rattle.std.specs.declared.cmp.Ordering.{Ordering}
use Rattle.std.specs.declared.cmp.Ordering.TheVariants.{Less, Equal, Greater}
use Rattle.std.specs.Ordering.{nat_cmp, is_eq, ordering_then}
use Rattle.std.specs.Cmp.Lexicographic.{slice_cmp}
use Rattle.std.specs.Str.{bytes_eq}
use Rattle.std.proofs.lemmas.Map.Text.{is_eq-slice_cmp}
use Rattle.std.proofs.lemmas.List.{take-append-drop, take_more, append-nil}
use Rattle.std.proofs.lemmas.List.Elements.{filter-append}
use Rattle.zi_names.specs.declared.attributes.Raw.{Raw}
use Rattle.zi_names.specs.declared.attributes.Binding.{Binding}
use Rattle.zi_names.specs.Names.{local, prefix, address_of}
use Rattle.zi_text.proofs.ListLaws.{both_equal}

-- a local name and an address
abbrev pub Key : Type 0
Key = Bor (List ℕ) × Bor (List ℕ)

abbrev pub key_cmp : Key → Key → Ordering
key_cmp x y = ordering_then (slice_cmp nat_cmp x.0.now y.0.now) (slice_cmp nat_cmp x.1.now y.1.now)

-- the attribute has this local name and address
abbrev pub is_named : List Binding → Key → Raw → Bool
is_named scope q a = bytes_eq (local a.name) q.0.now && bytes_eq (address_of scope (prefix a.name)) q.1.now

pub key_equal : (scope : List Binding) (a : Raw) (k q : Key) → k.0.now ≡ local a.name → k.1.now ≡ address_of scope (prefix a.name) → is_eq (key_cmp k q) ≡ is_named scope q a
key_equal scope a k q e f =
    both_equal (slice_cmp nat_cmp k.0.now q.0.now) (slice_cmp nat_cmp k.1.now q.1.now)
    ∙ (ap (λ v. v && is_eq (slice_cmp nat_cmp k.1.now q.1.now)) (is_eq-slice_cmp k.0.now q.0.now ∙ ap (λ n. bytes_eq n q.0.now) e)
    ∙ ap (λ v. bytes_eq (local a.name) q.0.now && v) (is_eq-slice_cmp k.1.now q.1.now ∙ ap (λ n. bytes_eq n q.1.now) f))

-- a filtered list at an item that passes
pub filter_at : {X : Type 0} (p : X → Bool) (xs : List X) (i : ℕ) (x : X) → i < length xs → x ≡ get_or xs i x → p x ≡ true
    → filter p xs ≡ filter p (take i xs) ++ x ∷ filter p (drop (suc i) xs)
filter_at p xs i x lt e h =
    ap (filter p) (sym (take-append-drop i xs)) ∙ (filter-append p (take i xs) (drop i xs)
    ∙ ap (λ v. filter p (take i xs) ++ v) (ap (filter p) (drop-cons xs i x lt ∙ ap (λ v. v ∷ drop (suc i) xs) (sym e))
    ∙ ap (λ v. cond v (x ∷ filter p (drop (suc i) xs)) (filter p (drop (suc i) xs))) h))

pub front_more : {X : Type 0} (xs : List X) (i : ℕ) (x : X) → i < length xs → x ≡ get_or xs i x → take (i + 1) xs ≡ take i xs ++ x ∷ []
front_more xs i x lt e = take_more xs i x lt ∙ ap (λ v. take i xs ++ v ∷ []) (sym e)

pub filter_front_more : {X : Type 0} (p : X → Bool) (xs : List X) (i : ℕ) (x : X) → i < length xs → x ≡ get_or xs i x → p x ≡ true
    → filter p (take (i + 1) xs) ≡ filter p (take i xs) ++ x ∷ []
filter_front_more p xs i x lt e h =
    ap (filter p) (front_more xs i x lt e) ∙ (filter-append p (take i xs) (x ∷ []) ∙ ap (λ v. filter p (take i xs) ++ cond v (x ∷ []) []) h)

pub filter_front_same : {X : Type 0} (p : X → Bool) (xs : List X) (i : ℕ) (x : X) → i < length xs → x ≡ get_or xs i x → p x ≡ false
    → filter p (take (i + 1) xs) ≡ filter p (take i xs)
filter_front_same p xs i x lt e h =
    ap (filter p) (front_more xs i x lt e) ∙ (filter-append p (take i xs) (x ∷ []) ∙ (ap (λ v. filter p (take i xs) ++ cond v (x ∷ []) []) h ∙ append-nil (filter p (take i xs))))
