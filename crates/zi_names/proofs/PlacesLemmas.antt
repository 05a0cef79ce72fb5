-- The index of the newest bindings, as bindings come and go.
use Rattle.std.proofs.Common.{◌≡◌, ℕ, ◌<◌, true, false, cond, Option, Some, None, List, [], ◌∷◌, ◌++◌, length, get_or, reverse, refl, sym, ap, ◌∙◌, subst, arith, rules}
use Rattle.std.specs.Prelude.{find}
use Rattle.std.specs.Str.{bytes_eq}
use Rattle.std.specs.BTreeMap.{BTreeMap, get_by_text}
use Rattle.std.specs.declared.alloc.Global.{Global}
use Rattle.std.specs.declared.string.String.{String}
use Rattle.std.proofs.lemmas.Bool.Decides.{nat_tests}
use Rattle.std.proofs.lemmas.Slice.Eq.{bytes_eq-Decides}
use Rattle.std.proofs.lemmas.List.{reverse-append, length-reverse, get_or_append_left, get_or_at}
use Rattle.zi_names.specs.declared.attributes.Binding.{Binding}
use Rattle.zi_names.specs.declared.bound.Bound.{Bound}
use Rattle.zi_names.specs.Places.{bindings_of, place, IsIndexed}
use Rattle.zi_text.proofs.ListLaws.{reverse_cons}

pub place_in : (bs : List Bound) (p : List ℕ) (i : ℕ) → place bs p ≡ Some i → i < length bs
place_in [] p i h = cc
place_in (b ∷ bs) p i h =
    let more : place bs p ≡ Some i → i < length bs = place_in bs p i in
    grind arith

pub place_at : (bs : List Bound) (p : List ℕ) (i : ℕ) (d : Bound) → place bs p ≡ Some i
    → find (λ c. bytes_eq c.prefix p) (bindings_of bs) ≡ Some (get_or (reverse bs) i d).binding
place_at [] p i d h = cc
place_at (b ∷ bs) p i d h =
    let P : List Bound → Type 0 = λ rs. find (λ c. bytes_eq c.prefix p) (bindings_of (b ∷ bs)) ≡ Some (get_or rs i d).binding in
    let cases : (cond (bytes_eq b.binding.prefix p) (Some (length bs)) (place bs p) ≡ Some i)
    → cond (bytes_eq b.binding.prefix p) (Some b.binding) (find (λ c. bytes_eq c.prefix p) (bindings_of bs)) ≡ Some (get_or (reverse bs ++ b ∷ []) i d).binding =
    elim (bytes_eq b.binding.prefix p) as (λ v. cond v (Some (length bs)) (place bs p) ≡ Some i
    → cond v (Some b.binding) (find (λ c. bytes_eq c.prefix p) (bindings_of bs)) ≡ Some (get_or (reverse bs ++ b ∷ []) i d).binding) [
      | true ↦ λ k. newest k
      | false ↦ λ k. older k (place_at bs p i d k)
    ] in
    subst P (sym (reverse_cons b bs)) (cases h)
  where
    newest : Some (length bs) ≡ Some i → Some b.binding ≡ Some (get_or (reverse bs ++ b ∷ []) i d).binding
    newest k = let l : length (reverse bs) ≡ length bs = length-reverse bs in let e : length (reverse bs) ≡ i = cc in ap (λ c. Some c.binding) (sym (get_or_at (reverse bs) b [] d i e))

    older : place bs p ≡ Some i → {o : Option Binding} → o ≡ Some (get_or (reverse bs) i d).binding → o ≡ Some (get_or (reverse bs ++ b ∷ []) i d).binding
    older k same =
        let lt : i < length (reverse bs) = subst (λ n. i < n) (sym (length-reverse bs)) (place_in bs p i k) in
        same ∙ ap (λ c. Some c.binding) (sym (get_or_append_left (reverse bs) (b ∷ []) d i lt))

pub place_none : (bs : List Bound) (p : List ℕ) → place bs p ≡ None → find (λ c. bytes_eq c.prefix p) (bindings_of bs) ≡ None
place_none [] p h = refl
place_none (b ∷ bs) p h =
    let more : place bs p ≡ None → find (λ c. bytes_eq c.prefix p) (bindings_of bs) ≡ None = place_none bs p in
    grind arith

-- prefixes that the test finds alike have one place
pub place_alike : (bs : List Bound) (p q : List ℕ) → bytes_eq p q ≡ true → place bs p ≡ place bs q
place_alike bs p q e = ap (place bs) (bytes_same p q e)
  where
    bytes_same : (xs ys : List ℕ) → bytes_eq xs ys ≡ true → xs ≡ ys
    bytes_same xs ys e = search (rules, bytes_eq-Decides)

-- a new binding
pub indexed_more : (b : Bound) (bs : List Bound) (m n : BTreeMap (String Global) ℕ) → IsIndexed bs m → b.hides ≡ place bs b.binding.prefix
    → ((p : List ℕ) → get_by_text n p ≡ cond (bytes_eq b.binding.prefix p) (Some (length bs)) (get_by_text m p)) → IsIndexed (b ∷ bs) n
indexed_more b bs m n old hides said = record {
  linked = (hides, old.linked);
  placed = λ p. said p ∙ ap (λ v. cond (bytes_eq b.binding.prefix p) (Some (length bs)) v) (old.placed p);
}

-- the newest binding goes
pub indexed_less : (b : Bound) (bs : List Bound) (m n : BTreeMap (String Global) ℕ) → IsIndexed (b ∷ bs) m
    → ((p : List ℕ) → get_by_text n p ≡ cond (bytes_eq b.binding.prefix p) b.hides (get_by_text m p)) → IsIndexed bs n
indexed_less b bs m n old said = record {
  linked = old.linked.1;
  placed = λ p. said p ∙ (ap (λ v. cond (bytes_eq b.binding.prefix p) b.hides v) (old.placed p) ∙ uncovered p);
}
  where
    uncovered : (p : List ℕ) → cond (bytes_eq b.binding.prefix p) b.hides (cond (bytes_eq b.binding.prefix p) (Some (length bs)) (place bs p)) ≡ place bs p
    uncovered p =
        elim (bytes_eq b.binding.prefix p) as (λ v. bytes_eq b.binding.prefix p ≡ v → cond v b.hides (cond v (Some (length bs)) (place bs p)) ≡ place bs p) [
          | true ↦ λ e. old.linked.0 ∙ place_alike bs b.binding.prefix p e
          | false ↦ λ e. refl
        ] refl
