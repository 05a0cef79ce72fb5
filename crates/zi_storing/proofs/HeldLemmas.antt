-- What is held of the files that were got.
use Rattle.std.proofs.Common.{◌≡◌, ℕ, ◌+◌, ◌-◌, ◌<◌, ◌≤◌, true, false, List, [], ◌∷◌, ◌++◌, length, map, sum, refl, sym, ◌∙◌, ap, arith}
use Rattle.std.proofs.lemmas.List.{map-append}
use Rattle.std.proofs.lemmas.List.Sums.{sum-map, sum_by_push}
use Rattle.zi_storing.specs.declared.gathering.Held.{Held}
use Rattle.zi_storing.specs.declared.gathering.Part.{Part}
use Rattle.zi_tree.specs.Limits.{size_limit}
use Rattle.zi_storing.specs.Gathering.{Holds, names_of, part_name, part_size}

pub holds_none : (h : Held) → h.parts ≡ [] → h.left ≡ 268435456 → h.large ≡ false → Holds [] h
holds_none h parts left large = record {
  names = ap names_of parts;
  within = λ e. (parts, omega (arith, left));
  past = λ e. absurd (cc (e, large));
}

sum_more : (ps : List Part) (p : Part) → sum (map part_size (ps ++ p ∷ [])) ≡ sum (map part_size ps) + length p.bytes
sum_more ps p = sum-map part_size (ps ++ p ∷ []) ∙ sum_by_push part_size ps p ∙ ap (λ n. n + length p.bytes) (sym (sum-map part_size ps))

names_more : (ps qs : List Part) (p q : Part) → names_of qs ≡ names_of ps → q.name ≡ p.name → names_of (qs ++ q ∷ []) ≡ names_of (ps ++ p ∷ [])
names_more ps qs p q e same = map-append part_name qs (q ∷ []) ∙ ap (λ ns. ns ++ q.name ∷ []) e ∙ ap (λ n. names_of ps ++ n ∷ []) same ∙ sym (map-append part_name ps (p ∷ []))

-- the bytes of one more are held
pub holds_more : (ps : List Part) (old new : Held) (p : Part) → Holds ps old → old.large ≡ false → length p.bytes ≤ old.left → new.parts ≡ old.parts ++ p ∷ [] → new.left ≡ old.left - length p.bytes → new.large ≡ old.large → Holds (ps ++ p ∷ []) new
holds_more ps old new p h small fits parts left large =
    let w = h.within small in
    let s = sum_more ps p in
    let all = w.1 in
    let is : new.parts ≡ ps ++ p ∷ [] = parts ∙ ap (λ qs. qs ++ p ∷ []) w.0 in
    record {
      names = ap names_of is;
      within = λ e. (is, omega (arith, s, all, fits, left));
      past = λ e. absurd (cc (e, large, small));
    }

-- there were more before
pub holds_large : (ps : List Part) (old new : Held) (p q : Part) → Holds ps old → old.large ≡ true → q.name ≡ p.name → new.parts ≡ old.parts ++ q ∷ [] → new.large ≡ old.large → Holds (ps ++ p ∷ []) new
holds_large ps old new p q h large same parts still =
    let s = sum_more ps p in
    let many = h.past large in
    record {
      names = ap names_of parts ∙ names_more ps old.parts p q h.names same;
      within = λ e. absurd (cc (e, still, large));
      past = λ e. omega (arith, s, many);
    }

-- there are more with this one
pub holds_past : (ps : List Part) (old new : Held) (p q : Part) → Holds ps old → old.large ≡ false → old.left < length p.bytes → q.name ≡ p.name → new.parts ≡ old.parts ++ q ∷ [] → new.large ≡ true → Holds (ps ++ p ∷ []) new
holds_past ps old new p q h small more same parts large =
    let s = sum_more ps p in
    let all = (h.within small).1 in
    record {
      names = ap names_of parts ∙ names_more ps old.parts p q h.names same;
      within = λ e. absurd (cc (e, large));
      past = λ e. omega (arith, s, all, more);
    }

pub ruleset holding = (holds_more, holds_large, holds_past)
