-- Candidates that stand at different places can be ranked; and a list without repeats is no longer than one that has its members.
use Rattle.std.proofs.Common.{◌≡◌, ◌⊎◌, inl, inr, ℕ, zero, suc, ◌≤◌, false, List, [], ◌∷◌, length, map, take, remove, get_or, Contains, sym, subst, ◌∙◌, arith}
use Rattle.std.specs.Prelude.{IsPermutation}
use Rattle.std.specs.List.{AllByRecursion}
use Rattle.std.proofs.lemmas.List.{get_or-take, length-take-le}
use Rattle.std.proofs.lemmas.List.Elements.{Contains-get_or}
use Rattle.std.proofs.lemmas.List.Sorted.{IsPermutation-refl, IsPermutation-sym, IsPermutation-trans, IsPermutation-cons, IsPermutation-append_left, IsPermutation-to_front, IsPermutation-remove, Contains-permutation, length_permutation}
use Rattle.std.proofs.lemmas.Map.Keys.{IsDistinct-head, IsDistinct-tail}
use Rattle.zi_policy.specs.declared.types.Policy.{Policy}
use Rattle.zi_rank.specs.Laws.{RanksAreStrict}
use Rattle.zi_rank.specs.Rank.{Before}
use Rattle.zi_universe.specs.declared.types.Candidate.{Candidate}
use Rattle.zi_universe.specs.Naming.{Uri, Uris, AreApart}
use Rattle.zi_universe.specs.Candidates.{AreRanked}
use Rattle.zi_universe.specs.Stages.{place_of, alike, ArePlaced}
use Rattle.zi_universe.proofs.OnceLemmas.{here, later, is_member}
use Rattle.zi_universe.proofs.RankedLemmas.{parts_differ}

-- Ranking.

-- each stands before all behind it, and stands elsewhere
abbrev Ranked : Policy → List Candidate → Type 0
Ranked p [] = Unit {0}
Ranked p (c ∷ cs) = ((d : Candidate) → Contains cs d → Before p c.standing d.standing) × Ranked p cs

abbrev Far : List Candidate → Type 0
Far [] = Unit {0}
Far (c ∷ cs) = ((d : Candidate) → Contains cs d → alike (place_of c) (place_of d) ≡ false) × Far cs

at_each : (Q : Uri × ℕ → Type 0) (cs : List Candidate) → AllByRecursion Q (map place_of cs) → (d : Candidate) → Contains cs d → Q (place_of d)
at_each Q [] a d c = absurd (omega (arith, c.1))
at_each Q (e ∷ cs) a d c =
    let P : Candidate → Type 0 = λ z. Q (place_of z) in
    elim (is_member e cs d c) [ inl s ↦ subst P (sym s) a.0 | inr m ↦ at_each Q cs a.1 d m ]

far : (cs : List Candidate) → ArePlaced cs → Far cs
far [] a = tt
far (c ∷ cs) a =
    (at_each (λ k. alike (place_of c) k ≡ false) cs (IsDistinct-head alike (place_of c) (map place_of cs) a), far cs (IsDistinct-tail alike (place_of c) (map place_of cs) a))

exchanged : (c d : Candidate) (cs : List Candidate) → IsPermutation (c ∷ d ∷ cs) (d ∷ c ∷ cs)
exchanged c d cs = IsPermutation-append_left cs (c ∷ d ∷ []) (d ∷ c ∷ []) (IsPermutation-to_front (c ∷ []) d)

insert : RanksAreStrict → (p : Policy) (c : Candidate) (ds : List Candidate) → Ranked p ds → ((d : Candidate) → Contains ds d → alike (place_of c) (place_of d) ≡ false)
    → (es : List Candidate) × IsPermutation (c ∷ ds) es × Ranked p es
insert strict p c [] r apart = (c ∷ [], IsPermutation-refl (c ∷ []), ((λ d m. absurd (omega (arith, m.1))), tt))
insert strict p c (d ∷ ds) r apart =
    let s = insert strict p c ds r.1 (λ e m. apart e (later d ds e m)) in
    elim ((strict p).one_first c.standing d.standing (parts_differ (place_of c) (place_of d) (apart d (here d ds)))) [
      | inl b ↦ (
        c ∷ d ∷ ds,
        IsPermutation-refl (c ∷ d ∷ ds),
        (
          (λ e m. elim (is_member d ds e m) [
            | inl t ↦ (let P : Candidate → Type 0 = λ z. Before p c.standing z.standing in subst P (sym t) b)
            | inr n ↦ (strict p).chain c.standing d.standing e.standing b (r.0 e n)
          ]),
          r,
        ),
      )
      | inr b ↦ (
        d ∷ s.0,
        IsPermutation-trans (c ∷ d ∷ ds) (d ∷ c ∷ ds) (d ∷ s.0) (exchanged c d ds) (IsPermutation-cons d (c ∷ ds) s.0 s.1),
        (
          (λ e m. elim (is_member c ds e (Contains-permutation s.0 (c ∷ ds) e (IsPermutation-sym (c ∷ ds) s.0 s.1) m)) [
            | inl t ↦ (let P : Candidate → Type 0 = λ z. Before p d.standing z.standing in subst P (sym t) b)
            | inr n ↦ r.0 e n
          ]),
          s.2,
        ),
      )
    ]

sort : RanksAreStrict → (p : Policy) (cs : List Candidate) → Far cs → (ds : List Candidate) × IsPermutation cs ds × Ranked p ds
sort strict p [] a = ([], IsPermutation-refl [], tt)
sort strict p (c ∷ cs) a =
    let r = sort strict p cs a.1 in
    let s = insert strict p c r.0 r.2 (λ d m. a.0 d (Contains-permutation r.0 cs d (IsPermutation-sym cs r.0 r.1) m)) in
    (s.0, IsPermutation-trans (c ∷ cs) (c ∷ r.0) s.0 (IsPermutation-cons c cs r.0 r.1) s.1, s.2)

pairs : (p : Policy) (cs : List Candidate) → Ranked p cs → AreRanked p cs
pairs p [] r i j d lt within = absurd (omega (arith, within))
pairs p (c ∷ cs) r zero zero d lt within = absurd (omega (arith, lt))
pairs p (c ∷ cs) r zero (suc j) d lt within = r.0 (get_or cs j d) (Contains-get_or cs j d (omega (arith, within)))
pairs p (c ∷ cs) r (suc i) zero d lt within = absurd (omega (arith, lt))
pairs p (c ∷ cs) r (suc i) (suc j) d lt within = pairs p cs r.1 i j d (omega (arith, lt)) (omega (arith, within))

pub can_rank : RanksAreStrict → (p : Policy) (cs : List Candidate) → ArePlaced cs → (ds : List Candidate) × IsPermutation cs ds × AreRanked p ds
can_rank strict p cs a = let r = sort strict p cs (far cs a) in (r.0, r.1, pairs p r.0 r.2)

-- Lists without repeats.

apart_behind : (x : Uri) (xs : Uris) → AreApart (x ∷ xs) → AreApart xs
apart_behind x xs a i j d lt within = a (suc i) (suc j) d (omega (arith, lt)) (omega (arith, within))

pub no_longer : (xs ys : Uris) → AreApart xs → ((u : Uri) → Contains xs u → Contains ys u) → length xs ≤ length ys
no_longer [] ys a f = omega arith
no_longer (x ∷ xs) ys a f =
    let c = f x (here x xs) in
    let rest : Uris = remove ys c.0 in
    let same : IsPermutation ys (x ∷ rest) = IsPermutation-remove ys c.0 x c.1 (sym c.2) in
    let l : length (x ∷ rest) ≡ length ys = length_permutation ys (x ∷ rest) same in
    let le = no_longer xs rest (apart_behind x xs a) (λ u m. among u m (is_member x rest u (Contains-permutation ys (x ∷ rest) u same (f u (later x xs u m))))) in
    omega (arith, l, le)
  where
    among : (u : Uri) → Contains xs u → ((u ≡ x) ⊎ Contains (remove ys (f x (here x xs)).0) u) → Contains (remove ys (f x (here x xs)).0) u
    among u m (inl e) = absurd (a zero (suc m.0) u (omega arith) (omega (arith, m.1)) (sym e ∙ sym m.2))
    among u m (inr n) = n

pub apart_front : (xs : Uris) (n : ℕ) → n ≤ length xs → AreApart xs → AreApart (take n xs)
apart_front xs n le a i j d lt within e =
    let l : length (take n xs) ≡ n = length-take-le n xs le in
    a i j d lt (omega (arith, within, l, le)) (sym (get_or-take n xs i d (omega (arith, lt, within, l))) ∙ e ∙ get_or-take n xs j d (omega (arith, within, l)))
