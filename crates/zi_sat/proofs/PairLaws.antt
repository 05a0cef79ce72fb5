-- Pairs of places that stand apart: one read, one put in place of another, and one more.
use Rattle.std.proofs.Common.{◌≡◌, ℕ, zero, suc, ◌<◌, ◌≤◌, List, [], ◌∷◌, ◌++◌, length, map, get_or, set, refl, ap, ◌∙◌, arith, Some, None}
use Rattle.std.proofs.lemmas.List.{get_or-set_same, get_or-set_other, get_or_append_left}
use Rattle.std.proofs.lemmas.Option.{slice_get_read, get_or_from_slice_get}
use Rattle.std.proofs.Math.Seq.{get_or-append_seam}
use Rattle.zi_sat.specs.declared.pair.Pair.{Pair}
use Rattle.zi_sat.specs.Pairs.{no_pair, held, StandApart}

-- a number that is there says a pair that is there
pub place_here : (from end : ℕ) (ns : List ℕ) (i k : ℕ) → StandApart from end ns → get_or ns i 0 ≡ suc k → (from ≤ k) × (k < end)
place_here from end [] i k h e = absurd (omega (arith, e))
place_here from end (zero ∷ ns) zero k h e = absurd (omega (arith, e))
place_here from end (zero ∷ ns) (suc i) k h e = place_here from end ns i k h e
place_here from end (suc m ∷ ns) zero k h e = (omega (arith, h.0, e), omega (arith, h.1, e))
place_here from end (suc m ∷ ns) (suc i) k h e = let r = place_here (suc m) end ns i k h.2 e in (omega (arith, h.0, r.0), r.1)

pub map_at : (ps : List Pair) (ns : List ℕ) (i : ℕ) → i < length ns → get_or (map (held ps) ns) i None ≡ held ps (get_or ns i 0)
map_at ps [] i lt = absurd (omega (arith, lt))
map_at ps (n ∷ ns) zero lt = refl
map_at ps (n ∷ ns) (suc i) lt = map_at ps ns i (omega (arith, lt))

same_more : (ps : List Pair) (p : Pair) (from : ℕ) (ns : List ℕ) → StandApart from (length ps) ns → map (held (ps ++ p ∷ [])) ns ≡ map (held ps) ns
same_more ps p from [] h = refl
same_more ps p from (zero ∷ ns) h = ap (λ v. None ∷ v) (same_more ps p from ns h)
same_more ps p from (suc k ∷ ns) h =
    ap (λ q. Some q ∷ map (held (ps ++ p ∷ [])) ns) (get_or_append_left ps (p ∷ []) no_pair k h.1) ∙ ap (λ v. Some (get_or ps k no_pair) ∷ v) (same_more ps p (suc k) ns h.2)

-- a place more without a pair
pub apart_none : (from end : ℕ) (ns : List ℕ) → StandApart from end ns → StandApart from end (ns ++ 0 ∷ [])
apart_none from end [] h = h
apart_none from end (zero ∷ ns) h = apart_none from end ns h
apart_none from end (suc k ∷ ns) h = (h.0, h.1, apart_none (suc k) end ns h.2)

pub pushed_none : (ps : List Pair) (ns : List ℕ) → map (held ps) (ns ++ 0 ∷ []) ≡ map (held ps) ns ++ None ∷ []
pushed_none ps [] = refl
pushed_none ps (n ∷ ns) = ap (λ v. held ps n ∷ v) (pushed_none ps ns)

-- a place more with a pair
pub apart_some : (from end : ℕ) (ns : List ℕ) → StandApart from end ns → StandApart from (suc end) (ns ++ suc end ∷ [])
apart_some from end [] h = (h, omega arith, omega arith)
apart_some from end (zero ∷ ns) h = apart_some from end ns h
apart_some from end (suc k ∷ ns) h = (h.0, omega (arith, h.1), apart_some (suc k) end ns h.2)

pub pushed_some : (ps : List Pair) (p : Pair) (from : ℕ) (ns : List ℕ) → StandApart from (length ps) ns
    → map (held (ps ++ p ∷ [])) (ns ++ suc (length ps) ∷ []) ≡ map (held ps) ns ++ Some p ∷ []
pushed_some ps p from [] h = ap (λ q. Some q ∷ []) (get_or-append_seam ps p [] no_pair)
pushed_some ps p from (zero ∷ ns) h = ap (λ v. None ∷ v) (pushed_some ps p from ns h)
pushed_some ps p from (suc k ∷ ns) h =
    ap (λ q. Some q ∷ map (held (ps ++ p ∷ [])) (ns ++ suc (length ps) ∷ [])) (get_or_append_left ps (p ∷ []) no_pair k h.1)
    ∙ ap (λ v. Some (get_or ps k no_pair) ∷ v) (pushed_some ps p (suc k) ns h.2)

-- another pair in place of the one that a place has
untouched : (ps : List Pair) (p : Pair) (k from : ℕ) (ns : List ℕ) → k < from → StandApart from (length ps) ns → map (held (set ps k p)) ns ≡ map (held ps) ns
untouched ps p k from [] lt h = refl
untouched ps p k from (zero ∷ ns) lt h = ap (λ v. None ∷ v) (untouched ps p k from ns lt h)
untouched ps p k from (suc m ∷ ns) lt h =
    ap (λ q. Some q ∷ map (held (set ps k p)) ns) (get_or-set_other ps k m p no_pair (λ e. absurd (omega (arith, e, lt, h.0))))
    ∙ ap (λ v. Some (get_or ps m no_pair) ∷ v) (untouched ps p k (suc m) ns (omega (arith, lt, h.0)) h.2)

pub put_at : (ps : List Pair) (p : Pair) (k from : ℕ) (ns : List ℕ) (i : ℕ) → StandApart from (length ps) ns → get_or ns i 0 ≡ suc k
    → map (held (set ps k p)) ns ≡ set (map (held ps) ns) i (Some p)
put_at ps p k from [] i h e = absurd (omega (arith, e))
put_at ps p k from (zero ∷ ns) zero h e = absurd (omega (arith, e))
put_at ps p k from (zero ∷ ns) (suc i) h e = ap (λ v. None ∷ v) (put_at ps p k from ns i h e)
put_at ps p k from (suc m ∷ ns) zero h e =
    let same : m ≡ k = omega (arith, e) in
    ap (λ q. Some q ∷ map (held (set ps k p)) ns) (ap (λ n. get_or (set ps k p) n no_pair) same ∙ get_or-set_same ps k p no_pair (omega (arith, same, h.1)))
    ∙ ap (λ v. Some p ∷ v) (untouched ps p k (suc m) ns (omega (arith, same)) h.2)
put_at ps p k from (suc m ∷ ns) (suc i) h e =
    let r = place_here (suc m) (length ps) ns i k h.2 e in
    ap (λ q. Some q ∷ map (held (set ps k p)) ns) (get_or-set_other ps k m p no_pair (λ x. absurd (omega (arith, x, r.0))))
    ∙ ap (λ v. Some (get_or ps m no_pair) ∷ v) (put_at ps p k (suc m) ns i h.2 e)

-- what is read at a place
pub read_at : (ps : List Pair) (k : ℕ) (r : Pair) → k < length ps → r ≡ get_or ps k r → get_or ps k no_pair ≡ r
read_at ps k r lt e = get_or_from_slice_get ps k r no_pair (slice_get_read ps (length ps) k r refl lt e)

pub read_number : (ns : List ℕ) (i r : ℕ) → i < length ns → r ≡ get_or ns i r → get_or ns i 0 ≡ r
read_number ns i r lt e = get_or_from_slice_get ns i r 0 (slice_get_read ns (length ns) i r refl lt e)
