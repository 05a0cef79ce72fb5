-- Reports that are taken from the front, place by place.
use Rattle.std.proofs.Common.{◌≡◌, ℕ, zero, suc, ◌+◌, ◌<◌, ◌≤◌, ◌==◌, Bool, true, false, cond, List, [], ◌∷◌, ◌++◌, map, take, drop, length, get_or, refl, sym, ap, ◌∙◌, subst, arith, append_assoc, flat_map}
use Rattle.std.proofs.lemmas.List.{append-nil, drop_all}
use Rattle.zi_universe.specs.declared.types.Interface.{Interface}
use Rattle.zi_choice.specs.Walk.{Place as APlace}
use Rattle.zi_choice.specs.Traces.{as_place}
use Rattle.zi_choice.specs.declared.traced.Place.{Place}
use Rattle.zi_why.specs.declared.report.Report.{Report}
use Rattle.zi_report.specs.Text.{place_line, report_line, is_of}
use Rattle.zi_report.specs.Taking.{front, behind, part, text_from}

drop_next : {A : Type 0} (xs : List A) (i : ℕ) (d x : A) → i < length xs → x ≡ get_or xs i d → drop i xs ≡ x ∷ drop (suc i) xs
drop_next [] i d x lt e = absurd (omega (arith, lt))
drop_next (y ∷ xs) zero d x lt e = ap (λ z. z ∷ xs) (sym e)
drop_next (y ∷ xs) (suc i) d x lt e = drop_next xs i d x (omega (arith, lt)) e

pub drop_one : {A : Type 0} (xs : List A) (i : ℕ) (d x : A) → i < length xs → x ≡ get_or xs i d → drop i xs ≡ x ∷ drop (i + 1) xs
drop_one xs i d x lt e = let z : suc i ≡ i + 1 = omega arith in drop_next xs i d x lt e ∙ ap (λ m. x ∷ drop m xs) z

-- How many there are.

abbrev pub CountsTo : ℕ → List Report → ℕ → ℕ → Type 0
CountsTo n rs i count = (count ≡ i) × (length (front n rs) ≡ count + length (front n (drop i rs)))

pub counts_none : (n : ℕ) (rs : List Report) → CountsTo n rs 0 0
counts_none n rs = (refl, omega arith)

counted_of : (n : ℕ) (rs : List Report) (i count : ℕ) (r : Report) → drop i rs ≡ r ∷ drop (i + 1) rs → CountsTo n rs i count → length (front n rs) ≡ count + length (cond (is_of n r) (r ∷ front n (drop (i + 1) rs)) [])
counted_of n rs i count r d h = h.1 ∙ ap (λ xs. count + length (front n xs)) d

pub counts_on : (n : ℕ) (rs : List Report) (i count : ℕ) (d r : Report) → i < length rs → r ≡ get_or rs i d → is_of n r ≡ true → CountsTo n rs i count → CountsTo n rs (i + 1) (count + 1)
counts_on n rs i count d r lt e t h =
    let c : length (front n rs) ≡ count + suc (length (front n (drop (i + 1) rs))) = counted_of n rs i count r (drop_one rs i d r lt e) h ∙ ap (λ b. count + length (cond b (r ∷ front n (drop (i + 1) rs)) [])) t in
    let m : length (front n rs) ≡ (count + 1) + length (front n (drop (i + 1) rs)) = omega (arith, c) in
    (ap (λ k. k + 1) h.0, m)

pub counts_here : (n : ℕ) (rs : List Report) (i count : ℕ) (d r : Report) → i < length rs → r ≡ get_or rs i d → is_of n r ≡ false → CountsTo n rs i count → count ≡ length (front n rs)
counts_here n rs i count d r lt e t h =
    let c : length (front n rs) ≡ count + 0 = counted_of n rs i count r (drop_one rs i d r lt e) h ∙ ap (λ b. count + length (cond b (r ∷ front n (drop (i + 1) rs)) [])) t in
    omega (arith, c)

pub counts_all : (n : ℕ) (rs : List Report) (i count : ℕ) → length rs ≤ i → CountsTo n rs i count → count ≡ length (front n rs)
counts_all n rs i count le h =
    let c : length (front n rs) ≡ count + 0 = h.1 ∙ ap (λ xs. count + length (front n xs)) (drop_all i rs le) in
    omega (arith, c)

-- The two parts.

pub front_taken : (n : ℕ) (rs : List Report) → take (length (front n rs)) rs ≡ front n rs
front_taken n [] = refl
front_taken n (r ∷ rs) = at (is_of n r) (front_taken n rs)
  where
    at : (b : Bool) → take (length (front n rs)) rs ≡ front n rs → take (length (cond b (r ∷ front n rs) [])) (r ∷ rs) ≡ cond b (r ∷ front n rs) []
    at true e = ap (λ xs. r ∷ xs) e
    at false e = refl

pub behind_dropped : (n : ℕ) (rs : List Report) → drop (length (front n rs)) rs ≡ behind n rs
behind_dropped n [] = refl
behind_dropped n (r ∷ rs) = at (is_of n r) (behind_dropped n rs)
  where
    at : (b : Bool) → drop (length (front n rs)) rs ≡ behind n rs → drop (length (cond b (r ∷ front n rs) [])) (r ∷ rs) ≡ cond b (behind n rs) (r ∷ rs)
    at true e = e
    at false e = refl

-- what is put of a place, and what is left
pub part_put : (u : List Interface) (n : ℕ) (p : APlace) (rs mine left : List Report) (old mid new : List ℕ) (count : ℕ) → count ≡ length (front n rs) → mine ≡ take count rs → left ≡ drop count rs
    → mid ≡ old ++ place_line u p → new ≡ mid ++ flat_map (report_line u p.interface) mine → (left ≡ behind n rs) × (new ≡ old ++ part u p (front n rs))
part_put u n p rs mine left old mid new count e m l f g =
    let is : mine ≡ front n rs = m ∙ ap (λ k. take k rs) e ∙ front_taken n rs in
    let lines : List ℕ = flat_map (report_line u p.interface) (front n rs) in (
      l ∙ ap (λ k. drop k rs) e ∙ behind_dropped n rs,
      g ∙ ap (λ xs. mid ++ flat_map (report_line u p.interface) xs) is ∙ ap (λ y. y ++ lines) f ∙ append_assoc old (place_line u p) lines,
    )

-- Place by place: what was put and what is left to be put are the whole.

abbrev pub PutsOn : List Interface → List Place → List Report → List ℕ → ℕ → List Report → List ℕ → Type 0
PutsOn u ps rs old n left text = text ++ text_from u (suc n) (map as_place (drop n ps)) left ≡ old ++ text_from u 1 (map as_place ps) rs

pub puts_next : (u : List Interface) (ps : List Place) (rs : List Report) (old : List ℕ) (n : ℕ) (left rest : List Report) (mid new : List ℕ) (d p : Place) → n < length ps → p ≡ get_or ps n d
    → rest ≡ behind (n + 1) left → new ≡ mid ++ part u (as_place p) (front (n + 1) left) → PutsOn u ps rs old n left mid → PutsOn u ps rs old (n + 1) rest new
puts_next u ps rs old n left rest mid new d p lt e g f h =
    let z : n + 1 ≡ suc n = omega arith in
    let more : List ℕ = text_from u (suc (n + 1)) (map as_place (drop (n + 1) ps)) (behind (n + 1) left) in
    ap (λ xs. new ++ text_from u (suc (n + 1)) (map as_place (drop (n + 1) ps)) xs) g
    ∙ ap (λ y. y ++ more) f
    ∙ append_assoc mid (part u (as_place p) (front (n + 1) left)) more
    ∙ ap (λ m. mid ++ text_from u m (map as_place (p ∷ drop (n + 1) ps)) left) z
    ∙ ap (λ xs. mid ++ text_from u (suc n) (map as_place xs) left) (sym (drop_one ps n d p lt e))
    ∙ h

pub puts_all : (u : List Interface) (ps : List Place) (rs : List Report) (old : List ℕ) (n : ℕ) (left : List Report) (text : List ℕ) → length ps ≤ n → PutsOn u ps rs old n left text → text ≡ old ++ text_from u 1 (map as_place ps) rs
puts_all u ps rs old n left text le h =
    sym (append-nil text) ∙ ap (λ xs. text ++ text_from u (suc n) (map as_place xs) left) (sym (drop_all n ps le)) ∙ h

pub puts_first : (u : List Interface) (ps : List Place) (rs : List Report) (old : List ℕ) → PutsOn u ps rs old 0 rs old
puts_first u ps rs old = refl

pub ruleset parting = (puts_first, puts_all)
