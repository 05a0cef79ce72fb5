-- The addresses of the demonstration are apart: none stands twice.
use Rattle.std.proofs.Common.{◌≡◌, ℕ, zero, suc, ◌+◌, ◌^◌, ◌<◌, ◌≤◌, Bool, true, false, List, [], ◌∷◌, ◌++◌, map, length, codes, refl, sym, ap, subst, ◌∙◌, arith}
use Rattle.std.specs.Prelude.{◌≢◌, ◌||◌, bytes_eq, decimal, Some, if◌then◌else◌}
use Rattle.std.specs.List.{position_from}
use Rattle.std.proofs.lemmas.Bool.{or_from, or_parts, false_from_ne_true}
use Rattle.std.proofs.lemmas.Fmt.{decimal_injective}
use Rattle.std.proofs.lemmas.List.{append_cancel_left, append_cancel_right}
use Rattle.std.proofs.lemmas.List.Folds.{list_any-append}
use Rattle.std.proofs.lemmas.Slice.Eq.{bytes_eq-Decides}
use Rattle.zi_policy.specs.Platform.{listed}
use Rattle.zi_demo.specs.Feeds.{address, numbers, numbered, p_q_r}
use Rattle.zi_demo_laws.proofs.RowLemmas.{Row, other_rows, names_of, rows, needed_names, names_are}

-- none of these is among those before it, where these stand before all
abbrev pub AreApartFrom : List (List ℕ) → List (List ℕ) → Type 0
AreApartFrom before [] = Unit {0}
AreApartFrom before (x ∷ xs) = (listed x before ≡ false) × AreApartFrom (before ++ x ∷ []) xs

-- The one that isn't among those before it.

pub not_same : (x y : List ℕ) → x ≢ y → bytes_eq x y ≡ false
not_same x y h = false_from_ne_true (bytes_eq x y) (λ e. h ((bytes_eq-Decides x y).0 e))

pub same_itself : (x : List ℕ) → bytes_eq x x ≡ true
same_itself x = (bytes_eq-Decides x x).1 refl

pub turned : (x y : List ℕ) → bytes_eq x y ≡ false → bytes_eq y x ≡ false
turned x y h = not_same y x (λ e. differs (bytes_eq x y) h ((bytes_eq-Decides x y).1 (sym e)))
  where
    differs : (b : Bool) → b ≡ false → b ≡ true → ⊥
    differs true h k = cc h
    differs false h k = cc k

pub position_there : (x : List ℕ) (before behind : List (List ℕ)) (i : ℕ) → listed x before ≡ false → position_from (bytes_eq x) i (before ++ x ∷ behind) ≡ Some (i + length before)
position_there x [] behind i h =
    let e : i ≡ i + 0 = omega arith in
    ap (λ b. if b then Some i else position_from (bytes_eq x) (i + 1) behind) (same_itself x) ∙ ap (λ (k : ℕ). Some k) e
position_there x (y ∷ before) behind i h =
    let k = or_parts (bytes_eq x y) (listed x before) h in
    let e : i + 1 + length before ≡ i + suc (length before) = omega arith in
    ap (λ b. if b then Some i else position_from (bytes_eq x) (i + 1) (before ++ x ∷ behind)) k.0 ∙ (position_there x before behind (i + 1) k.1 ∙ ap (λ (k : ℕ). Some k) e)

-- Addresses.

named_apart : (i k : ℕ) → i < 2 ^ 64 → k < 2 ^ 64 → i ≢ k → bytes_eq (address (numbered i)) (address (numbered k)) ≡ false
named_apart i k hi hk other =
    not_same (address (numbered i)) (address (numbered k))
    (λ e. other (decimal_injective i k hi hk (append_cancel_left (codes "a") (decimal i) (decimal k) (append_cancel_left (codes "/demo/") (numbered i) (numbered k) (append_cancel_right (codes "/demo/" ++ numbered i) (codes "/demo/" ++ numbered k) (codes ".xml") e)))))

one_more : (x y : List ℕ) (before : List (List ℕ)) → listed x before ≡ false → bytes_eq x y ≡ false → listed x (before ++ y ∷ []) ≡ false
one_more x y before h k = list_any-append (bytes_eq x) before (y ∷ []) ∙ or_from (listed x before) (bytes_eq x y || false) h (or_from (bytes_eq x y) false k refl)

-- none of those from a number on stands before, nor one of the last three
record Behind (k : ℕ) (before : List (List ℕ)) : Type 0 where
  from : (i : ℕ) → k ≤ i → i < 2 ^ 64 → listed (address (numbered i)) before ≡ false
  p : listed (address (codes "p")) before ≡ false
  q : listed (address (codes "q")) before ≡ false
  r : listed (address (codes "r")) before ≡ false

one_behind : (k : ℕ) (before : List (List ℕ)) → k < 2 ^ 64 → Behind k before → Behind (k + 1) (before ++ address (numbered k) ∷ [])
one_behind k before small h = record {
  from = λ i le fits. one_more (address (numbered i)) (address (numbered k)) before (h.from i (omega arith) fits) (named_apart i k fits small (λ e. absurd (omega arith)));
  p = one_more (address (codes "p")) (address (numbered k)) before h.p refl;
  q = one_more (address (codes "q")) (address (numbered k)) before h.q refl;
  r = one_more (address (codes "r")) (address (numbered k)) before h.r refl;
}

last_apart : (k : ℕ) (before : List (List ℕ)) → Behind k before → AreApartFrom before (map address p_q_r)
last_apart k before h =
    let q = one_more (address (codes "q")) (address (codes "p")) before h.q refl in
    let r = one_more (address (codes "r")) (address (codes "p")) before h.r refl in
    (h.p, (q, (one_more (address (codes "r")) (address (codes "q")) (before ++ address (codes "p") ∷ []) r refl, tt)))

abbrev behind_from : ℕ → ℕ → List (List ℕ)
behind_from k m = map address (map numbered (numbers k m) ++ p_q_r)

all_apart : (k m : ℕ) (before : List (List ℕ)) → k + m < 2 ^ 64 → Behind k before → AreApartFrom before (behind_from k m)
all_apart k zero before h b = last_apart k before b
all_apart k (suc m) before h b =
    (b.from k (omega arith) (omega arith), all_apart (k + 1) m (before ++ address (numbered k) ∷ []) (omega arith) (one_behind k before (omega arith) b))

-- the addresses of rows
abbrev pub addresses_of : List Row → List (List ℕ)
addresses_of rs = map (λ (r : Row). address r.name) rs

root_behind : Behind 1 (address (codes "root") ∷ [])
root_behind = record { from = λ i le fits. refl; p = refl; q = refl; r = refl }

pub names_apart : (n : ℕ) → n < 2 ^ 32 → AreApartFrom [] (address (codes "root") ∷ map address (needed_names n))
names_apart n h = (refl, all_apart 1 n (address (codes "root") ∷ []) (omega arith) root_behind)

named_addresses : (rs : List Row) → addresses_of rs ≡ map address (names_of rs)
named_addresses [] = refl
named_addresses (r ∷ rs) = ap (λ v. address r.name ∷ v) (named_addresses rs)

pub rows_apart : (n : ℕ) → 1 ≤ n → n < 2 ^ 32 → AreApartFrom [] (addresses_of (rows n))
rows_apart n low high =
    subst (λ v. AreApartFrom [] (address (codes "root") ∷ v)) (sym (named_addresses (other_rows n) ∙ ap (map address) (names_are n low))) (names_apart n high)
