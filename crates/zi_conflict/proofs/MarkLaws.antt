-- Marks that are set one after another.
use Rattle.std.proofs.Common.{◌≡◌, ◌≢◌, ◌⊎◌, ℕ, zero, suc, ◌+◌, ◌-◌, ◌<◌, ◌≤◌, Bool, true, false, cond, ◌&&◌, ◌||◌, eqb, List, [], ◌∷◌, ◌++◌, length, take, drop, set, get_or, replicate, refl, sym, ap, ◌∙◌, subst, arith, inl, inr}
use Rattle.std.specs.Prelude.{nat_lt, slice_index_or}
use Rattle.std.proofs.lemmas.Bool.{false≢true, cases_lt, lt-ltb, ltb-false, or_left, or_right, or_from, and_parts, and_from, and_left, and_right, cases_eq, eqb-true}
use Rattle.std.proofs.lemmas.Bool.Decides.{nat_tests}
use Rattle.std.proofs.lemmas.List.{get_or-replicate, get_or-set_same, get_or-set_other, length-set, length-replicate}
use Rattle.std.proofs.Math.Seq.{take-suc, drop-cons}
use Rattle.zi_text.proofs.ListLaws.{by_or}
use Rattle.zi_formula.specs.Form.{has_variable}
use Rattle.zi_proof.specs.declared.proof.Lemma.{Lemma}
use Rattle.zi_conflict.specs.Core.{is_hint}
use Rattle.zi_conflict.specs.Resting.{marked, AreMarked, IsClosed, Rests, Begun}

or_nothing : (a b : Bool) → b ≡ false → a ≡ a || b
or_nothing true b e = refl
or_nothing false b e = sym e

not_below : (n limit : ℕ) → limit ≤ n → nat_lt n limit ≡ false
not_below n limit l = grind (arith, nat_tests)

cond_as_or : (b c : Bool) → cond b true c ≡ b || c
cond_as_or true c = refl
cond_as_or false c = refl

apart_tests : (x y : ℕ) → x ≢ y → eqb x y ≡ false
apart_tests x y n = grind (arith, nat_tests)

same_test : (x : ℕ) → eqb x x ≡ true
same_test x = grind (arith, nat_tests)

-- nothing is marked
pub marks_none : (limit : ℕ) (hints : List ℕ) (ms : List Bool) → ((n : ℕ) → n < limit → has_variable hints (suc n) ≡ false) → AreMarked limit hints ms ms
marks_none limit hints ms h = record {
  len = refl;
  are = λ n. or_nothing (marked ms n) (nat_lt n limit && has_variable hints (suc n)) (elim (cases_lt n limit) [
    | inl l ↦ and_right (nat_lt n limit) (has_variable hints (suc n)) (h n l)
    | inr l ↦ and_left (nat_lt n limit) (has_variable hints (suc n)) (not_below n limit l)
  ]);
}

one_hint : (h n : ℕ) → h ≢ n → has_variable (h ∷ []) n ≡ false
one_hint h n e = ap (λ b. cond b true false) (apart_tests h n e)

pub marks_zero : (limit : ℕ) (ms : List Bool) (hint : ℕ) → hint ≡ 0 → AreMarked limit (hint ∷ []) ms ms
marks_zero limit ms hint e = marks_none limit (hint ∷ []) ms (λ n l. one_hint hint (suc n) (λ f. omega (arith, e, f)))

pub marks_past : (limit : ℕ) (ms : List Bool) (hint place : ℕ) → hint ≡ suc place → limit ≤ place → AreMarked limit (hint ∷ []) ms ms
marks_past limit ms hint place e p = marks_none limit (hint ∷ []) ms (λ n l. one_hint hint (suc n) (λ f. omega (arith, e, f, p, l)))

-- one is
marks_at : (limit place n : ℕ) (ms : List Bool) → place < limit → limit ≤ length ms → marked (set ms place true) n ≡ marked ms n || (nat_lt n limit && has_variable (suc place ∷ []) (suc n))
marks_at limit place n ms l w = elim (cases_eq n place) [
  | inl e ↦ subst (λ k. marked (set ms place true) k ≡ marked ms k || (nat_lt k limit && has_variable (suc place ∷ []) (suc k))) (sym e)
      (get_or-set_same ms place true false (omega (arith, l, w)) ∙ sym (or_right (marked ms place) (nat_lt place limit && has_variable (suc place ∷ []) (suc place)) (and_from (nat_lt place limit) (has_variable (suc place ∷ []) (suc place)) (lt-ltb place limit l) (ap (λ b. cond b true false) (same_test (suc place))))))
  | inr apart ↦ get_or-set_other ms place n true false apart ∙ or_nothing (marked ms n) (nat_lt n limit && has_variable (suc place ∷ []) (suc n)) (and_right (nat_lt n limit) (has_variable (suc place ∷ []) (suc n)) (one_hint (suc place) (suc n) (λ f. apart (omega (arith, f)))))
]

pub marks_one : (limit : ℕ) (ms : List Bool) (hint place : ℕ) → hint ≡ suc place → place < limit → limit ≤ length ms → AreMarked limit (hint ∷ []) ms (set ms place true)
marks_one limit ms hint place e l w = subst (λ h. AreMarked limit (h ∷ []) ms (set ms place true)) (sym e) (record { len = length-set ms place true; are = λ n. marks_at limit place n ms l w })

-- one hint more
has_push : (hs : List ℕ) (h x : ℕ) → has_variable (hs ++ h ∷ []) x ≡ has_variable hs x || has_variable (h ∷ []) x
has_push [] h x = refl
has_push (y ∷ hs) h x = by_test (eqb y x) (has_push hs h x)
  where
    by_test : (b : Bool) → has_variable (hs ++ h ∷ []) x ≡ has_variable hs x || has_variable (h ∷ []) x → cond b true (has_variable (hs ++ h ∷ []) x) ≡ cond b true (has_variable hs x) || has_variable (h ∷ []) x
    by_test true e = refl
    by_test false e = e

both_marked : (a b c d : Bool) → (a || (b && c)) || (b && d) ≡ a || (b && (c || d))
both_marked true b c d = refl
both_marked false true c d = refl
both_marked false false c d = refl

pub marks_more : (limit : ℕ) (hs : List ℕ) (i h : ℕ) (old mid new : List Bool) → i < length hs → h ≡ get_or hs i 0 → AreMarked limit (take i hs) old mid → AreMarked limit (h ∷ []) mid new → AreMarked limit (take (i + 1) hs) old new
marks_more limit hs i h old mid new l e a b =
    let s : i + 1 ≡ suc i = omega arith in
    let front : take (i + 1) hs ≡ take i hs ++ h ∷ [] = ap (λ n. take n hs) s ∙ take-suc hs i 0 l ∙ ap (λ x. take i hs ++ x ∷ []) (sym e) in
    record {
      len = b.len ∙ a.len;
      are = λ n. b.are n ∙ ap (λ m. m || (nat_lt n limit && has_variable (h ∷ []) (suc n))) (a.are n)
          ∙ both_marked (marked old n) (nat_lt n limit) (has_variable (take i hs) (suc n)) (has_variable (h ∷ []) (suc n))
          ∙ ap (λ c. marked old n || (nat_lt n limit && c)) (sym (has_push (take i hs) h (suc n)) ∙ ap (λ xs. has_variable xs (suc n)) (sym front));
    }

-- what was marked is, and behind the place nothing more is
marks_keep : (limit : ℕ) (hs : List ℕ) (old new : List Bool) (n : ℕ) → AreMarked limit hs old new → marked old n ≡ true → marked new n ≡ true
marks_keep limit hs old new n a e = a.are n ∙ or_left (marked old n) (nat_lt n limit && has_variable hs (suc n)) e

marks_behind : (limit : ℕ) (hs : List ℕ) (old new : List Bool) (n : ℕ) → AreMarked limit hs old new → limit ≤ n → marked new n ≡ marked old n
marks_behind limit hs old new n a l = a.are n ∙ sym (or_nothing (marked old n) (nat_lt n limit && has_variable hs (suc n)) (and_left (nat_lt n limit) (has_variable hs (suc n)) (not_below n limit l)))

closed_keeps : (limit : ℕ) (hs : List ℕ) (old new : List Bool) (n : ℕ) (ms : List Lemma) → AreMarked limit hs old new → limit ≤ n → IsClosed old n ms → IsClosed new n ms
closed_keeps limit hs old new n [] a l h = tt
closed_keeps limit hs old new n (m ∷ ms) a l h = (
  λ w k b p. marks_keep limit hs old new k a (h.0 (sym (marks_behind limit hs old new n a l) ∙ w) k b p),
  closed_keeps limit hs old new (suc n) ms a (omega (arith, l)) h.1,
)

-- one lemma more is gone back over
closed_next : (n : ℕ) (m : Lemma) (ms : List Lemma) (old new : List Bool) → IsClosed old (suc n) ms → (marked old n ≡ true → AreMarked n m.hints old new) → (marked old n ≡ false → new ≡ old) → IsClosed new n (m ∷ ms)
closed_next n m ms old new h g e = by_mark (marked old n) refl
  where
    by_mark : (b : Bool) → marked old n ≡ b → IsClosed new n (m ∷ ms)
    by_mark true y = (
      λ w k b p. (g y).are k ∙ or_right (marked old k) (nat_lt k n && has_variable m.hints (suc k)) (and_from (nat_lt k n) (has_variable m.hints (suc k)) (lt-ltb k n b) p),
      closed_keeps n m.hints old new (suc n) ms (g y) (omega arith) h,
    )
    by_mark false y = subst (λ x. IsClosed x n (m ∷ ms)) (sym (e y)) ((λ w. absurd (false≢true (sym y ∙ w))), h)

hint_here : (m : Lemma) (ms : List Lemma) (h : ℕ) → has_variable m.hints h ≡ true → is_hint (m ∷ ms) h ≡ true
hint_here m ms h e = or_left (has_variable m.hints h) (is_hint ms h) e

hint_at : (ms : List Lemma) (i : ℕ) (m : Lemma) (h : ℕ) → i < length ms → m ≡ get_or ms i m → has_variable m.hints h ≡ true → is_hint ms h ≡ true
hint_at [] i m h l e p = absurd (omega (arith, l))
hint_at (x ∷ ms) zero m h l e p = hint_here x ms h (ap (λ (y : Lemma). has_variable y.hints h) (sym e) ∙ p)
hint_at (x ∷ ms) (suc i) m h l e p = or_right (has_variable x.hints h) (is_hint ms h) (hint_at ms i m h (omega (arith, l)) e p)

-- how far it has been gone back: this many lemmas
pub record GoneBack (count : ℕ) (ms : List Lemma) (k : ℕ) (marks : List Bool) : Type 0 where
  pub len : length marks ≡ count + length ms
  pub closed : (j : ℕ) → j + k ≡ length ms → IsClosed marks (count + j) (drop j ms)
  pub last : (n : ℕ) → suc n ≡ length ms → marked marks (count + n) ≡ true
  pub hints : (n : ℕ) → n < count → marked marks n ≡ true → is_hint ms (suc n) ≡ true

drop_whole : {A : Type 0} (xs : List A) → drop (length xs) xs ≡ []
drop_whole [] = refl
drop_whole (x ∷ xs) = drop_whole xs

pub back_none : (count len : ℕ) (ms : List Lemma) (marks : List Bool) → len ≡ length ms → Begun count len marks → GoneBack count ms 0 marks
back_none count len ms marks e h = record {
  len = h.len ∙ ap (λ n. count + n) e;
  closed = λ j s. (let w : j ≡ length ms = omega (arith, s) in subst (λ n. IsClosed marks (count + n) (drop n ms)) (sym w) (subst (λ xs. IsClosed marks (count + length ms) xs) (sym (drop_whole ms)) tt));
  last = λ n s. h.last n (s ∙ sym e);
  hints = λ n l w. absurd (false≢true (sym (h.none n l) ∙ w));
}

kept_or : (n : ℕ) (hs : List ℕ) (old new : List Bool) (k : ℕ) → (marked old n ≡ true → AreMarked n hs old new) → (marked old n ≡ false → new ≡ old) → marked old k ≡ true → marked new k ≡ true
kept_or n hs old new k g e w = by_mark (marked old n) refl
  where
    by_mark : (b : Bool) → marked old n ≡ b → marked new k ≡ true
    by_mark true y = marks_keep n hs old new k (g y) w
    by_mark false y = ap (λ x. marked x k) (e y) ∙ w

len_or : (n : ℕ) (hs : List ℕ) (old new : List Bool) → (marked old n ≡ true → AreMarked n hs old new) → (marked old n ≡ false → new ≡ old) → length new ≡ length old
len_or n hs old new g e = by_mark (marked old n) refl
  where
    by_mark : (b : Bool) → marked old n ≡ b → length new ≡ length old
    by_mark true y = (g y).len
    by_mark false y = ap length (e y)

from_or : (n : ℕ) (hs : List ℕ) (old new : List Bool) (k : ℕ) → (marked old n ≡ true → AreMarked n hs old new) → (marked old n ≡ false → new ≡ old) → marked new k ≡ true → (marked old k ≡ true) ⊎ (has_variable hs (suc k) ≡ true)
from_or n hs old new k g e w = by_mark (marked old n) refl
  where
    by_mark : (b : Bool) → marked old n ≡ b → (marked old k ≡ true) ⊎ (has_variable hs (suc k) ≡ true)
    by_mark true y = by_or (marked old k) (nat_lt k n && has_variable hs (suc k)) (sym ((g y).are k) ∙ w) (λ o. inl o) (λ o. inr (and_parts (nat_lt k n) (has_variable hs (suc k)) o).1)
    by_mark false y = inl (sym (ap (λ x. marked x k) (e y)) ∙ w)

pub back_more : (count k i len place : ℕ) (ms : List Lemma) (m : Lemma) (old new : List Bool) → len ≡ length ms → k < len → i ≡ len - 1 - k → place ≡ count + i → m ≡ get_or ms i m → GoneBack count ms k old → (marked old place ≡ true → AreMarked place m.hints old new) → (marked old place ≡ false → new ≡ old) → GoneBack count ms (k + 1) new
back_more count k i len place ms m old new w l is at here h g e =
    let within : i < length ms = omega (arith, w, l, is) in
    let left : drop i ms ≡ m ∷ drop (suc i) ms = drop-cons ms i m within ∙ ap (λ x. x ∷ drop (suc i) ms) (sym here) in
    let one : suc (count + i) ≡ count + suc i = omega arith in
    let gone : suc i + k ≡ length ms = omega (arith, w, l, is) in
    let g2 : marked old (count + i) ≡ true → AreMarked (count + i) m.hints old new = subst (λ p. marked old p ≡ true → AreMarked p m.hints old new) at g in
    let e2 : marked old (count + i) ≡ false → new ≡ old = subst (λ p. marked old p ≡ false → new ≡ old) at e in
    let next : IsClosed new (count + i) (m ∷ drop (suc i) ms) = closed_next (count + i) m (drop (suc i) ms) old new (subst (λ p. IsClosed old p (drop (suc i) ms)) (sym one) (h.closed (suc i) gone)) g2 e2 in
    record {
      len = len_or (count + i) m.hints old new g2 e2 ∙ h.len;
      closed = λ j s. (let same : j ≡ i = omega (arith, s, w, l, is) in subst (λ n. IsClosed new (count + n) (drop n ms)) (sym same) (subst (λ xs. IsClosed new (count + i) xs) (sym left) next));
      last = λ n s. kept_or (count + i) m.hints old new (count + n) g2 e2 (h.last n s);
      hints = λ n b s. elim (from_or (count + i) m.hints old new n g2 e2 s) [ inl o ↦ h.hints n b o | inr o ↦ hint_at ms i m (suc n) within here o ];
    }

pub back_all : (count k len : ℕ) (ms : List Lemma) (marks : List Bool) → len ≡ length ms → len ≤ k → k ≤ len → GoneBack count ms k marks → Rests count ms marks
back_all count k len ms marks w l g h =
    let s : 0 + k ≡ length ms = omega (arith, w, l, g) in
    let z : count + 0 ≡ count = omega arith in
    record {
      len = h.len;
      closed = subst (λ n. IsClosed marks n ms) z (h.closed 0 s);
      last = h.last;
      hints = h.hints;
    }

-- the last alone
pub begun_none : (count len : ℕ) (marks : List Bool) → marks ≡ replicate (count + len) false → len ≤ 0 → Begun count len marks
begun_none count len marks e l = record {
  len = ap length e ∙ length-replicate (count + len) false;
  last = λ n s. absurd (omega (arith, s, l));
  none = λ n b. ap (λ ms. marked ms n) e ∙ get_or-replicate (count + len) n false false (omega (arith, b));
}

pub begun_last : (count len place : ℕ) (marks : List Bool) → marks ≡ replicate (count + len) false → 0 < len → place ≡ count + len - 1 → Begun count len (set marks place true)
begun_last count len place marks e l p =
    let all : length marks ≡ count + len = ap length e ∙ length-replicate (count + len) false in
    record {
      len = length-set marks place true ∙ all;
      last = λ n s. (let same : count + n ≡ place = omega (arith, s, p, l) in subst (λ k. marked (set marks place true) k ≡ true) (sym same) (get_or-set_same marks place true false (omega (arith, all, p, l))));
      none = λ n b. get_or-set_other marks place n true false (λ f. omega (arith, f, b, p, l)) ∙ ap (λ ms. marked ms n) e ∙ get_or-replicate (count + len) n false false (omega (arith, b));
    }

take_past : {A : Type 0} (xs : List A) (n : ℕ) → length xs ≤ n → take n xs ≡ xs
take_past [] zero l = refl
take_past [] (suc n) l = refl
take_past (x ∷ xs) zero l = absurd (omega (arith, l))
take_past (x ∷ xs) (suc n) l = ap (λ ys. x ∷ ys) (take_past xs n (omega (arith, l)))

pub marks_end : (limit : ℕ) (hs : List ℕ) (i : ℕ) (old new : List Bool) → length hs ≤ i → AreMarked limit (take i hs) old new → AreMarked limit hs old new
marks_end limit hs i old new l h = subst (λ xs. AreMarked limit xs old new) (take_past hs i l) h
