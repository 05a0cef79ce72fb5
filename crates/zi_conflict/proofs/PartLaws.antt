-- Parts of lists of numbers.
use Rattle.std.proofs.Common.{◌≡◌, ◌⊎◌, ℕ, zero, suc, ◌+◌, ◌<◌, ◌≤◌, Bool, true, false, cond, eqb, List, [], ◌∷◌, ◌++◌, length, map, take, get_or, refl, sym, ap, ◌∙◌, subst, arith, Option, Some, None, inl, inr}
use Rattle.std.specs.Prelude.{slice_get}
use Rattle.std.specs.List.{All}
use Rattle.std.proofs.lemmas.Bool.{false≢true, eqb-true}
use Rattle.std.proofs.lemmas.Bool.Decides.{nat_tests}
use Rattle.std.proofs.lemmas.Option.{none-some, same_Some, get_or_from_slice_get}
use Rattle.std.proofs.lemmas.List.{append-nil, map-append}
use Rattle.std.proofs.lemmas.List.Elements.{All-nil, All-cons, All-head, All-tail}
use Rattle.std.proofs.Math.Seq.{take-suc}
use Rattle.zi_formula.specs.declared.formula.Constraint.{Constraint}
use Rattle.zi_formula.specs.declared.formula.Constraint.TheVariants.{AtMostOne}
use Rattle.zi_formula.specs.declared.formula.Formula.{Formula}
use Rattle.zi_formula.specs.Form.{ConstraintWithin, ItemsOnce, OnceAll, Within, WellFormed, has_variable}
use Rattle.zi_proof.specs.declared.proof.Lemma.{Lemma}
use Rattle.zi_proof.specs.declared.proof.Proof.{Proof}
use Rattle.zi_proof.specs.Accepted.{follows, proves}
use Rattle.zi_conflict.specs.Core.{constraint_at, only, HasNoModel, Ascending, is_hint, AreUsed}
use Rattle.zi_conflict.specs.Resting.{picked, numbers_from, numbers_to, IsPart, RestsOn, IsCoreOf, Rests, marked}
use Rattle.zi_conflict.proofs.RestLaws.{rest_refutes}

pub part_none : (ns : List ℕ) → IsPart [] ns
part_none [] = refl
part_none (n ∷ ns) = inl (part_none ns)

pub part_whole : (ns : List ℕ) → IsPart ns ns
part_whole [] = refl
part_whole (n ∷ ns) = inr (ns, refl, part_whole ns)

pub picked_part : (bs : List Bool) (ns : List ℕ) → IsPart (picked bs ns) ns
picked_part [] ns = part_none ns
picked_part (b ∷ bs) [] = refl
picked_part (true ∷ bs) (n ∷ ns) = inr (picked bs ns, refl, picked_part bs ns)
picked_part (false ∷ bs) (n ∷ ns) = inl (picked_part bs ns)

part_nil : (ms : List ℕ) → IsPart ms [] → ms ≡ []
part_nil ms h = h

pub part_trans : (ls ms ns : List ℕ) → IsPart ls ms → IsPart ms ns → IsPart ls ns
part_trans ls ms [] h g = subst (λ xs. IsPart ls xs) g h
part_trans ls ms (n ∷ ns) h g = elim g [
  | inl left ↦ inl (part_trans ls ms ns h left)
  | inr taken ↦ elim (subst (λ xs. IsPart ls xs) taken.1 h) [
    | inl left ↦ inl (part_trans ls taken.0 ns left taken.2)
    | inr again ↦ inr (again.0, again.1, part_trans again.0 taken.0 ns again.2 taken.2)
  ]
]

part_past : (ms ns : List ℕ) (n : ℕ) → IsPart ms ns → IsPart ms (ns ++ n ∷ [])
part_past ms [] n h = inl h
part_past ms (x ∷ ns) n h = elim h [
  | inl left ↦ inl (part_past ms ns n left)
  | inr taken ↦ inr (taken.0, taken.1, part_past taken.0 ns n taken.2)
]

part_both : (ms ns : List ℕ) (n : ℕ) → IsPart ms ns → IsPart (ms ++ n ∷ []) (ns ++ n ∷ [])
part_both ms [] n h = inr ([], ap (λ xs. xs ++ n ∷ []) h, refl)
part_both ms (x ∷ ns) n h = elim h [
  | inl left ↦ inl (part_both ms ns n left)
  | inr taken ↦ inr (taken.0 ++ n ∷ [], ap (λ xs. xs ++ n ∷ []) taken.1, part_both taken.0 ns n taken.2)
]

pub next_number : (ns : List ℕ) (i n : ℕ) → i < length ns → n ≡ get_or ns i 0 → take (i + 1) ns ≡ take i ns ++ n ∷ []
next_number ns i n l e =
    let s : i + 1 ≡ suc i = omega arith in
    ap (λ k. take k ns) s ∙ take-suc ns i 0 l ∙ ap (λ x. take i ns ++ x ∷ []) (sym e)

pub part_left : (ms ns : List ℕ) (i n : ℕ) → i < length ns → n ≡ get_or ns i 0 → IsPart ms (take i ns) → IsPart ms (take (i + 1) ns)
part_left ms ns i n l e h = subst (IsPart ms) (sym (next_number ns i n l e)) (part_past ms (take i ns) n h)

pub part_taken : (ms ns : List ℕ) (i n : ℕ) → i < length ns → n ≡ get_or ns i 0 → IsPart ms (take i ns) → IsPart (ms ++ n ∷ []) (take (i + 1) ns)
part_taken ms ns i n l e h = subst (IsPart (ms ++ n ∷ [])) (sym (next_number ns i n l e)) (part_both ms (take i ns) n h)

-- what is so of each of the numbers is so of each of a part
pub part_all : (P : ℕ → Type 0) (ms ns : List ℕ) → IsPart ms ns → All P ns → All P ms
part_all P ms [] h a = subst (All P) (sym h) (All-nil P)
part_all P ms (n ∷ ns) h a = elim h [
  | inl left ↦ part_all P ms ns left (All-tail P n ns a)
  | inr taken ↦ subst (All P) (sym taken.1) (All-cons P n taken.0 (All-head P n ns a) (part_all P taken.0 ns taken.2 (All-tail P n ns a)))
]

pub part_ascending : (ms ns : List ℕ) → IsPart ms ns → Ascending ns → Ascending ms
part_ascending ms [] h a = subst Ascending (sym h) tt
part_ascending ms (n ∷ ns) h a = elim h [
  | inl left ↦ part_ascending ms ns left a.1
  | inr taken ↦ subst Ascending (sym taken.1) (part_all (λ m. n < m) taken.0 ns taken.2 a.0, part_ascending taken.0 ns taken.2 a.1)
]

pub part_length : (ms ns : List ℕ) → IsPart ms ns → length ms ≤ length ns
part_length ms [] h = let e = ap length h in omega (arith, e)
part_length ms (n ∷ ns) h = elim h [
  | inl left ↦ (let a = part_length ms ns left in omega (arith, a))
  | inr taken ↦ (let a = part_length taken.0 ns taken.2 in let e = ap length taken.1 in omega (arith, a, e))
]

-- the numbers below one
from_above : (a n k : ℕ) → a < n → All (λ m. a < m) (numbers_from n k)
from_above a n zero l = All-nil (λ m. a < m)
from_above a n (suc k) l = All-cons (λ m. a < m) n (numbers_from (suc n) k) l (from_above a (suc n) k (omega (arith, l)))

from_ascending : (n k : ℕ) → Ascending (numbers_from n k)
from_ascending n zero = tt
from_ascending n (suc k) = (from_above n (suc n) k (omega arith), from_ascending (suc n) k)

pub to_ascending : (k : ℕ) → Ascending (numbers_to k)
to_ascending k = from_ascending 0 k

from_below : (n k e : ℕ) → n + k ≤ e → All (λ m. m < e) (numbers_from n k)
from_below n zero e l = All-nil (λ m. m < e)
from_below n (suc k) e l = All-cons (λ m. m < e) n (numbers_from (suc n) k) (omega (arith, l)) (from_below (suc n) k e (omega (arith, l)))

pub to_below : (k : ℕ) → All (λ m. m < k) (numbers_to k)
to_below k = from_below 0 k k (omega arith)

from_push : (n k : ℕ) → numbers_from n (suc k) ≡ numbers_from n k ++ (n + k) ∷ []
from_push n zero = let z : n ≡ n + 0 = omega arith in ap (λ m. m ∷ []) z
from_push n (suc k) =
    let z : suc n + k ≡ n + suc k = omega arith in
    ap (λ xs. n ∷ xs) (from_push (suc n) k ∙ ap (λ m. numbers_from (suc n) k ++ m ∷ []) z)

pub to_push : (k : ℕ) → numbers_to (k + 1) ≡ numbers_to k ++ k ∷ []
to_push k =
    let s : k + 1 ≡ suc k = omega arith in
    let z : 0 + k ≡ k = omega arith in
    ap numbers_to s ∙ from_push 0 k ∙ ap (λ m. numbers_to k ++ m ∷ []) z

from_length : (n k : ℕ) → length (numbers_from n k) ≡ k
from_length n zero = refl
from_length n (suc k) = ap suc (from_length (suc n) k)

pub to_length : (k : ℕ) → length (numbers_to k) ≡ k
to_length k = from_length 0 k

from_at : (n k i m : ℕ) → slice_get (numbers_from n k) i ≡ Some m → m ≡ n + i
from_at n zero i m e = absurd (none-some m e)
from_at n (suc k) zero m e = let s = same_Some _ _ e in omega (arith, s)
from_at n (suc k) (suc i) m e = let h = from_at (suc n) k i m e in omega (arith, h)

pub to_at : (k i m : ℕ) → slice_get (numbers_to k) i ≡ Some m → m ≡ i
to_at k i m e = let h = from_at 0 k i m e in omega (arith, h)

-- all constraints are those of the numbers below their number
all_from : (whole : List Constraint) (n : ℕ) (cs : List Constraint) → ((i : ℕ) → get_or whole (n + i) (AtMostOne []) ≡ get_or cs i (AtMostOne [])) → map (constraint_at whole) (numbers_from n (length cs)) ≡ cs
all_from whole n [] h = refl
all_from whole n (c ∷ cs) h =
    let z : n ≡ n + 0 = omega arith in
    let head : constraint_at whole n ≡ c = ap (constraint_at whole) z ∙ h 0 in
    ap (λ d. d ∷ map (constraint_at whole) (numbers_from (suc n) (length cs))) head ∙ ap (λ xs. c ∷ xs) (all_from whole (suc n) cs (λ i. (let y : suc n + i ≡ n + suc i = omega arith in ap (constraint_at whole) y ∙ h (suc i))))

pub only_all : (f : Formula) → only f (numbers_to (length f.constraints)) ≡ f
only_all f = ap (λ cs. record { variables = f.variables; constraints = cs }) (all_from f.constraints 0 f.constraints (λ i. (let z : 0 + i ≡ i = omega arith in ap (constraint_at f.constraints) z)))

-- a part of a formula is well formed
within_at : (f : Formula) → Within f → (n : ℕ) → n < length f.constraints → ConstraintWithin f.variables (constraint_at f.constraints n)
within_at f h n l = h n (AtMostOne []) l

once_at : (cs : List Constraint) → OnceAll cs → (n : ℕ) → n < length cs → ItemsOnce (constraint_at cs n)
once_at [] h n l = absurd (omega (arith, l))
once_at (c ∷ cs) h zero l = h.0
once_at (c ∷ cs) h (suc n) l = once_at cs h.1 n (omega (arith, l))

only_within : (f : Formula) (ns : List ℕ) → Within f → All (λ n. n < length f.constraints) ns → Within (only f ns)
only_within f [] h a = All-nil (λ c. ConstraintWithin f.variables c)
only_within f (n ∷ ns) h a =
    All-cons (λ c. ConstraintWithin f.variables c) (constraint_at f.constraints n) (map (constraint_at f.constraints) ns) (within_at f h n (All-head (λ n. n < length f.constraints) n ns a)) (only_within f ns h (All-tail (λ n. n < length f.constraints) n ns a))

only_once : (f : Formula) (ns : List ℕ) → OnceAll f.constraints → All (λ n. n < length f.constraints) ns → OnceAll (map (constraint_at f.constraints) ns)
only_once f [] h a = tt
only_once f (n ∷ ns) h a = (once_at f.constraints h n (All-head (λ n. n < length f.constraints) n ns a), only_once f ns h (All-tail (λ n. n < length f.constraints) n ns a))

map_length : {A B : Type 0} (g : A → B) (xs : List A) → length (map g xs) ≡ length xs
map_length g [] = refl
map_length g (x ∷ xs) = ap suc (map_length g xs)

pub only_length : (f : Formula) (ns : List ℕ) → length (only f ns).constraints ≡ length ns
only_length f ns = map_length (constraint_at f.constraints) ns

pub only_formed : (f : Formula) (ns : List ℕ) → WellFormed f → IsPart ns (numbers_to (length f.constraints)) → WellFormed (only f ns)
only_formed f ns h p =
    let own = part_all (λ n. n < length f.constraints) ns (numbers_to (length f.constraints)) p (to_below (length f.constraints)) in
    record {
      within = only_within f ns h.within own;
      once = only_once f ns h.once own;
      few = (let a = part_length ns (numbers_to (length f.constraints)) p in let b = to_length (length f.constraints) in let c = only_length f ns in let d = h.few in omega (arith, a, b, c, d));
    }

pub part_own : (f : Formula) (ns : List ℕ) → IsPart ns (numbers_to (length f.constraints)) → All (λ n. n < length f.constraints) ns
part_own f ns p = part_all (λ n. n < length f.constraints) ns (numbers_to (length f.constraints)) p (to_below (length f.constraints))

-- items that are picked one after another
picked_nil : (bs : List Bool) → picked bs [] ≡ []
picked_nil [] = refl
picked_nil (b ∷ bs) = refl

pub picked_next : (bs : List Bool) (ns : List ℕ) (i n : ℕ) (b : Bool) → i < length ns → length ns ≤ length bs → n ≡ get_or ns i 0 → b ≡ get_or bs i false → picked bs (take (i + 1) ns) ≡ picked bs (take i ns) ++ cond b (n ∷ []) []
picked_next bs [] i n b l w e f = absurd (omega (arith, l))
picked_next [] (x ∷ ns) i n b l w e f = absurd (omega (arith, w))
picked_next (c ∷ bs) (x ∷ ns) zero n b l w e f = by_mark c f
  where
    by_mark : (d : Bool) → b ≡ d → cond d (x ∷ picked bs []) (picked bs []) ≡ cond b (n ∷ []) []
    by_mark true g = ap (λ y. y ∷ picked bs []) (sym e) ∙ ap (λ ys. n ∷ ys) (picked_nil bs) ∙ sym (ap (λ a. cond a (n ∷ []) []) g)
    by_mark false g = picked_nil bs ∙ sym (ap (λ a. cond a (n ∷ []) []) g)
picked_next (c ∷ bs) (x ∷ ns) (suc i) n b l w e f =
    let z : suc (i + 1) ≡ suc i + 1 = omega arith in
    subst (λ k. picked (c ∷ bs) (take k (x ∷ ns)) ≡ picked (c ∷ bs) (take (suc i) (x ∷ ns)) ++ cond b (n ∷ []) []) z (by_mark c (picked_next bs ns i n b (omega (arith, l)) (omega (arith, w)) e f))
  where
    by_mark : (d : Bool) → picked bs (take (i + 1) ns) ≡ picked bs (take i ns) ++ cond b (n ∷ []) [] → cond d (x ∷ picked bs (take (i + 1) ns)) (picked bs (take (i + 1) ns)) ≡ cond d (x ∷ picked bs (take i ns)) (picked bs (take i ns)) ++ cond b (n ∷ []) []
    by_mark true g = ap (λ ys. x ∷ ys) g
    by_mark false g = g

pub picked_start : (bs : List Bool) (ns : List ℕ) → [] ≡ picked bs (take 0 ns)
picked_start bs ns = sym (picked_nil bs)

pub take_whole : {A : Type 0} (xs : List A) (n : ℕ) → length xs ≤ n → take n xs ≡ xs
take_whole [] zero l = refl
take_whole [] (suc n) l = refl
take_whole (x ∷ xs) zero l = absurd (omega (arith, l))
take_whole (x ∷ xs) (suc n) l = ap (λ ys. x ∷ ys) (take_whole xs n (omega (arith, l)))

pub picked_end : (bs : List Bool) (ns ms : List ℕ) (i : ℕ) → length ns ≤ i → ms ≡ picked bs (take i ns) → ms ≡ picked bs ns
picked_end bs ns ms i l e = e ∙ ap (picked bs) (take_whole ns i l)

pub part_end : (ms ns : List ℕ) (i : ℕ) → length ns ≤ i → IsPart ms (take i ns) → IsPart ms ns
part_end ms ns i l h = subst (IsPart ms) (take_whole ns i l) h

-- each that is picked stands at a place that is marked
picked_at : (bs : List Bool) (ns : List ℕ) (n : ℕ) → has_variable (picked bs ns) n ≡ true → (k : ℕ) × (slice_get ns k ≡ Some n) × (marked bs k ≡ true) × (k < length ns)
picked_at [] ns n h = absurd (false≢true h)
picked_at (b ∷ bs) [] n h = absurd (false≢true h)
picked_at (true ∷ bs) (x ∷ ns) n h = by_test (eqb x n) refl (λ g. picked_at bs ns n g) h
  where
    by_test : (c : Bool) → eqb x n ≡ c → (has_variable (picked bs ns) n ≡ true → (k : ℕ) × (slice_get ns k ≡ Some n) × (marked bs k ≡ true) × (k < length ns)) → cond c true (has_variable (picked bs ns) n) ≡ true → (k : ℕ) × (slice_get (x ∷ ns) k ≡ Some n) × (marked (true ∷ bs) k ≡ true) × (k < suc (length ns))
    by_test true e others g = (0, ap (λ y. Some y) (eqb-true x n e), refl, omega arith)
    by_test false e others g = let r = others g in (suc r.0, r.1, r.2, (let l = r.3 in omega (arith, l)))
picked_at (false ∷ bs) (x ∷ ns) n h = let r = picked_at bs ns n h in (suc r.0, r.1, r.2, (let l = r.3 in omega (arith, l)))

pub rest_is : (p : Proof) (ns ms : List ℕ) (marks : List Bool) → Rests (length ns) p.lemmas marks → ms ≡ picked marks ns → RestsOn p ns ms
rest_is p ns ms marks r e = subst (RestsOn p ns) (sym e) (
  picked_part marks ns,
  λ n h. (let a = picked_at marks ns n h in (a.0, a.1, r.hints a.0 a.3 a.2)),
  λ f g q. rest_refutes f ns p.lemmas marks r g q,
)

-- numbers that each are there
all_has : (P : ℕ → Type 0) (ns : List ℕ) → ((n : ℕ) → has_variable ns n ≡ true → P n) → All P ns
all_has P [] h = All-nil P
all_has P (n ∷ ns) h = All-cons P n ns (h n (ap (λ b. cond b true (has_variable ns n)) (same_test n))) (all_has P ns (λ m e. h m (has_behind m e (eqb n m))))
  where
    same_test : (x : ℕ) → eqb x x ≡ true
    same_test x = grind (arith, nat_tests)

    has_behind : (m : ℕ) → has_variable ns m ≡ true → (b : Bool) → cond b true (has_variable ns m) ≡ true
    has_behind m e true = refl
    has_behind m e false = e

pub first_used : (p : Proof) (k : ℕ) (ms : List ℕ) → RestsOn p (numbers_to k) ms → AreUsed p ms
first_used p k ms r = all_has (λ n. is_hint p.lemmas (suc n) ≡ true) ms (λ n h. (let a = r.1 n h in subst (λ m. is_hint p.lemmas (suc m) ≡ true) (sym (to_at k a.0 n a.1)) a.2))

pub part_or : (ms ns : List ℕ) (i n : ℕ) (b : Bool) → i < length ns → n ≡ get_or ns i 0 → IsPart ms (take i ns) → IsPart (ms ++ cond b (n ∷ []) []) (take (i + 1) ns)
part_or ms ns i n true l e h = part_taken ms ns i n l e h
part_or ms ns i n false l e h = subst (λ xs. IsPart xs (take (i + 1) ns)) (sym (append-nil ms)) (part_left ms ns i n l e h)

-- one constraint more of a formula of its own
pub only_next : (cs : List Constraint) (ns : List ℕ) (i n : ℕ) (d : Constraint) (old new : List Constraint) → i < length ns → n ≡ get_or ns i 0 → slice_get cs n ≡ Some d → old ≡ map (constraint_at cs) (take i ns) → new ≡ old ++ d ∷ [] → new ≡ map (constraint_at cs) (take (i + 1) ns)
only_next cs ns i n d old new l e at h g =
    let one : constraint_at cs n ≡ d = get_or_from_slice_get cs n d (AtMostOne []) at in
    g ∙ ap (λ xs. xs ++ d ∷ []) h ∙ ap (λ y. map (constraint_at cs) (take i ns) ++ y ∷ []) (sym one) ∙ sym (map-append (constraint_at cs) (take i ns) (n ∷ [])) ∙ ap (map (constraint_at cs)) (sym (next_number ns i n l e))

pub only_end : (f : Formula) (ns : List ℕ) (i : ℕ) (cs : List Constraint) → length ns ≤ i → cs ≡ map (constraint_at f.constraints) (take i ns) → record { variables = f.variables; constraints = cs } ≡ only f ns
only_end f ns i cs l e = ap (λ xs. record { variables = f.variables; constraints = xs }) (e ∙ ap (map (constraint_at f.constraints)) (take_whole ns i l))

pub own_at : (k : ℕ) (ns : List ℕ) (i n : ℕ) → All (λ m. m < k) ns → i < length ns → n ≡ get_or ns i 0 → n < k
own_at k ns i n a l e = subst (λ m. m < k) (sym e) (a i 0 l)

-- a part of a part, the others being refuted
pub less_is : (f : Formula) (p : Proof) (ns os ms : List ℕ) → IsPart os ns → follows (only f os) p.lemmas ≡ true → proves [] p.lemmas ≡ true → RestsOn p os ms → IsCoreOf f ns ms
less_is f p ns os ms h g q r = (part_trans ms os ns r.0 h, r.2 f g q)

pub core_more : (f : Formula) (ls ms ns : List ℕ) → IsCoreOf f ls ms → IsCoreOf f ms ns → IsCoreOf f ls ns
core_more f ls ms ns a b = (part_trans ns ms ls b.0 a.0, b.1)

pub first_is : (f : Formula) (p : Proof) (all ms : List ℕ) → all ≡ numbers_to (length f.constraints) → follows f p.lemmas ≡ true → proves [] p.lemmas ≡ true → RestsOn p all ms → IsCoreOf f (numbers_to (length f.constraints)) ms × AreUsed p ms
first_is f p all ms e g q r =
    let s = subst (λ xs. RestsOn p xs ms) e r in
    ((s.0, s.2 f (ap (λ h. follows h p.lemmas) (only_all f) ∙ g) q), first_used p (length f.constraints) ms s)

pub used_part : (p : Proof) (ms ns : List ℕ) → IsPart ns ms → AreUsed p ms → AreUsed p ns
used_part p ms ns h a = part_all (λ n. is_hint p.lemmas (suc n) ≡ true) ns ms h a
