-- Constraints that are held flat: what stands at a place, and one more behind them.
use Rattle.std.proofs.Common.{◌≡◌, ℕ, zero, suc, ◌+◌, ◌-◌, ◌<◌, ◌≤◌, List, [], ◌∷◌, ◌++◌, length, get_or, take, drop, refl, sym, ap, ◌∙◌, subst, arith, length-append}
use Rattle.std.specs.Prelude.{Some, slice_get, slice_range}
use Rattle.std.specs.List.{All}
use Rattle.std.proofs.Math.Seq.{drop-append_seam, take-length}
use Rattle.std.proofs.lemmas.List.{take-append-le, drop-append-le, length-drop, append-nil, get_or_append_left, get_or_push}
use Rattle.std.proofs.lemmas.List.Elements.{All-nil, All-cons}
use Rattle.zi_formula.specs.declared.formula.Lit.{Lit}
use Rattle.zi_formula.specs.declared.formula.Constraint.{Constraint}
use Rattle.zi_formula.specs.declared.formula.Constraint.TheVariants.{Clause, AtMostOne}
use Rattle.zi_formula.specs.declared.constraints.End.{End}
use Rattle.zi_formula.specs.declared.constraints.End.TheVariants as end
use Rattle.zi_formula.specs.declared.constraints.Group.{Group}
use Rattle.zi_formula.specs.Places.{group_at, lits_to, lits_after, IsThere}
use Rattle.zi_formula.specs.Flat.{constraint_at, constraints_from, Stands, AllStand}

-- a range of what only grew
range_front : {A : Type 0} (ls ms : List A) (a n : ℕ) → a ≤ n → n ≤ length ls → slice_range (ls ++ ms) a n ≡ slice_range ls a n
range_front ls ms a n low high =
    let fewer : a ≤ length ls = omega (arith, low, high) in
    let rest : length (drop a ls) ≡ length ls - a = length-drop a ls in
    let within : n - a ≤ length (drop a ls) = omega (arith, rest, high) in
    ap (take (n - a)) (drop-append-le a ls ms fewer) ∙ take-append-le (n - a) (drop a ls) ms within

range_back : {A : Type 0} (ls ms : List A) (n : ℕ) → n ≡ length ls + length ms → slice_range (ls ++ ms) (length ls) n ≡ ms
range_back ls ms n e =
    let some : n - length ls ≡ length ms = omega (arith, e) in
    ap (λ xs. take (n - length ls) xs) (drop-append_seam ls ms) ∙ ap (λ k. take k ms) some ∙ take-length ms

get_front : (gs hs : List Group) (g : ℕ) → g < length gs → group_at (gs ++ hs) g ≡ group_at gs g
get_front gs hs g l = get_or_append_left gs hs (record { lits = 0; start = 0; end = 0 }) g l

get_back : (gs : List Group) (x : Group) → group_at (gs ++ x ∷ []) (length gs) ≡ x
get_back gs x = get_or_push gs x (record { lits = 0; start = 0; end = 0 }) (length gs) refl

-- what stood there stands where all only grew
to_grown : (ls : List Lit) (xs : List ℕ) (gs hs : List Group) (a : ℕ) (e : End) → Stands (length ls) (length xs) gs a e → lits_to (gs ++ hs) e ≡ lits_to gs e
to_grown ls xs gs hs a (end.Clause n) s = refl
to_grown ls xs gs hs a (end.AtMostOne g) s = ap (λ (x : Group). x.lits) (get_front gs hs g s.0)

at_grown : (ls ms : List Lit) (xs ys : List ℕ) (gs hs : List Group) (a : ℕ) (e : End) → Stands (length ls) (length xs) gs a e → constraint_at (ls ++ ms) (xs ++ ys) (gs ++ hs) a e ≡ constraint_at ls xs gs a e
at_grown ls ms xs ys gs hs a (end.Clause n) s = ap Clause (range_front ls ms a n s.0 s.1)
at_grown ls ms xs ys gs hs a (end.AtMostOne g) s =
    ap (λ (x : Group). AtMostOne (slice_range (xs ++ ys) x.start x.end)) (get_front gs hs g s.0)
    ∙ ap AtMostOne (range_front xs ys (group_at gs g).start (group_at gs g).end s.2 s.3)

stands_grown : (l m x y : ℕ) (gs hs : List Group) (a : ℕ) (e : End) → l ≤ m → x ≤ y → Stands l x gs a e → Stands m y (gs ++ hs) a e
stands_grown l m x y gs hs a (end.Clause n) p q s = (s.0, omega (arith, s.1, p))
stands_grown l m x y gs hs a (end.AtMostOne g) p q s =
    let len : length (gs ++ hs) ≡ length gs + length hs = length-append gs hs in
    let low = s.0 in
    let high = s.3 in
    let most : (group_at gs g).end ≤ y = omega (arith, high, q) in
    let P : Group → Type 0 = λ z. (z.lits ≡ a) × (z.start ≤ z.end) × (z.end ≤ y) in
    let r : P (group_at (gs ++ hs) g) = subst P (sym (get_front gs hs g s.0)) (s.1, s.2, most) in
    (omega (arith, len, low), r.0, r.1, r.2)

from_grown : (ls ms : List Lit) (xs ys : List ℕ) (gs hs : List Group) (a : ℕ) (es : List End) → AllStand (length ls) (length xs) gs a es → constraints_from (ls ++ ms) (xs ++ ys) (gs ++ hs) a es ≡ constraints_from ls xs gs a es
from_grown ls ms xs ys gs hs a [] s = refl
from_grown ls ms xs ys gs hs a (e ∷ es) s =
    ap (λ c. c ∷ constraints_from (ls ++ ms) (xs ++ ys) (gs ++ hs) (lits_to (gs ++ hs) e) es) (at_grown ls ms xs ys gs hs a e s.0)
    ∙ ap (λ n. constraint_at ls xs gs a e ∷ constraints_from (ls ++ ms) (xs ++ ys) (gs ++ hs) n es) (to_grown ls xs gs hs a e s.0)
    ∙ ap (λ cs. constraint_at ls xs gs a e ∷ cs) (from_grown ls ms xs ys gs hs (lits_to gs e) es s.1)

all_grown : (ls ms : List Lit) (xs ys : List ℕ) (gs hs : List Group) (a : ℕ) (es : List End) → AllStand (length ls) (length xs) gs a es → AllStand (length (ls ++ ms)) (length (xs ++ ys)) (gs ++ hs) a es
all_grown ls ms xs ys gs hs a [] s = tt
all_grown ls ms xs ys gs hs a (e ∷ es) s =
    let l : length (ls ++ ms) ≡ length ls + length ms = length-append ls ms in
    let x : length (xs ++ ys) ≡ length xs + length ys = length-append xs ys in (
      stands_grown (length ls) (length (ls ++ ms)) (length xs) (length (xs ++ ys)) gs hs a e (omega (arith, l)) (omega (arith, x)) s.0,
      subst (λ n. AllStand (length (ls ++ ms)) (length (xs ++ ys)) (gs ++ hs) n es) (sym (to_grown ls xs gs hs a e s.0)) (all_grown ls ms xs ys gs hs (lits_to gs e) es s.1),
    )

after_grown : (ls : List Lit) (xs : List ℕ) (gs hs : List Group) (a : ℕ) (es : List End) → AllStand (length ls) (length xs) gs a es → lits_after (gs ++ hs) a es ≡ lits_after gs a es
after_grown ls xs gs hs a [] s = refl
after_grown ls xs gs hs a (e ∷ es) s =
    ap (λ n. lits_after (gs ++ hs) n es) (to_grown ls xs gs hs a e s.0) ∙ after_grown ls xs gs hs (lits_to gs e) es s.1

-- one end more
from_last : (ls : List Lit) (xs : List ℕ) (gs : List Group) (a : ℕ) (es : List End) (e : End) → constraints_from ls xs gs a (es ++ e ∷ []) ≡ constraints_from ls xs gs a es ++ constraint_at ls xs gs (lits_after gs a es) e ∷ []
from_last ls xs gs a [] e = refl
from_last ls xs gs a (d ∷ es) e = ap (λ cs. constraint_at ls xs gs a d ∷ cs) (from_last ls xs gs (lits_to gs d) es e)

all_last : (l x : ℕ) (gs : List Group) (a : ℕ) (es : List End) (e : End) → AllStand l x gs a es → Stands l x gs (lits_after gs a es) e → AllStand l x gs a (es ++ e ∷ [])
all_last l x gs a [] e s t = (t, tt)
all_last l x gs a (d ∷ es) e s t = (s.0, all_last l x gs (lits_to gs d) es e s.1 t)

pub after_last : (gs : List Group) (a : ℕ) (es : List End) (e : End) → lits_after gs a (es ++ e ∷ []) ≡ lits_to gs e
after_last gs a [] e = refl
after_last gs a (d ∷ es) e = after_last gs (lits_to gs d) es e

-- the list with one constraint more, and that it stands
pub record Pushed (ls : List Lit) (xs : List ℕ) (gs : List Group) (es : List End) (cs : List Constraint) (c : Constraint) : Type 0 where
  pub list : constraints_from ls xs gs 0 es ≡ cs ++ c ∷ []
  pub stand : AllStand (length ls) (length xs) gs 0 es
  pub last : lits_after gs 0 es ≡ length ls

pushed : (ls ms : List Lit) (xs ys : List ℕ) (gs hs : List Group) (es : List End) (e : End)
    → AllStand (length ls) (length xs) gs 0 es → lits_after gs 0 es ≡ length ls
    → Stands (length (ls ++ ms)) (length (xs ++ ys)) (gs ++ hs) (length ls) e → lits_to (gs ++ hs) e ≡ length (ls ++ ms)
    → Pushed (ls ++ ms) (xs ++ ys) (gs ++ hs) (es ++ e ∷ []) (constraints_from ls xs gs 0 es) (constraint_at (ls ++ ms) (xs ++ ys) (gs ++ hs) (length ls) e)
pushed ls ms xs ys gs hs es e s l t m =
    let here : lits_after (gs ++ hs) 0 es ≡ length ls = after_grown ls xs gs hs 0 es s ∙ l in
    record {
      list = from_last (ls ++ ms) (xs ++ ys) (gs ++ hs) 0 es e
          ∙ ap (λ cs. cs ++ constraint_at (ls ++ ms) (xs ++ ys) (gs ++ hs) (lits_after (gs ++ hs) 0 es) e ∷ []) (from_grown ls ms xs ys gs hs 0 es s)
          ∙ ap (λ n. constraints_from ls xs gs 0 es ++ constraint_at (ls ++ ms) (xs ++ ys) (gs ++ hs) n e ∷ []) here;
      stand = all_last (length (ls ++ ms)) (length (xs ++ ys)) (gs ++ hs) 0 es e (all_grown ls ms xs ys gs hs 0 es s) (subst (λ n. Stands (length (ls ++ ms)) (length (xs ++ ys)) (gs ++ hs) n e) (sym here) t);
      last = after_last (gs ++ hs) 0 es e ∙ m;
    }

-- one clause more
pub clause_pushed : (ls ms ls2 : List Lit) (xs : List ℕ) (gs : List Group) (es es2 : List End) (n : ℕ)
    → AllStand (length ls) (length xs) gs 0 es → lits_after gs 0 es ≡ length ls
    → ls2 ≡ ls ++ ms → es2 ≡ es ++ end.Clause n ∷ [] → n ≡ length ls + length ms
    → Pushed ls2 xs gs es2 (constraints_from ls xs gs 0 es) (Clause ms)
clause_pushed ls ms ls2 xs gs es es2 n s l p q m =
    let len : length (ls ++ ms) ≡ length ls + length ms = length-append ls ms in
    let cs : List Constraint = constraints_from ls xs gs 0 es in
    let a : Pushed (ls ++ ms) (xs ++ []) (gs ++ []) (es ++ end.Clause n ∷ []) cs (Clause (slice_range (ls ++ ms) (length ls) n)) = pushed ls ms xs [] gs [] es (end.Clause n) s l (omega (arith, m), omega (arith, m, len)) (m ∙ sym len) in
    let b : Pushed (ls ++ ms) xs (gs ++ []) (es ++ end.Clause n ∷ []) cs (Clause (slice_range (ls ++ ms) (length ls) n)) = subst (λ z. Pushed (ls ++ ms) z (gs ++ []) (es ++ end.Clause n ∷ []) cs (Clause (slice_range (ls ++ ms) (length ls) n))) (append-nil xs) a in
    let d : Pushed (ls ++ ms) xs gs (es ++ end.Clause n ∷ []) cs (Clause (slice_range (ls ++ ms) (length ls) n)) = subst (λ z. Pushed (ls ++ ms) xs z (es ++ end.Clause n ∷ []) cs (Clause (slice_range (ls ++ ms) (length ls) n))) (append-nil gs) b in
    let f : Pushed (ls ++ ms) xs gs (es ++ end.Clause n ∷ []) cs (Clause ms) = subst (λ z. Pushed (ls ++ ms) xs gs (es ++ end.Clause n ∷ []) cs (Clause z)) (range_back ls ms n m) d in
    let g : Pushed ls2 xs gs (es ++ end.Clause n ∷ []) cs (Clause ms) = subst (λ z. Pushed z xs gs (es ++ end.Clause n ∷ []) cs (Clause ms)) (sym p) f in
    subst (λ z. Pushed ls2 xs gs z cs (Clause ms)) (sym q) g

-- one group more
pub group_pushed : (ls : List Lit) (xs ys xs2 : List ℕ) (gs gs2 : List Group) (es es2 : List End) (x : Group) (g : ℕ)
    → AllStand (length ls) (length xs) gs 0 es → lits_after gs 0 es ≡ length ls
    → xs2 ≡ xs ++ ys → gs2 ≡ gs ++ x ∷ [] → es2 ≡ es ++ end.AtMostOne g ∷ [] → g ≡ length gs
    → x.lits ≡ length ls → x.start ≡ length xs → x.end ≡ length xs + length ys
    → Pushed ls xs2 gs2 es2 (constraints_from ls xs gs 0 es) (AtMostOne ys)
group_pushed ls xs ys xs2 gs gs2 es es2 x g s l p q r i j k m =
    let len : length (xs ++ ys) ≡ length xs + length ys = length-append xs ys in
    let more : length (gs ++ x ∷ []) ≡ length gs + 1 = length-append gs (x ∷ []) in
    let cs : List Constraint = constraints_from ls xs gs 0 es in
    let at : group_at (gs ++ x ∷ []) g ≡ x = ap (group_at (gs ++ x ∷ [])) i ∙ get_back gs x in
    let P : Group → Type 0 = λ z. (z.lits ≡ length ls) × (z.start ≤ z.end) × (z.end ≤ length (xs ++ ys)) in
    let h : P (group_at (gs ++ x ∷ []) g) = subst P (sym at) (j, omega (arith, k, m), omega (arith, m, len)) in
    let stands : Stands (length ls) (length (xs ++ ys)) (gs ++ x ∷ []) (length ls) (end.AtMostOne g) = (omega (arith, i, more), h.0, h.1, h.2) in
    let same : ls ++ [] ≡ ls = append-nil ls in
    let a : Pushed (ls ++ []) (xs ++ ys) (gs ++ x ∷ []) (es ++ end.AtMostOne g ∷ []) cs (AtMostOne (slice_range (xs ++ ys) (group_at (gs ++ x ∷ []) g).start (group_at (gs ++ x ∷ []) g).end)) =
    pushed ls [] xs ys gs (x ∷ []) es (end.AtMostOne g) s l (subst (λ z. Stands (length z) (length (xs ++ ys)) (gs ++ x ∷ []) (length ls) (end.AtMostOne g)) (sym same) stands) (h.0 ∙ ap length (sym same)) in
    let b : Pushed ls (xs ++ ys) (gs ++ x ∷ []) (es ++ end.AtMostOne g ∷ []) cs (AtMostOne (slice_range (xs ++ ys) (group_at (gs ++ x ∷ []) g).start (group_at (gs ++ x ∷ []) g).end)) =
    subst (λ z. Pushed z (xs ++ ys) (gs ++ x ∷ []) (es ++ end.AtMostOne g ∷ []) cs (AtMostOne (slice_range (xs ++ ys) (group_at (gs ++ x ∷ []) g).start (group_at (gs ++ x ∷ []) g).end))) same a in
    let own : slice_range (xs ++ ys) (group_at (gs ++ x ∷ []) g).start (group_at (gs ++ x ∷ []) g).end ≡ ys =
    ap (λ (z : Group). slice_range (xs ++ ys) z.start z.end) at ∙ ap (λ n. slice_range (xs ++ ys) n x.end) k ∙ range_back xs ys x.end m in
    let d : Pushed ls (xs ++ ys) (gs ++ x ∷ []) (es ++ end.AtMostOne g ∷ []) cs (AtMostOne ys) = subst (λ z. Pushed ls (xs ++ ys) (gs ++ x ∷ []) (es ++ end.AtMostOne g ∷ []) cs (AtMostOne z)) own b in
    let e : Pushed ls xs2 (gs ++ x ∷ []) (es ++ end.AtMostOne g ∷ []) cs (AtMostOne ys) = subst (λ z. Pushed ls z (gs ++ x ∷ []) (es ++ end.AtMostOne g ∷ []) cs (AtMostOne ys)) (sym p) d in
    let f : Pushed ls xs2 gs2 (es ++ end.AtMostOne g ∷ []) cs (AtMostOne ys) = subst (λ z. Pushed ls xs2 z (es ++ end.AtMostOne g ∷ []) cs (AtMostOne ys)) (sym q) e in
    subst (λ z. Pushed ls xs2 gs2 z cs (AtMostOne ys)) (sym r) f

-- what stands at a place
pub stands_at : (l x : ℕ) (gs : List Group) (a : ℕ) (es : List End) (i : ℕ) (d : End) → AllStand l x gs a es → i < length es → Stands l x gs (lits_after gs a (take i es)) (get_or es i d)
stands_at l x gs a [] i d s m = absurd (omega (arith, m))
stands_at l x gs a (e ∷ es) zero d s m = s.0
stands_at l x gs a (e ∷ es) (suc i) d s m = stands_at l x gs (lits_to gs e) es i d s.1 (omega (arith, m))

pub item_at : (ls : List Lit) (xs : List ℕ) (gs : List Group) (a : ℕ) (es : List End) (i : ℕ) (d : End) → i < length es → slice_get (constraints_from ls xs gs a es) i ≡ Some (constraint_at ls xs gs (lits_after gs a (take i es)) (get_or es i d))
item_at ls xs gs a [] i d m = absurd (omega (arith, m))
item_at ls xs gs a (e ∷ es) zero d m = refl
item_at ls xs gs a (e ∷ es) (suc i) d m = item_at ls xs gs (lits_to gs e) es i d (omega (arith, m))

pub as_many : (ls : List Lit) (xs : List ℕ) (gs : List Group) (a : ℕ) (es : List End) → length (constraints_from ls xs gs a es) ≡ length es
as_many ls xs gs a [] = refl
as_many ls xs gs a (e ∷ es) = ap suc (as_many ls xs gs (lits_to gs e) es)

one_there : (l x : ℕ) (gs : List Group) (a : ℕ) (e : End) → Stands l x gs a e → IsThere gs e
one_there l x gs a (end.Clause n) s = tt
one_there l x gs a (end.AtMostOne g) s = s.0

-- each end's group is there
pub all_there : (l x : ℕ) (gs : List Group) (a : ℕ) (es : List End) → AllStand l x gs a es → All (IsThere gs) es
all_there l x gs a [] s = All-nil (IsThere gs)
all_there l x gs a (e ∷ es) s = All-cons (IsThere gs) e es (one_there l x gs a e s.0) (all_there l x gs (lits_to gs e) es s.1)

-- the literals before a place are those up to the end before it
pub after_place : (gs : List Group) (a : ℕ) (es : List End) (i : ℕ) (d : End) → i < length es → lits_after gs a (take (suc i) es) ≡ lits_to gs (get_or es i d)
after_place gs a [] i d m = absurd (omega (arith, m))
after_place gs a (e ∷ es) zero d m = refl
after_place gs a (e ∷ es) (suc i) d m = after_place gs (lits_to gs e) es i d (omega (arith, m))

pub before_place : (gs : List Group) (es : List End) (i : ℕ) (d : End) → 0 < i → i ≤ length es → lits_to gs (get_or es (i - 1) d) ≡ lits_after gs 0 (take i es)
before_place gs es zero d some m = absurd (omega (arith, some))
before_place gs es (suc i) d some m =
    let e : suc i - 1 ≡ i = omega arith in
    ap (λ n. lits_to gs (get_or es n d)) e ∙ sym (after_place gs 0 es i d (omega (arith, m)))

-- what is lent of a clause and of a group
pub there_all : (l x : ℕ) (gs gs2 : List Group) (es es2 : List End) → gs2 ≡ gs → es2 ≡ es → AllStand l x gs 0 es → All (IsThere gs2) es2
there_all l x gs gs2 es es2 p q s =
    subst (λ z. All (IsThere z) es2) (sym p) (subst (λ z. All (IsThere gs) z) (sym q) (all_there l x gs 0 es s))

pub clause_part : (l x : ℕ) (gs gs2 : List Group) (es es2 : List End) (i n a : ℕ) → gs2 ≡ gs → es2 ≡ es → AllStand l x gs 0 es → i < length es2 → get_or es2 i (end.Clause 0) ≡ end.Clause n → a ≡ lits_after gs2 0 (take i es2) → (a ≤ n) × (n ≤ l)
clause_part l x gs gs2 es es2 i n a p q s m e f =
    let low : i < length es = subst (λ z. i < length z) q m in
    let is : get_or es i (end.Clause 0) ≡ end.Clause n = ap (λ z. get_or z i (end.Clause 0)) (sym q) ∙ e in
    let from : a ≡ lits_after gs 0 (take i es) = f ∙ ap (λ z. lits_after z 0 (take i es2)) p ∙ ap (λ z. lits_after gs 0 (take i z)) q in
    let r : Stands l x gs (lits_after gs 0 (take i es)) (end.Clause n) = subst (Stands l x gs (lits_after gs 0 (take i es))) is (stands_at l x gs 0 es i (end.Clause 0) s low) in
    (subst (λ z. z ≤ n) (sym from) r.0, r.1)

pub group_part : (l x : ℕ) (gs gs2 : List Group) (es es2 : List End) (i g : ℕ) → gs2 ≡ gs → es2 ≡ es → AllStand l x gs 0 es → i < length es2 → get_or es2 i (end.Clause 0) ≡ end.AtMostOne g → (g < length gs2) × ((group_at gs2 g).start ≤ (group_at gs2 g).end) × ((group_at gs2 g).end ≤ x)
group_part l x gs gs2 es es2 i g p q s m e =
    let low : i < length es = subst (λ z. i < length z) q m in
    let is : get_or es i (end.Clause 0) ≡ end.AtMostOne g = ap (λ z. get_or z i (end.Clause 0)) (sym q) ∙ e in
    let r : Stands l x gs (lits_after gs 0 (take i es)) (end.AtMostOne g) = subst (Stands l x gs (lits_after gs 0 (take i es))) is (stands_at l x gs 0 es i (end.Clause 0) s low) in
    let P : List Group → Type 0 = λ z. (g < length z) × ((group_at z g).start ≤ (group_at z g).end) × ((group_at z g).end ≤ x) in
    subst P (sym p) (r.0, r.2, r.3)

pub clause_here : (ls ls2 : List Lit) (xs : List ℕ) (gs gs2 : List Group) (es es2 : List End) (cs : List Constraint) (i n a : ℕ) (part : List Lit)
    → ls2 ≡ ls → gs2 ≡ gs → es2 ≡ es → constraints_from ls xs gs 0 es ≡ cs → i < length es2 → get_or es2 i (end.Clause 0) ≡ end.Clause n → a ≡ lits_after gs2 0 (take i es2) → part ≡ slice_range ls2 a n
    → slice_get cs i ≡ Some (Clause part)
clause_here ls ls2 xs gs gs2 es es2 cs i n a part p q r v m e f h =
    let low : i < length es = subst (λ z. i < length z) r m in
    let is : get_or es i (end.Clause 0) ≡ end.Clause n = ap (λ z. get_or z i (end.Clause 0)) (sym r) ∙ e in
    let from : a ≡ lits_after gs 0 (take i es) = f ∙ ap (λ z. lits_after z 0 (take i es2)) q ∙ ap (λ z. lits_after gs 0 (take i z)) r in
    let own : part ≡ slice_range ls (lits_after gs 0 (take i es)) n = h ∙ ap (λ z. slice_range z a n) p ∙ ap (λ z. slice_range ls z n) from in
    ap (λ z. slice_get z i) (sym v) ∙ item_at ls xs gs 0 es i (end.Clause 0) low
    ∙ ap (λ z. Some (constraint_at ls xs gs (lits_after gs 0 (take i es)) z)) is ∙ ap (λ z. Some (Clause z)) (sym own)

pub group_here : (ls : List Lit) (xs xs2 : List ℕ) (gs gs2 : List Group) (es es2 : List End) (cs : List Constraint) (i g : ℕ) (part : List ℕ)
    → xs2 ≡ xs → gs2 ≡ gs → es2 ≡ es → constraints_from ls xs gs 0 es ≡ cs → i < length es2 → get_or es2 i (end.Clause 0) ≡ end.AtMostOne g → part ≡ slice_range xs2 (group_at gs2 g).start (group_at gs2 g).end
    → slice_get cs i ≡ Some (AtMostOne part)
group_here ls xs xs2 gs gs2 es es2 cs i g part p q r v m e h =
    let low : i < length es = subst (λ z. i < length z) r m in
    let is : get_or es i (end.Clause 0) ≡ end.AtMostOne g = ap (λ z. get_or z i (end.Clause 0)) (sym r) ∙ e in
    let own : part ≡ slice_range xs (group_at gs g).start (group_at gs g).end =
    h ∙ ap (λ z. slice_range z (group_at gs2 g).start (group_at gs2 g).end) p ∙ ap (λ z. slice_range xs (group_at z g).start (group_at z g).end) q in
    ap (λ z. slice_get z i) (sym v) ∙ item_at ls xs gs 0 es i (end.Clause 0) low
    ∙ ap (λ z. Some (constraint_at ls xs gs (lits_after gs 0 (take i es)) z)) is ∙ ap (λ z. Some (AtMostOne z)) (sym own)
