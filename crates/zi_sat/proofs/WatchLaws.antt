-- Two watched literals: a quiet pair makes its clause silent, and stays quiet at all earlier moments when a watch moves.
use Rattle.std.proofs.Common.{◌≡◌, ℕ, zero, suc, Bool, true, false, not, eqb, cond, List, [], ◌∷◌, take, refl, sym, ap, ◌∙◌, subst, Option, Some, None, ◌⊎◌, inl, inr}
use Rattle.std.proofs.lemmas.Bool.{false≢true, cases_Bool, eqb-true}
use Rattle.zi_formula.specs.declared.formula.Lit.{Lit}
use Rattle.zi_formula.specs.declared.formula.Constraint.TheVariants.{Clause, AtMostOne}
use Rattle.zi_formula.specs.Truth.{opposite}
use Rattle.zi_formula.specs.Form.{same_lit, has_lit, has_variable, Once, OnceVars}
use Rattle.zi_proof.specs.Known.{Known, put, says, is_open, is_true, is_false, Fails, Contradiction, Goes, standing, by_standing, clause_step, true_ones}
use Rattle.zi_sat.specs.declared.entry.Entry.{Entry}
use Rattle.zi_sat.specs.declared.entry.Why.{Why}
use Rattle.zi_sat.specs.declared.entry.Why.TheVariants.{Decision, Hint}
use Rattle.zi_sat.specs.Trail.{lits_of, learn, OpenAll, fails, silent, silent_by, all_decided}
use Rattle.zi_sat.proofs.GroupLaws.{In}
use Rattle.zi_sat.specs.Fresh.{at_decision}
use Rattle.zi_sat.specs.Marking.{Inside}
use Rattle.zi_sat.specs.Watching.{FalseOr, SomeTrue, Quiet, QuietBy, Watches, QuietAt}
use Rattle.zi_sat.proofs.FreshStep.{stands_none, lits_same, open_not_false, open_not_true}
use Rattle.zi_sat.proofs.FreshLaws.{put_extends, learn_extends}
use Rattle.zi_sat.proofs.LessLaws.{says_within, not_false_within}
use Rattle.zi_sat.proofs.CountLaws.{or_case, head_in, lit_self}
use Rattle.zi_proof.proofs.Sound.{says_some}
use Rattle.zi_text.proofs.ListLaws.{heads, tails}

-- what stands of a clause

stands_head : (k : Known) (m : Lit) (ls : List Lit) → is_false k m ≡ false → standing k (m ∷ ls) ≡ m ∷ standing k ls
stands_head k m ls f = ap (λ b. cond b (standing k ls) (m ∷ standing k ls)) f

abbrev Some1 : List Lit → Type 0
Some1 st = (m : Lit) × (rest : List Lit) × (st ≡ m ∷ rest)

some_case : (k : Known) (m : Lit) (ls : List Lit) (t : Bool) → Some1 (standing k ls) → Some1 (cond t (standing k ls) (m ∷ standing k ls))
some_case k m ls true s = s
some_case k m ls false s = (m, standing k ls, refl)

here_or : (k : Known) (m a : Lit) (ls : List Lit) (t : Bool) → same_lit m a ≡ t → cond t true (has_lit ls a) ≡ true → is_false k a ≡ false → (has_lit ls a ≡ true → Some1 (standing k ls)) → Some1 (standing k (m ∷ ls))
here_or k m a ls true e h f r =
    (m, standing k ls, stands_head k m ls (ap (is_false k) (lits_same m a e) ∙ f))
here_or k m a ls false e h f r = some_case k m ls (is_false k m) (r h)

one_stands : (k : Known) (a : Lit) (ls : List Lit) → has_lit ls a ≡ true → is_false k a ≡ false → Some1 (standing k ls)
one_stands k a [] h f = absurd (false≢true h)
one_stands k a (m ∷ ls) h f = here_or k m a ls (same_lit m a) refl h f (λ r. one_stands k a ls r f)

two_fail : (k : Known) (st : List Lit) (m : Lit) → Some1 st → fails (by_standing k (m ∷ st)) ≡ true
two_fail k st m (n, rest, e) = ap (λ xs. fails (by_standing k (m ∷ xs))) e

-- a literal that is true keeps a clause silent
true_alone : (k : Known) (a m : Lit) (t : Bool) → same_lit m a ≡ t → is_true k a ≡ true → cond t true false ≡ true → fails (cond (is_true k m) Fails (Goes (put k m))) ≡ true
true_alone k a m true e h g = ap (λ b. fails (cond b Fails (Goes (put k m)))) (ap (is_true k) (lits_same m a e) ∙ h)
true_alone k a m false e h g = absurd (false≢true g)

true_stands : (k : Known) (a : Lit) (st : List Lit) → is_true k a ≡ true → has_lit st a ≡ true → fails (by_standing k st) ≡ true
true_stands k a [] h g = absurd (false≢true g)
true_stands k a (m ∷ []) h g = true_alone k a m (same_lit m a) refl h g
true_stands k a (m ∷ n ∷ st) h g = refl

true_not_false : (o : Option Bool) (b : Bool) → says o b ≡ true → says o (not b) ≡ false
true_not_false None b h = absurd (false≢true h)
true_not_false (Some true) true h = refl
true_not_false (Some true) false h = absurd (false≢true h)
true_not_false (Some false) true h = absurd (false≢true h)
true_not_false (Some false) false h = refl

keep_case : (k : Known) (m a : Lit) (ls : List Lit) (t s : Bool) → same_lit m a ≡ t → is_false k m ≡ s → cond t true (has_lit ls a) ≡ true → is_false k a ≡ false → (has_lit ls a ≡ true → has_lit (standing k ls) a ≡ true) → has_lit (cond s (standing k ls) (m ∷ standing k ls)) a ≡ true
keep_case k m a ls true true e f h n r =
    absurd (false≢true (sym n ∙ (ap (is_false k) (sym (lits_same m a e)) ∙ f)))
keep_case k m a ls false true e f h n r = r h
keep_case k m a ls true false e f h n r = head_in (same_lit m a) (has_lit (standing k ls) a) e
keep_case k m a ls false false e f h n r = or_case (same_lit m a) (has_lit (standing k ls) a) (r h)

still_there : (k : Known) (a : Lit) (ls : List Lit) → has_lit ls a ≡ true → is_false k a ≡ false → has_lit (standing k ls) a ≡ true
still_there k a [] h n = h
still_there k a (m ∷ ls) h n =
    keep_case k m a ls (same_lit m a) (is_false k m) refl refl h n (λ r. still_there k a ls r n)

pub true_silent : (k : Known) (a : Lit) (ls : List Lit) → has_lit ls a ≡ true → is_true k a ≡ true → silent k (Clause ls) ≡ true
true_silent k a ls h t =
    true_stands k a (standing k ls) t (still_there k a ls h (true_not_false (k a.variable) a.positive t))

flip_case : (m a b : Lit) → same_lit m a ≡ true → same_lit a b ≡ false → same_lit m b ≡ false
flip_case m a b e f = ap (λ x. same_lit x b) (lits_same m a e) ∙ f

rest_of : (t c : Bool) → t ≡ false → cond t true c ≡ true → c ≡ true
rest_of true c e h = absurd (false≢true (sym e))
rest_of false c e h = h

two_case : (k : Known) (m a b : Lit) (ls : List Lit) (s t u : Bool) → is_false k m ≡ s → same_lit m a ≡ t → same_lit m b ≡ u → cond t true (has_lit ls a) ≡ true → cond u true (has_lit ls b) ≡ true → same_lit a b ≡ false → is_false k a ≡ false → is_false k b ≡ false → (has_lit ls a ≡ true → has_lit ls b ≡ true → fails (by_standing k (standing k ls)) ≡ true) → fails (by_standing k (cond s (standing k ls) (m ∷ standing k ls))) ≡ true
two_case k m a b ls true true u e f g h i p na nb r =
    absurd (false≢true (sym na ∙ (ap (is_false k) (sym (lits_same m a f)) ∙ e)))
two_case k m a b ls true false true e f g h i p na nb r =
    absurd (false≢true (sym nb ∙ (ap (is_false k) (sym (lits_same m b g)) ∙ e)))
two_case k m a b ls true false false e f g h i p na nb r = r h i
two_case k m a b ls false true u e f g h i p na nb r =
    two_fail k (standing k ls) m (one_stands k b ls (rest_of u (has_lit ls b) (sym g ∙ flip_case m a b f p) i) nb)
two_case k m a b ls false false u e f g h i p na nb r = two_fail k (standing k ls) m (one_stands k a ls h na)

two_silent : (k : Known) (a b : Lit) (ls : List Lit) → has_lit ls a ≡ true → has_lit ls b ≡ true → same_lit a b ≡ false → is_false k a ≡ false → is_false k b ≡ false → fails (by_standing k (standing k ls)) ≡ true
two_silent k a b [] h i p na nb = absurd (false≢true h)
two_silent k a b (m ∷ ls) h i p na nb =
    two_case k m a b ls (is_false k m) (same_lit m a) (same_lit m b) refl refl refl h i p na nb (λ x y. two_silent k a b ls x y p na nb)

-- A clause with a quiet pair is silent.
pub quiet_silent : (k : Known) (a b : Lit) (ls : List Lit) → Watches ls a b → Quiet k ls a b → silent k (Clause ls) ≡ true
quiet_silent k a b ls w (inl (m, h, t)) = true_silent k m ls h t
quiet_silent k a b ls w (inr n) = two_silent k a b ls w.first w.second w.apart n.0 n.1

-- When a watch that is false now moves to a literal that isn't false now, the pair is quiet at every earlier moment at which it was.

pub true_and_false : (g : Known) (l : Lit) → is_true g l ≡ true → is_false g l ≡ true → ⊥
true_and_false g l t f = false≢true (sym (true_not_false (g l.variable) l.positive t) ∙ f)

moved : (k g : Known) (ls : List Lit) (a b z : Lit) → Inside k g → is_false g z ≡ false → Quiet k ls a b → Quiet k ls z b
moved k g ls a b z i n (inl t) = inl t
moved k g ls a b z i n (inr p) = inr (not_false_within k g z i n, p.1)

moved_why : (w : Why) (k g : Known) (ls : List Lit) (a b z : Lit) → Inside k g → is_false g z ≡ false → at_decision w (Quiet k ls a b) → at_decision w (Quiet k ls z b)
moved_why Decision k g ls a b z i n q = moved k g ls a b z i n q
moved_why (Hint h) k g ls a b z i n q = tt

pub moved_all : (k : Known) (es : List Entry) (ls : List Lit) (a b z : Lit) → OpenAll k (lits_of es) → is_false (learn k (lits_of es)) z ≡ false → QuietAt ls a b k es → QuietAt ls z b k es
moved_all k [] ls a b z o n q = tt
moved_all k (e ∷ es) ls a b z o n q =
    (moved_why e.why k (learn (put k e.lit) (lits_of es)) ls a b z (λ x c p. learn_extends (put k e.lit) (lits_of es) o.1 x c (put_extends k e.lit o.0 x c p)) n q.0, moved_all (put k e.lit) es ls a b z o.1 n q.1)

-- the trail is cut: what is quiet before each decision stays so
pub cut_quiet : (ls : List Lit) (a b : Lit) (k : Known) (es : List Entry) (i : ℕ) → QuietAt ls a b k es → QuietAt ls a b k (take i es)
cut_quiet ls a b k [] zero q = tt
cut_quiet ls a b k [] (suc i) q = tt
cut_quiet ls a b k (e ∷ es) zero q = tt
cut_quiet ls a b k (e ∷ es) (suc i) q = (q.0, cut_quiet ls a b (put k e.lit) es i q.1)

-- while entries are looked at

pub some_more : (k g : Known) (ls : List Lit) → Inside k g → SomeTrue k ls → SomeTrue g ls
some_more k g ls i (m, h, t) = (m, h, says_within k g m.variable m.positive i t)

pub pushed : (q k g : Known) (ls : List Lit) (a b : Lit) → Inside k g → QuietBy q k ls a b → QuietBy q g ls a b
pushed q k g ls a b i (inl t) = inl (some_more k g ls i t)
pushed q k g ls a b i (inr n) = inr n

-- the next entry's literal is looked at: a pair that doesn't watch its opposite stays as it is
pub says_same : (p b : Bool) → says (Some p) b ≡ true → p ≡ b
says_same true b e = sym e
says_same false true e = absurd (false≢true e)
says_same false false e = refl

pub not_twice : (b : Bool) → not (not b) ≡ b
not_twice true = refl
not_twice false = refl

opposite_by : (a l : Lit) → a.variable ≡ l.variable → l.positive ≡ not a.positive → a ≡ opposite l
opposite_by a l e f =
    let s : a.positive ≡ not l.positive = sym (not_twice a.positive) ∙ ap not (sym f) in
    λ i. record { variable = e i; positive = s i }

pub sign_case : (q : Known) (l a : Lit) (t : Bool) → eqb a.variable l.variable ≡ t → (a ≡ opposite l → ⊥) → is_false q a ≡ false → says (cond t (Some l.positive) (q a.variable)) (not a.positive) ≡ false
sign_case q l a true e n f = elim (cases_Bool (says (Some l.positive) (not a.positive))) [
  | inr g ↦ g
  | inl g ↦ absurd (n (opposite_by a l (eqb-true a.variable l.variable e) (says_same l.positive (not a.positive) g)))
]
sign_case q l a false e n f = f

pub looked : (q k : Known) (ls : List Lit) (l a b : Lit) → (a ≡ opposite l → ⊥) → (b ≡ opposite l → ⊥) → QuietBy q k ls a b → QuietBy (put q l) k ls a b
looked q k ls l a b na nb (inl t) = inl t
looked q k ls l a b na nb (inr n) =
    inr (sign_case q l a (eqb a.variable l.variable) refl na n.0, sign_case q l b (eqb b.variable l.variable) refl nb n.1)

-- groups: where a variable was looked at while true, the others are false

abbrev pub Looked : Known → Known → List ℕ → Type 0
Looked q k xs = (x y : ℕ) → In x xs → In y xs → q x ≡ Some true → (eqb y x ≡ false) → k y ≡ Some false

decided_true : (o : Option Bool) → says o true ≡ true → is_open o ≡ false
decided_true None e = absurd (false≢true e)
decided_true (Some b) e = refl

all_case : (k : Known) (x : ℕ) (xs : List ℕ) (t : Bool) → is_open (k x) ≡ t → (t ≡ true → ⊥) → all_decided k xs ≡ true → cond t false (all_decided k xs) ≡ true
all_case k x xs true e n a = absurd (n refl)
all_case k x xs false e n a = a

decided_by : (k : Known) (t x : ℕ) (b : Bool) → eqb x t ≡ b → says (k t) true ≡ true → (eqb x t ≡ false → k x ≡ Some false) → is_open (k x) ≡ true → ⊥
decided_by k t x true e h f o = false≢true (sym (decided_true (k x) (ap (λ z. says (k z) true) (eqb-true x t e) ∙ h)) ∙ o)
decided_by k t x false e h f o = false≢true (sym (ap is_open (f e)) ∙ o)

decided_all : (k : Known) (t : ℕ) (xs : List ℕ) → says (k t) true ≡ true → ((x : ℕ) → In x xs → eqb x t ≡ false → k x ≡ Some false) → all_decided k xs ≡ true
decided_all k t [] h f = refl
decided_all k t (x ∷ xs) h f =
    all_case k x xs (is_open (k x)) refl (λ e. decided_by k t x (eqb x t) refl h (λ n. f x (inl refl) n) e) (decided_all k t xs h (λ y i n. f y (inr i) n))

-- the true variables of a group stand in it, each once
ones_in_case : (k : Known) (x y : ℕ) (xs : List ℕ) (t : Bool) → says (k x) true ≡ t → In y (cond t (x ∷ true_ones k xs) (true_ones k xs)) → (In y (true_ones k xs) → In y xs × (says (k y) true ≡ true)) → ((y ≡ x) ⊎ In y xs) × (says (k y) true ≡ true)
ones_in_case k x y xs true e (inl q) r = (inl q, ap (λ z. says (k z) true) q ∙ e)
ones_in_case k x y xs true e (inr i) r = let p = r i in (inr p.0, p.1)
ones_in_case k x y xs false e i r = let p = r i in (inr p.0, p.1)

ones_in : (k : Known) (xs : List ℕ) (y : ℕ) → In y (true_ones k xs) → In y xs × (says (k y) true ≡ true)
ones_in k [] y i = absurd i
ones_in k (x ∷ xs) y i = ones_in_case k x y xs (says (k x) true) refl i (λ j. ones_in k xs y j)

not_in_case : (y x u : ℕ) (ys : List ℕ) (t : Bool) → eqb y x ≡ t → cond t true (has_variable ys x) ≡ false → (u ≡ y) ⊎ In u ys → (has_variable ys x ≡ false → In u ys → eqb u x ≡ false) → eqb u x ≡ false
not_in_case y x u ys true e h i r = absurd (false≢true (sym h))
not_in_case y x u ys false e h (inl q) r = ap (λ z. eqb z x) q ∙ e
not_in_case y x u ys false e h (inr i) r = r h i

not_in : (x u : ℕ) (ys : List ℕ) → has_variable ys x ≡ false → In u ys → eqb u x ≡ false
not_in x u [] h i = absurd i
not_in x u (y ∷ ys) h i = not_in_case y x u ys (eqb y x) refl h i (λ g j. not_in x u ys g j)

tail_ones : (x t : ℕ) (xs ts : List ℕ) → x ∷ xs ≡ t ∷ ts → (x ≡ t) × (xs ≡ ts)
tail_ones x t xs ts e = (heads x t xs ts e, tails x t xs ts e)

apart_case : (k : Known) (x t u : ℕ) (xs ts : List ℕ) (b : Bool) → cond b (x ∷ true_ones k xs) (true_ones k xs) ≡ t ∷ u ∷ ts → has_variable xs x ≡ false → (true_ones k xs ≡ t ∷ u ∷ ts → eqb u t ≡ false) → eqb u t ≡ false
apart_case k x t u xs ts true e h r =
    let p : (x ≡ t) × (true_ones k xs ≡ u ∷ ts) = tail_ones x t (true_ones k xs) (u ∷ ts) e in
    let i : In u xs = (ones_in k xs u (subst (In u) (sym p.1) (inl refl))).0 in
    ap (eqb u) (sym p.0) ∙ not_in x u xs h i
apart_case k x t u xs ts false e h r = r e

ones_apart : (k : Known) (xs : List ℕ) (t u : ℕ) (ts : List ℕ) → OnceVars xs → true_ones k xs ≡ t ∷ u ∷ ts → eqb u t ≡ false
ones_apart k [] t u ts o e = let z : ◌≡◌ {A = List ℕ} [] (t ∷ u ∷ ts) = e in cc
ones_apart k (x ∷ xs) t u ts o e =
    apart_case k x t u xs ts (says (k x) true) e o.0 (λ r. ones_apart k xs t u ts o.1 r)

group_case : (k : Known) (xs ts : List ℕ) → true_ones k xs ≡ ts → OnceVars xs → Looked k k xs → silent_by k xs ts ≡ true
group_case k xs [] e o l = refl
group_case k xs (t ∷ []) e o l =
    let p : In t xs × (says (k t) true ≡ true) = ones_in k xs t (subst (In t) (sym e) (inl refl)) in
    decided_all k t xs p.1 (λ x i n. l t x p.0 i (says_some (k t) true p.1) n)
group_case k xs (t ∷ u ∷ ts) e o l =
    let p : In t xs × (says (k t) true ≡ true) = ones_in k xs t (subst (In t) (sym e) (inl refl)) in
    let q : In u xs × (says (k u) true ≡ true) = ones_in k xs u (subst (In u) (sym e) (inr (inl refl))) in
    absurd (false≢true (ap (λ v. says v true) (sym (l t u p.0 q.0 (says_some (k t) true p.1) (ones_apart k xs t u ts o e))) ∙ q.1))

-- A group all of whose true variables were looked at is silent.
pub looked_silent : (k : Known) (xs : List ℕ) → OnceVars xs → Looked k k xs → silent k (AtMostOne xs) ≡ true
looked_silent k xs o l = group_case k xs (true_ones k xs) refl o l

-- one clause that is looked at

only_case : (k : Known) (d m : Lit) (ls : List Lit) (t : Bool) → same_lit m d ≡ t → cond t true (has_lit ls d) ≡ true → is_false k d ≡ false → Once (m ∷ ls) → (is_false k m ≡ true) ⊎ (m ≡ d) → (has_lit ls d ≡ false → FalseOr k d ls → standing k ls ≡ []) → FalseOr k d ls → (has_lit ls d ≡ true → standing k ls ≡ d ∷ []) → standing k (m ∷ ls) ≡ d ∷ []
only_case k d m ls true e h n o f none g r =
    let same : m ≡ d = lits_same m d e in
    let rest : standing k ls ≡ [] = none (subst (λ x. has_lit ls x ≡ false) same o.0) g in
    stands_head k m ls (ap (is_false k) same ∙ n) ∙ (ap (λ x. x ∷ standing k ls) same ∙ ap (λ xs. d ∷ xs) rest)
only_case k d m ls false e h n o (inl f) none g r = ap (λ b. cond b (standing k ls) (m ∷ standing k ls)) f ∙ r h
only_case k d m ls false e h n o (inr f) none g r =
    absurd (false≢true (sym e ∙ (ap (λ x. same_lit x d) f ∙ lit_self d)))

stand_only : (k : Known) (d : Lit) (ls : List Lit) → has_lit ls d ≡ true → is_false k d ≡ false → Once ls → FalseOr k d ls → standing k ls ≡ d ∷ []
stand_only k d [] h n o f = absurd (false≢true h)
stand_only k d (m ∷ ls) h n o f = only_case k d m ls (same_lit m d) refl h n o f.0 (stands_none k d ls) f.1 (λ r. stand_only k d ls r n o.1 f.1)

pub look_unit : (k : Known) (d : Lit) (ls : List Lit) → has_lit ls d ≡ true → is_open (k d.variable) ≡ true → Once ls → FalseOr k d ls → clause_step k ls ≡ Goes (put k d)
look_unit k d ls h u o f =
    ap (by_standing k) (stand_only k d ls h (open_not_false k d u) o f) ∙ ap (λ b. cond b Fails (Goes (put k d))) (open_not_true k d u)

all_false : (k : Known) (d : Lit) (ls : List Lit) → is_false k d ≡ true → FalseOr k d ls → standing k ls ≡ []
all_false k d [] n f = refl
all_false k d (m ∷ ls) n (inl e, g) = ap (λ b. cond b (standing k ls) (m ∷ standing k ls)) e ∙ all_false k d ls n g
all_false k d (m ∷ ls) n (inr e, g) =
    ap (λ b. cond b (standing k ls) (m ∷ standing k ls)) (ap (is_false k) e ∙ n) ∙ all_false k d ls n g

pub look_conflict : (k : Known) (d : Lit) (ls : List Lit) → is_false k d ≡ true → FalseOr k d ls → clause_step k ls ≡ Contradiction
look_conflict k d ls n f = ap (by_standing k) (all_false k d ls n f)
