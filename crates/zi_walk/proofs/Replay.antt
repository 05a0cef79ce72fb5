-- A trail walked again from more that is known: hints for what isn't known yet, up to the contradiction.
use Rattle.std.proofs.Common.{◌≡◌, ℕ, Bool, true, false, not, eqb, cond, List, [], ◌∷◌, refl, sym, ap, ◌∙◌, subst, arith, Option, Some, None, ◌⊎◌, inl, inr}
use Rattle.std.proofs.lemmas.Bool.{false≢true, cases_Bool}
use Rattle.std.proofs.lemmas.Bool.Decides.{nat_tests}
use Rattle.zi_formula.specs.declared.formula.Lit.{Lit}
use Rattle.zi_formula.specs.declared.formula.Constraint.{Constraint}
use Rattle.zi_formula.specs.declared.formula.Constraint.TheVariants.{Clause, AtMostOne}
use Rattle.zi_proof.specs.Known.{Known, put, says, is_open, is_true, is_false, Outcome, Fails, Contradiction, Goes, standing, by_standing, clause_step, true_ones, deny, deny_all, by_true_ones, group_step, step}
use Rattle.zi_proof.specs.Accepted.{cited, step_cited, after_hint, no_more, walk}
use Rattle.zi_sat.specs.declared.entry.Entry.{Entry}
use Rattle.zi_sat.specs.declared.entry.Why.{Why}
use Rattle.zi_sat.specs.declared.entry.Why.TheVariants.{Decision, Hint}
use Rattle.zi_sat.specs.Trail.{lits_of, OpenAll}
use Rattle.zi_sat.specs.Entries.{Makes, HasReason, HaveReasons}
use Rattle.zi_choice.proofs.ThereLaws.{In}
use Rattle.zi_walk.proofs.Passed.{Extends}
use Rattle.zi_sat.proofs.LessLaws.{some_says}
use Rattle.zi_proof.proofs.Sound.{says_some}
use Rattle.zi_proof.proofs.LeanExamples.{open_and_true}
use Rattle.zi_walk.proofs.Ways.{has_true}
use Rattle.zi_sat.proofs.EntryLaws.{put_true}
use Rattle.zi_sat.proofs.FreshLaws.{put_extends}
use Rattle.zi_proof.proofs.CutLaws.{test_same}

-- the hints
abbrev pub go_on : Outcome → (Known → List ℕ) → List ℕ
go_on Fails rest = []
go_on Contradiction rest = []
go_on (Goes g) rest = rest g

abbrev pub hint_then : Why → List Constraint → Known → (Known → List ℕ) → List ℕ
hint_then Decision all g rest = []
hint_then (Hint h) all g rest = h ∷ go_on (step_cited g (cited all h)) rest

abbrev pub replay : List Constraint → Known → List Entry → List ℕ
replay all g [] = []
replay all g (e ∷ es) = cond (is_true g e.lit) (replay all g es) (hint_then e.why all g (λ f. replay all f es))

says_more : (k g : Known) (x : ℕ) (b : Bool) → Extends k g → says (k x) b ≡ true → says (g x) b ≡ true
says_more k g x b h e = ap (λ o. says o b) (h x b (says_some (k x) b e)) ∙ some_says b

both_said : (o : Option Bool) (b : Bool) → says o b ≡ true → says o (not b) ≡ true → ⊥
both_said None b e f = false≢true e
both_said (Some true) true e f = false≢true f
both_said (Some true) false e f = false≢true e
both_said (Some false) true e f = false≢true e
both_said (Some false) false e f = false≢true f

open_when : (o : Option Bool) (b : Bool) → says o b ≡ false → says o (not b) ≡ false → is_open o ≡ true
open_when None b e f = refl
open_when (Some true) true e f = absurd (false≢true (sym e))
open_when (Some true) false e f = absurd (false≢true (sym f))
open_when (Some false) true e f = absurd (false≢true (sym f))
open_when (Some false) false e f = absurd (false≢true (sym e))

-- a hint that makes l true from k, from more that is known
data More (g : Known) (o : Outcome) (l : Lit) : Type 0 where
  ends_so : o ≡ Contradiction → More g o l
  goes_so : (f : Known) → o ≡ Goes f → is_true f l ≡ true → Extends g f → More g o l

-- clauses
standing_none : (k g : Known) (ls : List Lit) → Extends k g → standing k ls ≡ [] → standing g ls ≡ []
standing_none k g [] h e = refl
standing_none k g (l ∷ ls) h e = at (is_false k l) (is_false g l) refl refl e (λ f. standing_none k g ls h f)
  where
    at : (b c : Bool) → is_false k l ≡ b → is_false g l ≡ c → cond b (standing k ls) (l ∷ standing k ls) ≡ [] → (standing k ls ≡ [] → standing g ls ≡ []) → cond c (standing g ls) (l ∷ standing g ls) ≡ []
    at true true p q f later = later f
    at true false p q f later = absurd (false≢true (sym q ∙ says_more k g l.variable (not l.positive) h p))
    at false c p q f later = cc

standing_one : (k g : Known) (ls : List Lit) (m : Lit) → Extends k g → standing k ls ≡ m ∷ [] → (standing g ls ≡ []) ⊎ ((standing g ls ≡ m ∷ []) × (is_false g m ≡ false))
standing_one k g [] m h e = cc
standing_one k g (l ∷ ls) m h e = at (is_false k l) (is_false g l) refl refl e (λ f. standing_one k g ls m h f) (λ f. standing_none k g ls h f)
  where
    first : {a b : Lit} {as' bs : List Lit} → a ∷ as' ≡ b ∷ bs → a ≡ b
    first e = cc

    rest : {a b : Lit} {as' bs : List Lit} → a ∷ as' ≡ b ∷ bs → as' ≡ bs
    rest e = cc

    at : (b c : Bool) → is_false k l ≡ b → is_false g l ≡ c → cond b (standing k ls) (l ∷ standing k ls) ≡ m ∷ [] → (standing k ls ≡ m ∷ [] → (standing g ls ≡ []) ⊎ ((standing g ls ≡ m ∷ []) × (is_false g m ≡ false))) → (standing k ls ≡ [] → standing g ls ≡ []) → (cond c (standing g ls) (l ∷ standing g ls) ≡ []) ⊎ ((cond c (standing g ls) (l ∷ standing g ls) ≡ m ∷ []) × (is_false g m ≡ false))
    at true true p q f later none = later f
    at true false p q f later none = absurd (false≢true (sym q ∙ says_more k g l.variable (not l.positive) h p))
    at false true p q f later none = inl (none (rest f))
    at false false p q f later none =
        inr (ap (λ xs. l ∷ xs) (none (rest f)) ∙ ap (λ y. y ∷ []) (first f), ap (λ y. is_false g y) (sym (first f)) ∙ q)

put_same : (k : Known) (m l : Lit) → is_open (k l.variable) ≡ true → is_true (put k m) l ≡ true → (l.variable ≡ m.variable) × (m.positive ≡ l.positive)
put_same k m l o t = at (eqb l.variable m.variable) refl t
  where
    at : (b : Bool) → eqb l.variable m.variable ≡ b → says (cond b (Some m.positive) (k l.variable)) l.positive ≡ true → (l.variable ≡ m.variable) × (m.positive ≡ l.positive)
    at true e h = ((let z : l.variable ≡ m.variable = grind (arith, nat_tests) in z), some_bool (says_some (Some m.positive) l.positive h))
      where
        some_bool : {a b : Bool} → Some a ≡ Some b → a ≡ b
        some_bool e = cc
    at false e h = absurd (open_and_true (k l.variable) l.positive o h)

lit_same : (l m : Lit) → l.variable ≡ m.variable → m.positive ≡ l.positive → m ≡ l
lit_same l m e f = ap (λ x. record { variable = x; positive = m.positive }) (sym e) ∙ ap (λ b. record { variable = l.variable; positive = b }) f

by_one : (k : Known) (m l : Lit) → Makes (by_standing k (m ∷ [])) l → is_true (put k m) l ≡ true
by_one k m l h = at (is_true k m) h
  where
    at : (b : Bool) → Makes (cond b Fails (Goes (put k m))) l → is_true (put k m) l ≡ true
    at true h = absurd h
    at false h = h

clause_more : (k g : Known) (ls : List Lit) (l : Lit) → Makes (clause_step k ls) l → is_open (k l.variable) ≡ true → Extends k g → is_true g l ≡ false → More g (clause_step g ls) l
clause_more k g ls l m o h n = at (standing k ls) refl m
  where
    made : (a : Lit) → standing k ls ≡ a ∷ [] → is_true (put k a) l ≡ true → More g (by_standing g (standing g ls)) l
    made a e t =
        let s = put_same k a l o t in
        let same : a ≡ l = lit_same l a s.0 s.1 in
        elim (standing_one k g ls a h e) [
          | inl none ↦ ends_so (ap (λ xs. by_standing g xs) none)
          | inr one ↦ let f : is_false g l ≡ false = subst (λ y. is_false g y ≡ false) same one.1 in
              goes_so (put g l) (ap (λ xs. by_standing g xs) (one.0 ∙ ap (λ y. y ∷ []) same) ∙ ap (λ b. cond b Fails (Goes (put g l))) n) (put_true g l) (put_extends g l (open_when (g l.variable) l.positive n f))
        ]

    at : (st : List Lit) → standing k ls ≡ st → Makes (by_standing k st) l → More g (by_standing g (standing g ls)) l
    at [] e h = absurd h
    at (a ∷ []) e h = made a e (by_one k a l h)
    at (a ∷ c ∷ st) e h = absurd h

-- groups: what is made false
deny_one : (k : Known) (x y : ℕ) → (deny k x y ≡ k y) ⊎ ((x ≡ y) × (is_open (k y) ≡ true) × (deny k x y ≡ Some false))
deny_one k x y = at (is_open (k x)) refl
  where
    inner : is_open (k x) ≡ true → (b : Bool) → eqb y x ≡ b → (cond b (Some false) (k y) ≡ k y) ⊎ ((x ≡ y) × (is_open (k y) ≡ true) × (cond b (Some false) (k y) ≡ Some false))
    inner o true e = let z : x ≡ y = grind (arith, nat_tests) in inr (z, subst (λ v. is_open (k v) ≡ true) z o, refl)
    inner o false e = inl refl

    at : (b : Bool) → is_open (k x) ≡ b → ((cond b (put k (record { variable = x; positive = false })) k) y ≡ k y) ⊎ ((x ≡ y) × (is_open (k y) ≡ true) × ((cond b (put k (record { variable = x; positive = false })) k) y ≡ Some false))
    at true o = inner o (eqb y x) refl
    at false o = inl refl

denied : (k : Known) (xs : List ℕ) (y : ℕ) → (deny_all k xs y ≡ k y) ⊎ (In y xs × (is_open (k y) ≡ true) × (deny_all k xs y ≡ Some false))
denied k [] y = inl refl
denied k (x ∷ xs) y =
    elim (denied (deny k x) xs y) [
      | inl e ↦ elim (deny_one k x y) [ inl f ↦ inl (e ∙ f) | inr f ↦ inr (inl f.0, f.1, e ∙ f.2) ]
      | inr e ↦ elim (deny_one k x y) [ inl f ↦ inr (inr e.0, subst (λ o. is_open o ≡ true) f e.1, e.2) | inr f ↦ inr (inl f.0, f.1, e.2) ]
    ]

deny_extends : (k : Known) (xs : List ℕ) → Extends k (deny_all k xs)
deny_extends k xs = λ y b e. elim (denied k xs y) [ inl f ↦ f ∙ e | inr f ↦ absurd (open_some (k y) b f.1 e) ]
  where
    open_some : (o : Option Bool) (b : Bool) → is_open o ≡ true → o ≡ Some b → ⊥
    open_some None b h e = cc
    open_some (Some c) b h e = false≢true h

denied_in : (k : Known) (xs : List ℕ) (y : ℕ) → In y xs → is_open (k y) ≡ true → deny_all k xs y ≡ Some false
denied_in k [] y i o = absurd i
denied_in k (x ∷ xs) y (inl q) o =
    elim (deny_one k x y) [
      | inr f ↦ deny_extends (deny k x) xs y false f.2
      | inl f ↦ absurd (false≢true (sym (ap is_open (here x q)) ∙ ap is_open f ∙ o))
    ]
  where
    here : (x : ℕ) → x ≡ y → deny k x y ≡ Some false
    here x q = at (is_open (k x)) (ap (λ z. is_open (k z)) q ∙ o)
      where
        at : (b : Bool) → b ≡ true → (cond b (put k (record { variable = x; positive = false })) k) y ≡ Some false
        at true e = let z : eqb y x ≡ true = ap (λ v. eqb y v) q ∙ test_same y in ap (λ t. cond t (Some false) (k y)) z
        at false e = absurd (false≢true e)
denied_in k (x ∷ xs) y (inr i) o =
    elim (deny_one k x y) [
      | inl f ↦ denied_in (deny k x) xs y i (ap is_open f ∙ o)
      | inr f ↦ deny_extends (deny k x) xs y false f.2
    ]

-- true ones stay, and one more makes two
abbrev pub two : List ℕ → Bool
two [] = false
two (x ∷ []) = false
two (x ∷ y ∷ ys) = true

two_contradict : (g : Known) (xs ts : List ℕ) → two ts ≡ true → by_true_ones g xs ts ≡ Contradiction
two_contradict g xs [] e = absurd (false≢true e)
two_contradict g xs (t ∷ []) e = absurd (false≢true e)
two_contradict g xs (t ∷ s ∷ ts) e = refl

push_two : (b : Bool) (y : ℕ) (ts : List ℕ) → (ts ≡ [] → ⊥) → b ≡ true → two (cond b (y ∷ ts) ts) ≡ true
push_two true y [] n e = absurd (n refl)
push_two true y (t ∷ ts) n e = refl
push_two false y ts n e = absurd (false≢true e)

keep_two : (b : Bool) (y : ℕ) (ts : List ℕ) → two ts ≡ true → two (cond b (y ∷ ts) ts) ≡ true
keep_two true y [] e = absurd (false≢true e)
keep_two true y (t ∷ ts) e = refl
keep_two false y ts e = e

two_true : (g : Known) (xs : List ℕ) (x y : ℕ) → In x xs → In y xs → (x ≡ y → ⊥) → says (g x) true ≡ true → says (g y) true ≡ true → two (true_ones g xs) ≡ true
two_true g [] x y i j d s t = absurd i
two_true g (z ∷ xs) x y (inl p) (inl q) d s t = absurd (d (sym p ∙ q))
two_true g (z ∷ xs) x y (inl p) (inr j) d s t = push_two (says (g z) true) z (true_ones g xs) (λ e. has_true g xs y j t e) (ap (λ v. says (g v) true) p ∙ s)
two_true g (z ∷ xs) x y (inr i) (inl q) d s t = push_two (says (g z) true) z (true_ones g xs) (λ e. has_true g xs x i s e) (ap (λ v. says (g v) true) q ∙ t)
two_true g (z ∷ xs) x y (inr i) (inr j) d s t = keep_two (says (g z) true) z (true_ones g xs) (two_true g xs x y i j d s t)

one_in : (k : Known) (xs : List ℕ) (a : ℕ) (ts : List ℕ) → true_ones k xs ≡ a ∷ ts → In a xs × (says (k a) true ≡ true)
one_in k [] a ts e = cc
one_in k (x ∷ xs) a ts e = at (says (k x) true) refl e (λ f. one_in k xs a ts f)
  where
    first : {a b : ℕ} {as' bs : List ℕ} → a ∷ as' ≡ b ∷ bs → a ≡ b
    first e = cc

    at : (b : Bool) → says (k x) true ≡ b → cond b (x ∷ true_ones k xs) (true_ones k xs) ≡ a ∷ ts → (true_ones k xs ≡ a ∷ ts → In a xs × (says (k a) true ≡ true)) → In a (x ∷ xs) × (says (k a) true ≡ true)
    at true p f later = (inl (first f), subst (λ v. says (k v) true ≡ true) (first f) p)
    at false p f later = let r = later f in (inr r.0, r.1)

group_more : (k g : Known) (xs : List ℕ) (l : Lit) → Makes (group_step k xs) l → is_open (k l.variable) ≡ true → Extends k g → is_true g l ≡ false → More g (group_step g xs) l
group_more k g xs l m o h n = at (true_ones k xs) refl m
  where
    second : (a : ℕ) → In a xs → says (k a) true ≡ true → In l.variable xs → l.positive ≡ false → (ts : List ℕ) → true_ones g xs ≡ ts → More g (by_true_ones g xs ts) l
    second a i s j p [] e = absurd (has_true g xs a i (says_more k g a true h s) e)
    second a i s j p (t ∷ c ∷ ts) e = ends_so refl
    second a i s j p (t ∷ []) e =
        elim (cases_Bool (says (g l.variable) true)) [
          | inl y ↦ absurd (false≢true (sym (ap two e) ∙ two_true g xs a l.variable i j (λ q. open_and_true (k l.variable) true o (subst (λ v. says (k v) true ≡ true) q s)) (says_more k g a true h s) y))
          | inr f ↦ let free : is_open (g l.variable) ≡ true = open_when (g l.variable) true f (ap (λ b. says (g l.variable) b) (sym p) ∙ n) in
              goes_so (deny_all g xs) refl (ap (λ b. says (deny_all g xs l.variable) b) p ∙ ap (λ v. says v false) (denied_in g xs l.variable j free)) (deny_extends g xs)
        ]

    made : (a : ℕ) (ts : List ℕ) → true_ones k xs ≡ a ∷ ts → is_true (deny_all k xs) l ≡ true → More g (by_true_ones g xs (true_ones g xs)) l
    made a ts e t =
        let r = one_in k xs a ts e in
        elim (denied k xs l.variable) [
          | inl f ↦ absurd (open_and_true (k l.variable) l.positive o (ap (λ v. says v l.positive) (sym f) ∙ t))
          | inr f ↦ second a r.0 r.1 f.0 (sign (says_some (Some false) l.positive (ap (λ v. says v l.positive) (sym f.2) ∙ t))) (true_ones g xs) refl
        ]
      where
        sign : {b : Bool} → Some false ≡ Some b → b ≡ false
        sign e = cc

    at : (ts : List ℕ) → true_ones k xs ≡ ts → Makes (by_true_ones k xs ts) l → More g (by_true_ones g xs (true_ones g xs)) l
    at [] e h = absurd h
    at (a ∷ []) e h = made a [] e h
    at (a ∷ c ∷ ts) e h = absurd h

step_more : (k g : Known) (c : Constraint) (l : Lit) → Makes (step k c) l → is_open (k l.variable) ≡ true → Extends k g → is_true g l ≡ false → More g (step g c) l
step_more k g (Clause ls) l m o h n = clause_more k g ls l m o h n
step_more k g (AtMostOne xs) l m o h n = group_more k g xs l m o h n

cited_more : (k g : Known) (c : Option Constraint) (l : Lit) → Makes (step_cited k c) l → is_open (k l.variable) ≡ true → Extends k g → is_true g l ≡ false → More g (step_cited g c) l
cited_more k g None l m o h n = absurd m
cited_more k g (Some c) l m o h n = step_more k g c l m o h n

-- An entry contradicts what is known, and is no decision; each decision before it is known.
abbrev pub IsHinted : Why → Type 0
IsHinted Decision = ⊥
IsHinted (Hint h) = Unit {0}

abbrev pub IsGiven : Known → Lit → Why → Type 0
IsGiven g l Decision = is_true g l ≡ true
IsGiven g l (Hint h) = Unit {0}

abbrev pub Stops : Known → List Entry → Type 0
Stops g [] = ⊥
Stops g (e ∷ es) = ((is_false g e.lit ≡ true) × IsHinted e.why) ⊎ (IsGiven g e.lit e.why × Stops g es)

given_more : (g f : Known) (l : Lit) (w : Why) → Extends g f → IsGiven g l w → IsGiven f l w
given_more g f l Decision h t = says_more g f l.variable l.positive h t
given_more g f l (Hint d) h t = tt

stops_more : (g f : Known) (es : List Entry) → Extends g f → Stops g es → Stops f es
stops_more g f [] h s = s
stops_more g f (e ∷ es) h (inl s) = inl (says_more g f e.lit.variable (not e.lit.positive) h s.0, s.1)
stops_more g f (e ∷ es) h (inr s) = inr (given_more g f e.lit e.why h s.0, stops_more g f es h s.1)

put_below : (k g : Known) (l : Lit) → Extends k g → is_true g l ≡ true → Extends (put k l) g
put_below k g l h t = λ x b e. at (eqb x l.variable) x b refl e
  where
    some_bool : {a b : Bool} → Some a ≡ Some b → a ≡ b
    some_bool e = cc

    at : (c : Bool) (x : ℕ) (b : Bool) → eqb x l.variable ≡ c → cond c (Some l.positive) (k x) ≡ Some b → g x ≡ Some b
    at true x b e f =
        let z : x ≡ l.variable = grind (arith, nat_tests) in
        ap g z ∙ says_some (g l.variable) l.positive t ∙ f
    at false x b e f = h x b f

-- the walk over these hints comes to the contradiction, and there it ends
pub replay_walks : (all cs : List Constraint) (chooses : Known → Option Lit) (k g : Known) (es : List Entry) → HaveReasons all cs chooses k es → OpenAll k (lits_of es) → Extends k g → Stops g es → walk all g (replay all g es) ≡ true
replay_walks all cs chooses k g [] r o h s = absurd s
replay_walks all cs chooses k g (e ∷ es) r o h s =
    at (is_true g e.lit) refl e.why r.0 s (λ f x y. replay_walks all cs chooses (put k e.lit) f es r.1 o.1 x y)
  where
    after : (d : ℕ) (c : Outcome) → is_true g e.lit ≡ false → ((is_false g e.lit ≡ true) × IsHinted (Hint d)) ⊎ (IsGiven g e.lit (Hint d) × Stops g es) → More g c e.lit → ((f : Known) → Extends (put k e.lit) f → Stops f es → walk all f (replay all f es) ≡ true) → after_hint c (λ f. walk all f (go_on c (λ z. replay all z es))) (no_more (go_on c (λ z. replay all z es))) ≡ true
    after d c n s (ends_so q) later = subst (λ (c : Outcome). after_hint c (λ f. walk all f (go_on c (λ z. replay all z es))) (no_more (go_on c (λ z. replay all z es))) ≡ true) (sym q) refl
    after d c n s (goes_so f q t x) later =
        let rest : walk all f (replay all f es) ≡ true = later f (put_below k f e.lit (λ y b z. x y b (h y b z)) t) (stops_here s) in
        subst (λ (c : Outcome). after_hint c (λ f. walk all f (go_on c (λ z. replay all z es))) (no_more (go_on c (λ z. replay all z es))) ≡ true) (sym q) rest
      where
        stops_here : ((is_false g e.lit ≡ true) × IsHinted (Hint d)) ⊎ (IsGiven g e.lit (Hint d) × Stops g es) → Stops f es
        stops_here (inl s) = absurd (both_said (f e.lit.variable) e.lit.positive t (says_more g f e.lit.variable (not e.lit.positive) x s.0))
        stops_here (inr s) = stops_more g f es x s.1

    at : (b : Bool) → is_true g e.lit ≡ b → (w : Why) → HasReason all cs chooses k e.lit w → ((is_false g e.lit ≡ true) × IsHinted w) ⊎ (IsGiven g e.lit w × Stops g es) → ((f : Known) → Extends (put k e.lit) f → Stops f es → walk all f (replay all f es) ≡ true) → walk all g (cond b (replay all g es) (hint_then w all g (λ f. replay all f es))) ≡ true
    at true t w m (inl s) later = absurd (both_said (g e.lit.variable) e.lit.positive t s.0)
    at true t w m (inr s) later = later g (put_below k g e.lit h t) s.1
    at false t Decision m (inl s) later = absurd s.1
    at false t Decision m (inr s) later = absurd (false≢true (sym t ∙ s.0))
    at false t (Hint d) m s later = after d (step_cited g (cited all d)) t s (cited_more k g (cited all d) e.lit m o.0 h t) later
