-- A hint walked from less than the trail knew: what the analysis of a conflict needs, since its lemma's hints are
-- only some of the trail's.
use Rattle.std.proofs.Common.{◌≡◌, ℕ, Bool, true, false, not, eqb, cond, List, [], ◌∷◌, refl, sym, ap, ◌∙◌, subst, arith, Option, Some, None, ◌⊎◌, inl, inr}
use Rattle.std.proofs.lemmas.Bool.{false≢true, cases_Bool}
use Rattle.std.proofs.lemmas.Bool.Decides.{nat_tests}
use Rattle.zi_formula.specs.declared.formula.Lit.{Lit}
use Rattle.zi_proof.specs.Known.{Known, put, says, is_open, is_true, is_false, Fails, Goes, standing, by_standing, clause_step, deny, deny_all, true_ones, by_true_ones, group_step}
use Rattle.zi_sat.proofs.GroupLaws.{not_x, In, true_cond}
use Rattle.zi_sat.specs.Marking.{Inside}
use Rattle.zi_proof.proofs.Sound.{says_some}
use Rattle.zi_sat.proofs.FreshStep.{says_open}
use Rattle.zi_proof.proofs.CutLaws.{test_same}
use Rattle.zi_sat.proofs.TrailLaws.{open_none}

-- every literal but one is false
abbrev pub FalseBut : Known → Lit → List Lit → Type 0
FalseBut w l [] = Unit {0}
FalseBut w l (m ∷ ms) = ((is_false w m ≡ true) ⊎ (m ≡ l)) × FalseBut w l ms

pub some_says : (b : Bool) → says (Some b) b ≡ true
some_says true = refl
some_says false = refl

pub says_within : (w k : Known) (x : ℕ) (b : Bool) → Inside w k → says (w x) b ≡ true → says (k x) b ≡ true
says_within w k x b h e = ap (λ o. says o b) (h x b (says_some (w x) b e)) ∙ some_says b

open_within_case : (o r : Option Bool) → ((b : Bool) → o ≡ Some b → r ≡ Some b) → is_open r ≡ true → is_open o ≡ true
open_within_case None r h e = refl
open_within_case (Some b) r h e = absurd (false≢true (sym (ap is_open (h b refl)) ∙ e))

pub open_within : (w k : Known) (x : ℕ) → Inside w k → is_open (k x) ≡ true → is_open (w x) ≡ true
open_within w k x h e = open_within_case (w x) (k x) (h x) e

-- a literal that isn't false where more is known isn't false where less is known
pub not_false_within : (w k : Known) (m : Lit) → Inside w k → is_false k m ≡ false → is_false w m ≡ false
not_false_within w k m h e = elim (cases_Bool (is_false w m)) [ inr f ↦ f | inl t ↦ absurd (false≢true (sym e ∙ says_within w k m.variable (not m.positive) h t)) ]

false_step : (w k : Known) (l m : Lit) → Inside w k → is_open (k l.variable) ≡ true → is_false k m ≡ true → (is_false w m ≡ true) ⊎ (m ≡ l) → is_false w m ≡ true
false_step w k l m h o e (inl f) = f
false_step w k l m h o e (inr s) =
    absurd (false≢true (sym (says_open (k l.variable) (not l.positive) o) ∙ (ap (λ z. is_false k z) (sym s) ∙ e)))

same_cond : (a b : Bool) (m : Lit) (xs ys : List Lit) → a ≡ b → xs ≡ ys → cond a xs (m ∷ xs) ≡ cond b ys (m ∷ ys)
same_cond a b m xs ys e f = ap (λ c. cond c xs (m ∷ xs)) e ∙ ap (λ zs. cond b zs (m ∷ zs)) f

standing_sub_case : (w k : Known) (l m : Lit) (b : Bool) → Inside w k → is_open (k l.variable) ≡ true → is_false k m ≡ b → (is_false w m ≡ true) ⊎ (m ≡ l) → is_false w m ≡ b
standing_sub_case w k l m true h o e f = false_step w k l m h o e f
standing_sub_case w k l m false h o e f = not_false_within w k m h e

standing_sub : (w k : Known) (l : Lit) (ls : List Lit) → Inside w k → is_open (k l.variable) ≡ true → FalseBut w l ls → standing w ls ≡ standing k ls
standing_sub w k l [] h o f = refl
standing_sub w k l (m ∷ ls) h o f =
    same_cond (is_false w m) (is_false k m) m (standing w ls) (standing k ls) (standing_sub_case w k l m (is_false k m) h o refl f.0) (standing_sub w k l ls h o f.1)

pub put_within_case : (w k : Known) (l : Lit) (x : ℕ) (b t : Bool) → Inside w k → cond t (Some l.positive) (w x) ≡ Some b → cond t (Some l.positive) (k x) ≡ Some b
put_within_case w k l x b true h e = e
put_within_case w k l x b false h e = h x b e

-- A clause that made l true makes l true from less too, where its other literals are known to be false.
pub clause_sub : (w k : Known) (l : Lit) (ls : List Lit) → Inside w k → is_open (k l.variable) ≡ true → standing k ls ≡ l ∷ [] → FalseBut w l ls → (clause_step w ls ≡ Goes (put w l)) × Inside (put w l) (put k l)
clause_sub w k l ls h o s f =
    let st : standing w ls ≡ l ∷ [] = standing_sub w k l ls h o f ∙ s in
    let t : is_true w l ≡ false = says_open (w l.variable) l.positive (open_within w k l.variable h o) in
    (ap (by_standing w) st ∙ ap (λ b. cond b Fails (Goes (put w l))) t, λ x b e. put_within_case w k l x b (eqb x l.variable) h e)

-- groups

false_open : (o : Option Bool) → (o ≡ None) ⊎ ((b : Bool) × (o ≡ Some b))
false_open None = inl refl
false_open (Some b) = inr (b, refl)

pub put_keep_case : (k : Known) (l : Lit) (x : ℕ) (b t : Bool) → eqb x l.variable ≡ t → is_open (k l.variable) ≡ true → k x ≡ Some b → cond t (Some l.positive) (k x) ≡ Some b
put_keep_case k l x b true e o h =
    let same : x ≡ l.variable = grind (arith, nat_tests) in
    absurd (false≢true (sym (ap is_open h) ∙ (ap (λ z. is_open (k z)) same ∙ o)))
put_keep_case k l x b false e o h = h

deny_keep_case : (k : Known) (y x : ℕ) (b t : Bool) → is_open (k y) ≡ t → k x ≡ Some b → (cond t (put k (not_x y)) k) x ≡ Some b
deny_keep_case k y x b true e h = put_keep_case k (not_x y) x b (eqb x y) refl e h
deny_keep_case k y x b false e h = h

pub deny_all_keeps : (k : Known) (xs : List ℕ) (x : ℕ) (b : Bool) → k x ≡ Some b → deny_all k xs x ≡ Some b
deny_all_keeps k [] x b h = h
deny_all_keeps k (y ∷ xs) x b h = deny_all_keeps (deny k y) xs x b (deny_keep_case k y x b (is_open (k y)) refl h)

self_false_case : (k : Known) (x : ℕ) (t : Bool) → t ≡ true → cond t (Some false) (k x) ≡ Some false
self_false_case k x true h = refl
self_false_case k x false h = absurd (false≢true h)

deny_self_case : (k : Known) (x : ℕ) (t : Bool) → is_open (k x) ≡ t → k x ≡ None → (cond t (put k (not_x x)) k) x ≡ Some false
deny_self_case k x true e h = self_false_case k x (eqb x x) (test_same x)
deny_self_case k x false e h = absurd (false≢true (sym e ∙ ap is_open h))

deny_or_put : (k : Known) (x : ℕ) (s : Bool) → k x ≡ None → (cond s (Some false) (k x) ≡ None) ⊎ (cond s (Some false) (k x) ≡ Some false)
deny_or_put k x true h = inr refl
deny_or_put k x false h = inl h

deny_or_case : (k : Known) (y x : ℕ) (t s : Bool) → eqb x y ≡ s → k x ≡ None → ((cond t (put k (not_x y)) k) x ≡ None) ⊎ ((cond t (put k (not_x y)) k) x ≡ Some false)
deny_or_case k y x true s e h = deny_or_put k x (eqb x y) h
deny_or_case k y x false s e h = inl h

deny_keeps_or : (k : Known) (y x : ℕ) → k x ≡ None → ((deny k y) x ≡ None) ⊎ ((deny k y) x ≡ Some false)
deny_keeps_or k y x h = deny_or_case k y x (is_open (k y)) (eqb x y) refl h

pub deny_at : (k : Known) (xs : List ℕ) (x : ℕ) → k x ≡ None → In x xs → deny_all k xs x ≡ Some false
deny_at k [] x h i = absurd i
deny_at k (y ∷ xs) x h (inl e) =
    deny_all_keeps (deny k y) xs x false (subst (λ z. deny k z x ≡ Some false) e (deny_self_case k x (is_open (k x)) refl h))
deny_at k (y ∷ xs) x h (inr i) =
    elim (deny_keeps_or k y x h) [ inl n ↦ deny_at (deny k y) xs x n i | inr f ↦ deny_all_keeps (deny k y) xs x false f ]

pub none_is_some : (b : Bool) → ◌≡◌ {A = Option Bool} None (Some b) → ⊥
none_is_some b e = cc

abbrev pub Made : Known → List ℕ → ℕ → Bool → Type 0
Made w xs x b = (w x ≡ Some b) ⊎ ((w x ≡ None) × In x xs × (b ≡ false))

false_is : (b : Bool) → ◌≡◌ {A = Option Bool} (Some false) (Some b) → b ≡ false
false_is b e = cc

made_put_case : (w : Known) (y x : ℕ) (xs : List ℕ) (b t : Bool) → eqb x y ≡ t → w y ≡ None → cond t (Some false) (w x) ≡ Some b → Made w (y ∷ xs) x b
made_put_case w y x xs b true e n h =
    let same : x ≡ y = grind (arith, nat_tests) in
    inr (ap w same ∙ n, inl same, false_is b h)
made_put_case w y x xs b false e n h = inl h

made_deny_case : (w : Known) (y x : ℕ) (xs : List ℕ) (b t : Bool) → is_open (w y) ≡ t → (cond t (put w (not_x y)) w) x ≡ Some b → Made w (y ∷ xs) x b
made_deny_case w y x xs b true e h = made_put_case w y x xs b (eqb x y) refl (open_none (w y) e) h
made_deny_case w y x xs b false e h = inl h

some_none : (o : Option Bool) (t : Bool) → t ≡ true → cond t (Some false) o ≡ None → o ≡ None
some_none o true e h = let x : ◌≡◌ {A = Option Bool} (Some false) None = h in cc
some_none o false e h = h

none_before_case : (w : Known) (y x : ℕ) (t s : Bool) → (cond t (put w (not_x y)) w) x ≡ None → eqb x y ≡ s → w x ≡ None
none_before_case w y x false s h e = h
none_before_case w y x true true h e = let z : ◌≡◌ {A = Option Bool} (cond (eqb x y) (Some false) (w x)) None = h in some_none (w x) (eqb x y) e z
none_before_case w y x true false h e =
    let z : cond (eqb x y) (Some false) (w x) ≡ None = h in
    sym (ap (λ c. cond c (Some false) (w x)) e) ∙ z

pub made : (w : Known) (xs : List ℕ) (x : ℕ) (b : Bool) → deny_all w xs x ≡ Some b → Made w xs x b
made w [] x b h = inl h
made w (y ∷ xs) x b h =
    elim (made (deny w y) xs x b h) [
      | inl e ↦ made_deny_case w y x xs b (is_open (w y)) refl e
      | inr p ↦ inr (none_before_case w y x (is_open (w y)) (eqb x y) p.0 refl, inr p.1, p.2)
    ]

abbrev pub OnlyTrue : Known → List ℕ → ℕ → Type 0
OnlyTrue k xs t = (y : ℕ) → In y xs → says (k y) true ≡ true → y ≡ t

true_same_case : (w k : Known) (y t : ℕ) (b : Bool) → Inside w k → w t ≡ Some true → says (k y) true ≡ b → (b ≡ true → y ≡ t) → says (w y) true ≡ b
true_same_case w k y t true h e f o = ap (λ z. says (w z) true) (o refl) ∙ ap (λ v. says v true) e
true_same_case w k y t false h e f o =
    elim (cases_Bool (says (w y) true)) [ inr g ↦ g | inl g ↦ absurd (false≢true (sym f ∙ says_within w k y true h g)) ]

ones_sub : (w k : Known) (xs : List ℕ) (t : ℕ) → Inside w k → w t ≡ Some true → OnlyTrue k xs t → true_ones w xs ≡ true_ones k xs
ones_sub w k [] t h e o = refl
ones_sub w k (y ∷ xs) t h e o =
    true_cond (says (w y) true) (says (k y) true) y (true_ones w xs) (true_ones k xs) (true_same_case w k y t (says (k y) true) h e refl (λ z. o y (inl refl) z)) (ones_sub w k xs t h e (λ z i s. o z (inr i) s))

denied_within_case : (w k : Known) (xs : List ℕ) (t x : ℕ) (b : Bool) → Inside w k → w t ≡ Some true → OnlyTrue k xs t → Made w xs x b → deny_all k xs x ≡ Some b
denied_within_case w k xs t x b h e o (inl s) = deny_all_keeps k xs x b (h x b s)
denied_within_case w k xs t x b h e o (inr (n, i, f)) =
    subst (λ c. deny_all k xs x ≡ Some c) (sym f) (elim (false_open (k x)) [
      | inl z ↦ deny_at k xs x z i
      | inr (c, z) ↦ elim (cases_Bool c) [
        | inr q ↦ deny_all_keeps k xs x false (z ∙ ap Some q)
        | inl q ↦
            let y : x ≡ t = o x i (ap (λ u. says u true) (z ∙ ap Some q)) in
            absurd (none_is_some true (sym n ∙ (ap w y ∙ e)))
      ]
    ])

-- A group that made variables false makes them false from less too, where its one true variable is known.
pub group_sub : (w k : Known) (xs : List ℕ) (t : ℕ) → Inside w k → w t ≡ Some true → true_ones k xs ≡ t ∷ [] → OnlyTrue k xs t → (group_step w xs ≡ Goes (deny_all w xs)) × Inside (deny_all w xs) (deny_all k xs)
group_sub w k xs t h e s o =
    (ap (by_true_ones w xs) (ones_sub w k xs t h e o ∙ s), λ x b d. denied_within_case w k xs t x b h e o (made w xs x b d))
