-- The ends of a search: a model, a refutation, a conflict.
use Rattle.std.proofs.Common.{◌≡◌, ℕ, ◌<◌, ◌≤◌, Bool, true, false, not, ◌&&◌, ◌||◌, cond, List, [], ◌∷◌, ◌++◌, map, length, take, get_or, refl, sym, ap, ◌∙◌, subst, Option, Some, None}
use Rattle.std.specs.List.{All}
use Rattle.std.proofs.lemmas.List.Elements.{All-head, All-tail}
use Rattle.std.proofs.lemmas.Bool.{false≢true, or_right, or_left, and_parts}
use Rattle.zi_formula.specs.declared.formula.Lit.{Lit}
use Rattle.zi_formula.specs.declared.formula.Constraint.{Constraint}
use Rattle.zi_formula.specs.declared.formula.Constraint.TheVariants.{Clause, AtMostOne}
use Rattle.zi_formula.specs.declared.formula.Formula.{Formula}
use Rattle.zi_formula.specs.Truth.{lit_true, clause_true, none_true, group_true, constraint_true, all_true}
use Rattle.zi_formula.specs.Form.{LitsWithin, ConstraintWithin}
use Rattle.zi_proof.specs.declared.proof.Lemma.{Lemma}
use Rattle.zi_proof.specs.Known.{Known, nothing, put, says, is_open, is_false, standing, by_standing, true_ones, Contradiction}
use Rattle.zi_proof.specs.Accepted.{citable, cited, step_cited, lemma_clause, follows, proves}
use Rattle.zi_formula.specs.Form.{has_all}
use Rattle.zi_proof.specs.Laws.{MakesTrue}
use Rattle.zi_proof.proofs.Sound.{Agrees, Sound, cited_sound, lemmas_are_true, value_of_true, put_agrees, all_append}
use Rattle.zi_sat.specs.declared.entry.Entry.{Entry}
use Rattle.zi_sat.specs.Trail.{lits_of, learn, known_from, fails, silent, silent_by, all_silent}
use Rattle.zi_sat.specs.declared.entry.Why.TheVariants.{Decision}
use Rattle.zi_sat.specs.Moves.{Lawful}
use Rattle.zi_sat.specs.Ends.{NoModelHere}
use Rattle.zi_sat.proofs.MoveLaws.{lawful_more, lawful_cut}
use Rattle.zi_sat.proofs.LessLaws.{none_is_some}

abbrev by : Known → ℕ → Bool
by k x = says (k x) true

abbrev pub AllDecided : Known → ℕ → Type 0
AllDecided k n = (x : ℕ) → 1 ≤ x → x ≤ n → is_open (k x) ≡ false

true_unless : (o : Option Bool) (p : Bool) → is_open o ≡ false → says o (not p) ≡ false → cond p (says o true) (not (says o true)) ≡ true
true_unless None p h e = absurd (false≢true (sym h))
true_unless (Some true) true h e = refl
true_unless (Some true) false h e = absurd (false≢true (sym e))
true_unless (Some false) true h e = absurd (false≢true (sym e))
true_unless (Some false) false h e = refl

clause_case : (k : Known) (m : Lit) (ls : List Lit) (b : Bool) → is_open (k m.variable) ≡ false → is_false k m ≡ b → ((standing k ls ≡ [] → ⊥) → clause_true (by k) ls ≡ true) → (cond b (standing k ls) (m ∷ standing k ls) ≡ [] → ⊥) → lit_true (by k) m || clause_true (by k) ls ≡ true
clause_case k m ls true d e r h = or_right (lit_true (by k) m) (clause_true (by k) ls) (r h)
clause_case k m ls false d e r h = or_left (lit_true (by k) m) (clause_true (by k) ls) (true_unless (k m.variable) m.positive d e)

abbrev InRange : ℕ → Lit → Type 0
InRange n l = (1 ≤ l.variable) × (l.variable ≤ n)

clause_model : (k : Known) (n : ℕ) (ls : List Lit) → AllDecided k n → LitsWithin n ls → (standing k ls ≡ [] → ⊥) → clause_true (by k) ls ≡ true
clause_model k n [] d w h = absurd (h refl)
clause_model k n (m ∷ ls) d w h =
    let r : InRange n m = All-head (InRange n) m ls w in
    clause_case k m ls (is_false k m) (d m.variable r.0 r.1) refl (clause_model k n ls d (All-tail (InRange n) m ls w)) h

not_empty : (k : Known) (st : List Lit) → fails (by_standing k st) ≡ true → st ≡ [] → ⊥
not_empty k [] h e = false≢true h
not_empty k (l ∷ st) h e = cc

none_case : (k : Known) (x : ℕ) (ts : List ℕ) (b r : Bool) → cond b (x ∷ ts) ts ≡ [] → (ts ≡ [] → r ≡ true) → cond b false r ≡ true
none_case k x ts true r e h = cc
none_case k x ts false r e h = h e

none_model : (k : Known) (xs : List ℕ) → true_ones k xs ≡ [] → none_true (by k) xs ≡ true
none_model k [] e = refl
none_model k (x ∷ xs) e = none_case k x (true_ones k xs) (says (k x) true) (none_true (by k) xs) e (none_model k xs)

abbrev pub few : List ℕ → Bool
few [] = true
few (t ∷ []) = true
few (t ∷ u ∷ ts) = false

few_silent : (k : Known) (xs ts : List ℕ) → silent_by k xs ts ≡ true → few ts ≡ true
few_silent k xs [] h = refl
few_silent k xs (t ∷ []) h = refl
few_silent k xs (t ∷ u ∷ ts) h = h

rest_empty : (x : ℕ) (ts : List ℕ) → few (x ∷ ts) ≡ true → ts ≡ []
rest_empty x [] h = refl
rest_empty x (t ∷ ts) h = absurd (false≢true h)

group_case : (k : Known) (x : ℕ) (xs : List ℕ) (b : Bool) → few (cond b (x ∷ true_ones k xs) (true_ones k xs)) ≡ true → (few (true_ones k xs) ≡ true → group_true (by k) xs ≡ true) → cond b (none_true (by k) xs) (group_true (by k) xs) ≡ true
group_case k x xs true h r = none_model k xs (rest_empty x (true_ones k xs) h)
group_case k x xs false h r = r h

group_model : (k : Known) (xs : List ℕ) → few (true_ones k xs) ≡ true → group_true (by k) xs ≡ true
group_model k [] h = refl
group_model k (x ∷ xs) h = group_case k x xs (says (k x) true) h (group_model k xs)

constraint_model : (k : Known) (n : ℕ) (c : Constraint) → AllDecided k n → ConstraintWithin n c → silent k c ≡ true → constraint_true (by k) c ≡ true
constraint_model k n (Clause ls) d w s = clause_model k n ls d w (not_empty k (standing k ls) s)
constraint_model k n (AtMostOne xs) d w s = group_model k xs (few_silent k xs (true_ones k xs) s)

-- where all is decided and silent, what is known is a model
pub all_model : (k : Known) (n : ℕ) (cs : List Constraint) → AllDecided k n → All (λ c. ConstraintWithin n c) cs → all_silent k cs ≡ true → all_true (by k) cs ≡ true
all_model k n [] d w s = refl
all_model k n (c ∷ cs) d w s =
    let here : constraint_true (by k) c ≡ true = constraint_model k n c d (All-head (λ c. ConstraintWithin n c) c cs w) (and_parts (silent k c) (all_silent k cs) s).0 in
    ap (λ b. b && all_true (by k) cs) here ∙ all_model k n cs d (All-tail (λ c. ConstraintWithin n c) c cs w) (and_parts (silent k c) (all_silent k cs) s).1

-- a conflict leaves no model

learn_agrees : (v : ℕ → Bool) (k : Known) (ls : List Lit) → Agrees v k → MakesTrue v ls → Agrees v (learn k ls)
learn_agrees v k [] g t = g
learn_agrees v k (l ∷ ls) g t = learn_agrees v (put k l) ls (put_agrees v k l (value_of_true v l t.0) g) t.1

pub no_model_here : (f : Formula) (ms : List Lemma) (es : List Entry) (h : ℕ) → follows f ms ≡ true → step_cited (known_from es) (cited (citable f.constraints ms) h) ≡ Contradiction → NoModelHere f es
no_model_here f ms es h w c = λ v m t. subst (Sound v) c (cited_sound v (known_from es) (citable f.constraints ms) h (learn_agrees v nothing (lits_of es) (λ x b e. absurd (none_is_some b e)) t) (all_append v f.constraints (map lemma_clause ms) m (lemmas_are_true f ms v w m)))

-- the empty lemma refutes

pub proves_push : (ms : List Lemma) (m : Lemma) → m.lits ≡ [] → proves [] (ms ++ m ∷ []) ≡ true
proves_push [] m e = ap (λ ls. has_all ls [] && has_all [] ls) e
proves_push (n ∷ []) m e = ap (λ ls. has_all ls [] && has_all [] ls) e
proves_push (n ∷ o ∷ ms) m e = proves_push (o ∷ ms) m e

pub lawful_grown : (cs : List Constraint) (ms ns : List Lemma) (m : Lemma) (chooses : Known → Option Lit) (es : List Entry) → ns ≡ ms ++ m ∷ [] → Lawful (citable cs ms) cs chooses es → Lawful (citable cs ns) cs chooses es
lawful_grown cs ms ns m chooses es g l =
    subst (λ xs. Lawful (citable cs xs) cs chooses es) (sym g) (lawful_more cs ms m chooses es l)

pub lawful_back : (cs : List Constraint) (ms ns : List Lemma) (m : Lemma) (chooses : Known → Option Lit) (es fs : List Entry) (i : ℕ) (d : Entry) → ns ≡ ms ++ m ∷ [] → fs ≡ take i es → i < length es → (get_or es i d).why ≡ Decision → Lawful (citable cs ms) cs chooses es → Lawful (citable cs ns) cs chooses fs
lawful_back cs ms ns m chooses es fs i d g f lt w l =
    subst (Lawful (citable cs ns) cs chooses) (sym f) (lawful_cut (citable cs ns) cs chooses es i d (lawful_grown cs ms ns m chooses es g l) lt w)

pub some_entry : Entry
some_entry = record { lit = record { variable = 0; positive = true }; why = Decision }
