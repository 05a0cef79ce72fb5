-- Acceptance is sound: a walk keeps to what every model says.
use Rattle.std.proofs.Common.{◌≡◌, ◌≢◌, ℕ, zero, suc, Bool, true, false, not, ◌&&◌, ◌||◌, eqb, cond, List, [], ◌∷◌, ◌++◌, map, refl, sym, ap, ◌∙◌, arith, Option, Some, None, ◌⊎◌, inl, inr}
use Rattle.std.specs.List.{slice_get}
use Rattle.std.proofs.lemmas.Bool.{false≢true, or_parts, true_from_ne_false, and_parts}
use Rattle.std.proofs.lemmas.Bool.Decides.{nat_tests}
use Rattle.zi_formula.specs.declared.formula.Lit.{Lit}
use Rattle.zi_formula.specs.declared.formula.Constraint.{Constraint}
use Rattle.zi_formula.specs.declared.formula.Constraint.TheVariants.{Clause, AtMostOne}
use Rattle.zi_formula.specs.declared.formula.Formula.{Formula}
use Rattle.zi_formula.specs.Truth.{opposite, lit_true, clause_true, none_true, group_true, constraint_true, all_true, Models}
use Rattle.zi_proof.specs.declared.proof.Lemma.{Lemma}
use Rattle.zi_proof.specs.Known.{Known, nothing, put, says, is_open, is_true, is_false, Outcome, Fails, Contradiction, Goes, standing, by_standing, clause_step, true_ones, deny, deny_all, by_true_ones, group_step, step}
use Rattle.zi_proof.specs.Accepted.{citable, cited, step_cited, lemma_clause, after_hint, no_more, walk, assume, walk_from, lits_within, accepted, lemma_accepted, follows_after}
use Rattle.zi_proof.specs.Laws.{MakesTrue, LemmasAreTrue, BlocksExclude}

-- the assignment says what is known
abbrev pub Agrees : (ℕ → Bool) → Known → Type 0
Agrees v k = (x : ℕ) (b : Bool) → k x ≡ Some b → v x ≡ b

abbrev pub Sound : (ℕ → Bool) → Outcome → Type 0
Sound v Fails = Unit {0}
Sound v Contradiction = ⊥
Sound v (Goes k) = Agrees v k

pub says_some : (o : Option Bool) (b : Bool) → says o b ≡ true → o ≡ Some b
says_some None b e = cc
says_some (Some true) true e = refl
says_some (Some true) false e = cc
says_some (Some false) true e = cc
says_some (Some false) false e = refl

cond_same : (p w : Bool) → w ≡ p → cond p w (not w) ≡ true
cond_same true w e = e
cond_same false w e = ap not e

pub lit_when : (v : ℕ → Bool) (l : Lit) → v l.variable ≡ l.positive → lit_true v l ≡ true
lit_when v l e = cond_same l.positive (v l.variable) e

value_when : (p w : Bool) → cond p w (not w) ≡ true → w ≡ p
value_when true w e = e
value_when false true e = cc
value_when false false e = refl

pub value_of_true : (v : ℕ → Bool) (l : Lit) → lit_true v l ≡ true → v l.variable ≡ l.positive
value_of_true v l e = value_when l.positive (v l.variable) e

not_same : (p w : Bool) → w ≡ not p → cond p w (not w) ≡ false
not_same true w e = e
not_same false w e = ap not e

false_lit : (v : ℕ → Bool) (k : Known) (l : Lit) → Agrees v k → is_false k l ≡ true → lit_true v l ≡ false
false_lit v k l g e = not_same l.positive (v l.variable) (g l.variable (not l.positive) (says_some (k l.variable) (not l.positive) e))

or_false : (a b : Bool) → a ≡ false → a || b ≡ b
or_false a b e = ap (λ c. c || b) e

standing_case : (v : ℕ → Bool) (k : Known) (l : Lit) (ls st : List Lit) (b : Bool) → Agrees v k → is_false k l ≡ b → clause_true v st ≡ clause_true v ls → clause_true v (cond b st (l ∷ st)) ≡ lit_true v l || clause_true v ls
standing_case v k l ls st true g e h = h ∙ sym (or_false (lit_true v l) (clause_true v ls) (false_lit v k l g e))
standing_case v k l ls st false g e h = ap (λ b. lit_true v l || b) h

standing_keeps : (v : ℕ → Bool) (k : Known) (ls : List Lit) → Agrees v k → clause_true v (standing k ls) ≡ clause_true v ls
standing_keeps v k [] g = refl
standing_keeps v k (l ∷ ls) g = standing_case v k l ls (standing k ls) (is_false k l) g refl (standing_keeps v k ls g)

put_case : (v : ℕ → Bool) (k : Known) (l : Lit) (x : ℕ) (b t : Bool) → eqb x l.variable ≡ t → v l.variable ≡ l.positive → Agrees v k → cond t (Some l.positive) (k x) ≡ Some b → v x ≡ b
put_case v k l x b true e h g w =
    let same : x ≡ l.variable = grind (arith, nat_tests) in
    let p : l.positive ≡ b = cc in
    ap v same ∙ (h ∙ p)
put_case v k l x b false e h g w = g x b w

pub put_agrees : (v : ℕ → Bool) (k : Known) (l : Lit) → v l.variable ≡ l.positive → Agrees v k → Agrees v (put k l)
put_agrees v k l h g = λ x b w. put_case v k l x b (eqb x l.variable) refl h g w

or_last : (a : Bool) → a || false ≡ true → a ≡ true
or_last true e = refl
or_last false e = e

one_case : (v : ℕ → Bool) (k : Known) (l : Lit) (t : Bool) → Agrees v k → v l.variable ≡ l.positive → Sound v (cond t Fails (Goes (put k l)))
one_case v k l true g h = tt
one_case v k l false g h = put_agrees v k l h g

by_standing_sound : (v : ℕ → Bool) (k : Known) (st : List Lit) → Agrees v k → clause_true v st ≡ true → Sound v (by_standing k st)
by_standing_sound v k [] g h = false≢true h
by_standing_sound v k (l ∷ []) g h = one_case v k l (is_true k l) g (value_of_true v l (or_last (lit_true v l) h))
by_standing_sound v k (l ∷ m ∷ st) g h = tt

clause_sound : (v : ℕ → Bool) (k : Known) (ls : List Lit) → Agrees v k → clause_true v ls ≡ true → Sound v (clause_step k ls)
clause_sound v k ls g h = by_standing_sound v k (standing k ls) g (standing_keeps v k ls g ∙ h)

-- groups

abbrev pub In : ℕ → List ℕ → Type 0
In x [] = ⊥
In x (y ∷ ys) = (x ≡ y) ⊎ In x ys

none_case : (c r : Bool) → cond c false r ≡ true → (c ≡ false) × (r ≡ true)
none_case true r e = absurd (false≢true e)
none_case false r e = (refl, e)

none_in : (v : ℕ → Bool) (xs : List ℕ) (x : ℕ) → none_true v xs ≡ true → In x xs → v x ≡ false
none_in v [] x h m = absurd m
none_in v (y ∷ ys) x h m =
    let p : (v y ≡ false) × (none_true v ys ≡ true) = none_case (v y) (none_true v ys) h in
    elim m [ inl e ↦ ap v e ∙ p.0 | inr i ↦ none_in v ys x p.1 i ]

two_case : (v : ℕ → Bool) (y : ℕ) (ys : List ℕ) (x t : ℕ) (c : Bool) → v y ≡ c → cond c (none_true v ys) (group_true v ys) ≡ true → (group_true v ys ≡ true → In x ys → In t ys → v x ≡ false) → (x ≡ y) ⊎ In x ys → (t ≡ y) ⊎ In t ys → x ≢ t → v t ≡ true → v x ≡ false
two_case v y ys x t true e h r (inl p) (inl q) n w = absurd (n (p ∙ sym q))
two_case v y ys x t true e h r (inl p) (inr q) n w = absurd (false≢true (sym (none_in v ys t h q) ∙ w))
two_case v y ys x t true e h r (inr p) q n w = none_in v ys x h p
two_case v y ys x t false e h r (inl p) q n w = ap v p ∙ e
two_case v y ys x t false e h r (inr p) (inl q) n w = absurd (false≢true (sym e ∙ (ap v (sym q) ∙ w)))
two_case v y ys x t false e h r (inr p) (inr q) n w = r h p q

others_false : (v : ℕ → Bool) (xs : List ℕ) (x t : ℕ) → group_true v xs ≡ true → In x xs → In t xs → x ≢ t → v t ≡ true → v x ≡ false
others_false v [] x t h p q n w = absurd p
others_false v (y ∷ ys) x t h p q n w =
    two_case v y ys x t (v y) refl h (λ k i j. others_false v ys x t k i j n w) p q n w

deny_case : (v : ℕ → Bool) (k : Known) (x : ℕ) (b : Bool) → is_open (k x) ≡ b → (is_open (k x) ≡ true → v x ≡ false) → Agrees v k → Agrees v (cond b (put k (record { variable = x; positive = false })) k)
deny_case v k x true e h g = put_agrees v k (record { variable = x; positive = false }) (h e) g
deny_case v k x false e h g = g

open_before_case : (k : Known) (x y : ℕ) (b t : Bool) → eqb y x ≡ t → is_open (cond b (cond t (Some false) (k y)) (k y)) ≡ true → is_open (k y) ≡ true
open_before_case k x y true true e h = absurd (false≢true h)
open_before_case k x y true false e h = h
open_before_case k x y false t e h = h

open_before_pick : (k : Known) (x y : ℕ) (b : Bool) → is_open ((cond b (put k (record { variable = x; positive = false })) k) y) ≡ true → is_open (k y) ≡ true
open_before_pick k x y true h = open_before_case k x y true (eqb y x) refl h
open_before_pick k x y false h = h

open_before : (k : Known) (x y : ℕ) → is_open (deny k x y) ≡ true → is_open (k y) ≡ true
open_before k x y h = open_before_pick k x y (is_open (k x)) h

deny_all_sound : (v : ℕ → Bool) (k : Known) (xs : List ℕ) → ((x : ℕ) → In x xs → is_open (k x) ≡ true → v x ≡ false) → Agrees v k → Agrees v (deny_all k xs)
deny_all_sound v k [] h g = g
deny_all_sound v k (x ∷ xs) h g =
    deny_all_sound v (deny k x) xs (λ y i o. h y (inr i) (open_before k x y o)) (deny_case v k x (is_open (k x)) refl (h x (inl refl)) g)

true_sub_case : (v : ℕ → Bool) (k : Known) (x : ℕ) (b : Bool) (xs ts : List ℕ) → says (k x) true ≡ b → ((t : ℕ) → In t ts → In t xs × (says (k t) true ≡ true)) → (t : ℕ) → In t (cond b (x ∷ ts) ts) → ((t ≡ x) ⊎ In t xs) × (says (k t) true ≡ true)
true_sub_case v k x true xs ts e h t (inl p) = (inl p, ap (λ y. says (k y) true) p ∙ e)
true_sub_case v k x true xs ts e h t (inr p) = (inr (h t p).0, (h t p).1)
true_sub_case v k x false xs ts e h t p = (inr (h t p).0, (h t p).1)

true_sub : (v : ℕ → Bool) (k : Known) (xs : List ℕ) (t : ℕ) → In t (true_ones k xs) → In t xs × (says (k t) true ≡ true)
true_sub v k [] t p = absurd p
true_sub v k (x ∷ xs) t p = true_sub_case v k x (says (k x) true) xs (true_ones k xs) refl (λ u q. true_sub v k xs u q) t p

-- the variables known to be true, in their order, are a part of the group
none_keep_case : (v : ℕ → Bool) (b c : Bool) (x : ℕ) (ts : List ℕ) → c ≡ v x → c ≡ false → none_true v ts ≡ true → none_true v (cond b (x ∷ ts) ts) ≡ true
none_keep_case v true c x ts e f h = ap (λ w. cond w false (none_true v ts)) (sym e ∙ f) ∙ h
none_keep_case v false c x ts e f h = h

none_keep : (v : ℕ → Bool) (k : Known) (xs : List ℕ) → none_true v xs ≡ true → none_true v (true_ones k xs) ≡ true
none_keep v k [] h = refl
none_keep v k (x ∷ xs) h =
    let p : (v x ≡ false) × (none_true v xs ≡ true) = none_case (v x) (none_true v xs) h in
    none_keep_case v (says (k x) true) (v x) x (true_ones k xs) refl p.0 (none_keep v k xs p.1)

none_group_case : (c r s : Bool) → cond c false r ≡ true → s ≡ true → cond c r s ≡ true
none_group_case true r s h k = absurd (false≢true h)
none_group_case false r s h k = k

none_group : (v : ℕ → Bool) (xs : List ℕ) → none_true v xs ≡ true → group_true v xs ≡ true
none_group v [] h = refl
none_group v (x ∷ xs) h = none_group_case (v x) (none_true v xs) (group_true v xs) h (none_group v xs (none_case (v x) (none_true v xs) h).1)

group_keep_case : (v : ℕ → Bool) (k : Known) (x : ℕ) (xs : List ℕ) (b c : Bool) → v x ≡ c → cond c (none_true v xs) (group_true v xs) ≡ true → (group_true v xs ≡ true → group_true v (true_ones k xs) ≡ true) → group_true v (cond b (x ∷ true_ones k xs) (true_ones k xs)) ≡ true
group_keep_case v k x xs true true e h r = ap (λ w. cond w (none_true v (true_ones k xs)) (group_true v (true_ones k xs))) e ∙ none_keep v k xs h
group_keep_case v k x xs true false e h r = ap (λ w. cond w (none_true v (true_ones k xs)) (group_true v (true_ones k xs))) e ∙ r h
group_keep_case v k x xs false true e h r = none_group v (true_ones k xs) (none_keep v k xs h)
group_keep_case v k x xs false false e h r = r h

group_keep : (v : ℕ → Bool) (k : Known) (xs : List ℕ) → group_true v xs ≡ true → group_true v (true_ones k xs) ≡ true
group_keep v k [] h = refl
group_keep v k (x ∷ xs) h = group_keep_case v k x xs (says (k x) true) (v x) refl h (group_keep v k xs)

two_true : (v : ℕ → Bool) (x y : ℕ) (ys : List ℕ) → v x ≡ true → v y ≡ true → group_true v (x ∷ y ∷ ys) ≡ true → ⊥
two_true v x y ys p q h =
    let n : none_true v (y ∷ ys) ≡ true = sym (ap (λ w. cond w (none_true v (y ∷ ys)) (group_true v (y ∷ ys))) p) ∙ h in
    false≢true (sym (ap (λ w. cond w false (none_true v ys)) q) ∙ n)

known_true : (v : ℕ → Bool) (k : Known) (t : ℕ) → Agrees v k → says (k t) true ≡ true → v t ≡ true
known_true v k t g e = g t true (says_some (k t) true e)

pub open_not_true : (o : Option Bool) → is_open o ≡ true → says o true ≡ true → ⊥
open_not_true None p q = false≢true q
open_not_true (Some b) p q = false≢true p

group_sound_by : (v : ℕ → Bool) (k : Known) (xs ts : List ℕ) → Agrees v k → group_true v xs ≡ true → group_true v ts ≡ true → ((t : ℕ) → In t ts → In t xs × (says (k t) true ≡ true)) → Sound v (by_true_ones k xs ts)
group_sound_by v k xs [] g h w s = tt
group_sound_by v k xs (t ∷ []) g h w s =
    let m : In t xs × (says (k t) true ≡ true) = s t (inl refl) in
    deny_all_sound v k xs (λ x i o. others_false v xs x t h i m.0 (λ e. open_not_true (k t) (ap (λ y. is_open (k y)) (sym e) ∙ o) m.1) (known_true v k t g m.1)) g
group_sound_by v k xs (t ∷ u ∷ ts) g h w s =
    two_true v t u ts (known_true v k t g (s t (inl refl)).1) (known_true v k u g (s u (inr (inl refl))).1) w

group_sound : (v : ℕ → Bool) (k : Known) (xs : List ℕ) → Agrees v k → group_true v xs ≡ true → Sound v (group_step k xs)
group_sound v k xs g h = group_sound_by v k xs (true_ones k xs) g h (group_keep v k xs h) (true_sub v k xs)

pub step_sound : (v : ℕ → Bool) (k : Known) (c : Constraint) → Agrees v k → constraint_true v c ≡ true → Sound v (step k c)
step_sound v k (Clause ls) g h = clause_sound v k ls g h
step_sound v k (AtMostOne xs) g h = group_sound v k xs g h

-- walks

get_sound : (v : ℕ → Bool) (k : Known) (all : List Constraint) (i : ℕ) → Agrees v k → all_true v all ≡ true → Sound v (step_cited k (slice_get all i))
get_sound v k [] i g h = tt
get_sound v k (c ∷ cs) zero g h = step_sound v k c g (and_parts (constraint_true v c) (all_true v cs) h).0
get_sound v k (c ∷ cs) (suc i) g h = get_sound v k cs i g (and_parts (constraint_true v c) (all_true v cs) h).1

pub cited_sound : (v : ℕ → Bool) (k : Known) (all : List Constraint) (hint : ℕ) → Agrees v k → all_true v all ≡ true → Sound v (step_cited k (cited all hint))
cited_sound v k all zero g h = tt
cited_sound v k all (suc i) g h = get_sound v k all i g h

after_sound : (v : ℕ → Bool) (o : Outcome) (rest : Known → Bool) (last : Bool) → Sound v o → ((k : Known) → Agrees v k → rest k ≡ true → ⊥) → after_hint o rest last ≡ true → ⊥
after_sound v Fails rest last s r h = false≢true h
after_sound v Contradiction rest last s r h = s
after_sound v (Goes k) rest last s r h = r k s h

pub walk_sound : (v : ℕ → Bool) (all : List Constraint) (k : Known) (hints : List ℕ) → all_true v all ≡ true → Agrees v k → walk all k hints ≡ true → ⊥
walk_sound v all k [] a g h = false≢true h
walk_sound v all k (i ∷ hints) a g h =
    after_sound v (step_cited k (cited all i)) (λ after. walk all after hints) (no_more hints) (cited_sound v k all i g a) (λ after g2 w. walk_sound v all after hints a g2 w) h

abbrev pub AgreesSome : (ℕ → Bool) → Option Known → Type 0
AgreesSome v None = Unit {0}
AgreesSome v (Some k) = Agrees v k

assume_case : (v : ℕ → Bool) (b : Bool) (o : Option Known) → AgreesSome v o → AgreesSome v (cond b None o)
assume_case v true o h = tt
assume_case v false o h = h

pub assume_sound : (v : ℕ → Bool) (k : Known) (ls : List Lit) → Agrees v k → MakesTrue v ls → AgreesSome v (assume k ls)
assume_sound v k [] g t = g
assume_sound v k (l ∷ ls) g t =
    assume_case v (is_false k l) (assume (put k l) ls) (assume_sound v (put k l) ls (put_agrees v k l (value_of_true v l t.0) g) t.1)

walk_from_sound : (v : ℕ → Bool) (all : List Constraint) (o : Option Known) (hints : List ℕ) → all_true v all ≡ true → AgreesSome v o → walk_from all o hints ≡ true → ⊥
walk_from_sound v all None hints a g h = false≢true h
walk_from_sound v all (Some k) hints a g h = walk_sound v all k hints a g h

none_is_not_some : (b c : Bool) → ◌≡◌ {A = Option Bool} None (Some b) → c ≡ b
none_is_not_some b c e = cc

nothing_agrees : (v : ℕ → Bool) → Agrees v nothing
nothing_agrees v = λ x b e. none_is_not_some b (v x) e

pub all_append : (v : ℕ → Bool) (cs ds : List Constraint) → all_true v cs ≡ true → all_true v ds ≡ true → all_true v (cs ++ ds) ≡ true
all_append v [] ds h k = k
all_append v (c ∷ cs) ds h k =
    ap (λ b. b && all_true v (cs ++ ds)) (and_parts (constraint_true v c) (all_true v cs) h).0 ∙ all_append v cs ds (and_parts (constraint_true v c) (all_true v cs) h).1 k

pub accepted_sound : (f : Formula) (ms : List Lemma) (assumed : List Lit) (hints : List ℕ) (v : ℕ → Bool) → Models v f → all_true v (map lemma_clause ms) ≡ true → accepted f ms assumed hints ≡ true → MakesTrue v assumed → ⊥
accepted_sound f ms assumed hints v m a h t =
    walk_from_sound v (citable f.constraints ms) (assume nothing assumed) hints (all_append v f.constraints (map lemma_clause ms) m a) (assume_sound v nothing assumed (nothing_agrees v) t) (and_parts (lits_within f.variables assumed) (walk_from (citable f.constraints ms) (assume nothing assumed) hints) h).1

opposite_case : (p w : Bool) → cond p w (not w) ≡ false → cond (not p) w (not w) ≡ true
opposite_case true true e = absurd (false≢true (sym e))
opposite_case true false e = refl
opposite_case false true e = refl
opposite_case false false e = absurd (false≢true (sym e))

opposites_true : (v : ℕ → Bool) (ls : List Lit) → clause_true v ls ≡ false → MakesTrue v (map opposite ls)
opposites_true v [] h = tt
opposites_true v (l ∷ ls) h =
    let p : (lit_true v l ≡ false) × (clause_true v ls ≡ false) = or_parts (lit_true v l) (clause_true v ls) h in
    (opposite_case l.positive (v l.variable) p.0, opposites_true v ls p.1)

pub lemma_sound : (f : Formula) (ms : List Lemma) (m : Lemma) (v : ℕ → Bool) → Models v f → all_true v (map lemma_clause ms) ≡ true → lemma_accepted f ms m ≡ true → clause_true v m.lits ≡ true
lemma_sound f ms m v g a h =
    true_from_ne_false (clause_true v m.lits) (λ e. accepted_sound f ms (map opposite m.lits) m.hints v g a h (opposites_true v m.lits e))

all_push : (v : ℕ → Bool) (ms : List Lemma) (m : Lemma) → all_true v (map lemma_clause ms) ≡ true → clause_true v m.lits ≡ true → all_true v (map lemma_clause (ms ++ m ∷ [])) ≡ true
all_push v [] m h k = ap (λ b. b && true) k
all_push v (n ∷ ms) m h k =
    ap (λ b. b && all_true v (map lemma_clause (ms ++ m ∷ []))) (and_parts (clause_true v n.lits) (all_true v (map lemma_clause ms)) h).0 ∙ all_push v ms m (and_parts (clause_true v n.lits) (all_true v (map lemma_clause ms)) h).1 k

follows_sound : (f : Formula) (e ms : List Lemma) (v : ℕ → Bool) → Models v f → all_true v (map lemma_clause e) ≡ true → follows_after f e ms ≡ true → all_true v (map lemma_clause ms) ≡ true
follows_sound f e [] v g a h = refl
follows_sound f e (m ∷ ms) v g a h =
    let c : clause_true v m.lits ≡ true = lemma_sound f e m v g a (and_parts (lemma_accepted f e m) (follows_after f (e ++ m ∷ []) ms) h).0 in
    ap (λ b. b && all_true v (map lemma_clause ms)) c ∙ follows_sound f (e ++ m ∷ []) ms v g (all_push v e m a c) (and_parts (lemma_accepted f e m) (follows_after f (e ++ m ∷ []) ms) h).1

pub lemmas_are_true : LemmasAreTrue
lemmas_are_true = λ f ms v h g. follows_sound f [] ms v g refl h

pub blocks_exclude : BlocksExclude
blocks_exclude = λ f ms assumed hints v h a g t. accepted_sound f ms assumed hints v g (lemmas_are_true f ms v h g) a t
