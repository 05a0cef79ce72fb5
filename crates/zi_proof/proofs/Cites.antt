-- What a hint cites, and the ranges of cited literals.
use Rattle.std.proofs.Common.{◌≡◌, ℕ, zero, suc, ◌+◌, ◌-◌, ◌<◌, ◌≤◌, Bool, true, false, ◌&&◌, leb, List, [], ◌∷◌, ◌++◌, map, length, get_or, take, drop, refl, sym, ap, ◌∙◌, subst, arith, Option, Some, None}
use Rattle.std.specs.List.{All, slice_get}
use Rattle.std.proofs.lemmas.List.Elements.{All-nil, All-cons, All-get_or}
use Rattle.std.proofs.lemmas.Option.{slice_get_within, get_or_from_slice_get}
use Rattle.std.proofs.lemmas.Bool.Decides.{nat_tests}
use Rattle.zi_formula.specs.declared.formula.Lit.{Lit}
use Rattle.zi_formula.specs.declared.formula.Constraint.{Constraint}
use Rattle.zi_formula.specs.declared.formula.Constraint.TheVariants.{Clause, AtMostOne}
use Rattle.zi_proof.specs.declared.proof.Lemma.{Lemma}
use Rattle.zi_proof.specs.Accepted.{citable, cited, lemma_clause, lits_within, lemmas_within, lemma_accepted, walk_from, assume, follows_after, follows, proves}
use Rattle.zi_formula.specs.Form.{has_all, ConstraintWithin}
use Rattle.zi_formula.specs.Truth.{opposite}
use Rattle.zi_formula.specs.declared.formula.Formula.{Formula}
use Rattle.zi_proof.specs.Known.{nothing}
use Rattle.zi_proof.specs.Taken.{Held}
use Rattle.std.proofs.lemmas.List.{take_more, at_drop_more}
use Rattle.std.proofs.lemmas.Bool.{and_parts}

head_within : (n m : ℕ) (l : Lit) (b : Bool) → m ≡ n + 1 → leb 1 l.variable && (leb l.variable n && b) ≡ true → (1 ≤ l.variable) × (l.variable < m)
head_within n m l b e h =
    let j = (and_parts (leb 1 l.variable) (leb l.variable n && b) h).0 in
    let k = (and_parts (leb l.variable n) b (and_parts (leb 1 l.variable) (leb l.variable n && b) h).1).0 in
    (grind (arith, nat_tests), grind (arith, nat_tests))

rest_within : (n : ℕ) (l : Lit) (b : Bool) → leb 1 l.variable && (leb l.variable n && b) ≡ true → b ≡ true
rest_within n l b h = (and_parts (leb l.variable n) b (and_parts (leb 1 l.variable) (leb l.variable n && b) h).1).1

get_past : (cs : List Constraint) (ds : List Constraint) (k : ℕ) → length cs ≤ k → slice_get (cs ++ ds) k ≡ slice_get ds (k - length cs)
get_past [] ds k h =
    let e : k - 0 ≡ k = omega arith in
    ap (slice_get ds) (sym e)
get_past (c ∷ cs) ds zero h = absurd (omega arith)
get_past (c ∷ cs) ds (suc k) h =
    let fewer : length cs ≤ k = omega arith in
    let e : suc k - length (c ∷ cs) ≡ k - length cs = omega arith in
    get_past cs ds k fewer ∙ ap (slice_get ds) (sym e)

pub get_clause : (ms : List Lemma) (k : ℕ) (d : Lemma) → k < length ms → slice_get (map lemma_clause ms) k ≡ Some (Clause (get_or ms k d).lits)
get_clause [] k d h = absurd (omega arith)
get_clause (m ∷ ms) zero d h = refl
get_clause (m ∷ ms) (suc k) d h = get_clause ms k d (omega arith)

get_none : (ms : List Lemma) (k : ℕ) → length ms ≤ k → slice_get (map lemma_clause ms) k ≡ None
get_none [] k h = refl
get_none (m ∷ ms) zero h = absurd (omega arith)
get_none (m ∷ ms) (suc k) h = get_none ms k (omega arith)

one_up : (place h : ℕ) → place ≡ suc h - 1 → place ≡ h
one_up place h e = omega arith

cited_lemma_suc : (cs : List Constraint) (ms : List Lemma) (h : ℕ) (d : Lemma) → length cs ≤ h → h - length cs < length ms → cited (citable cs ms) (suc h) ≡ Some (Clause (get_or ms (h - length cs) d).lits)
cited_lemma_suc cs ms h d p q = get_past cs (map lemma_clause ms) h p ∙ get_clause ms (h - length cs) d q

cited_none_suc : (cs : List Constraint) (ms : List Lemma) (h : ℕ) → length cs ≤ h → length ms ≤ h - length cs → cited (citable cs ms) (suc h) ≡ None
cited_none_suc cs ms h p q = get_past cs (map lemma_clause ms) h p ∙ get_none ms (h - length cs) q

-- the hint is one more than the place
pub cited_lemma : (cs : List Constraint) (ms : List Lemma) (hint place : ℕ) (d : Lemma) → place ≡ hint - 1 → 0 < hint → length cs ≤ place → place - length cs < length ms → cited (citable cs ms) hint ≡ Some (Clause (get_or ms (place - length cs) d).lits)
cited_lemma cs ms zero place d e z p q = absurd (omega arith)
cited_lemma cs ms (suc h) place d e z p q =
    let same : h ≡ place = sym (one_up place h e) in
    subst (λ n. cited (citable cs ms) (suc h) ≡ Some (Clause (get_or ms (n - length cs) d).lits)) same (cited_lemma_suc cs ms h d (subst (λ n. length cs ≤ n) (sym same) p) (subst (λ n. n - length cs < length ms) (sym same) q))

pub cited_none : (cs : List Constraint) (ms : List Lemma) (hint place : ℕ) → place ≡ hint - 1 → 0 < hint → length cs ≤ place → length ms ≤ place - length cs → cited (citable cs ms) hint ≡ None
cited_none cs ms zero place e z p q = refl
cited_none cs ms (suc h) place e z p q =
    let same : h ≡ place = sym (one_up place h e) in
    cited_none_suc cs ms h (subst (λ n. length cs ≤ n) (sym same) p) (subst (λ n. length ms ≤ n - length cs) (sym same) q)

pub lits_all : (n m : ℕ) (ls : List Lit) → m ≡ n + 1 → lits_within n ls ≡ true → All (λ l. (1 ≤ l.variable) × (l.variable < m)) ls
lits_all n m [] e h = All-nil (λ l. (1 ≤ l.variable) × (l.variable < m))
lits_all n m (l ∷ ls) e h =
    All-cons (λ l. (1 ≤ l.variable) × (l.variable < m)) l ls (head_within n m l (lits_within n ls) e h) (lits_all n m ls e (rest_within n l (lits_within n ls) h))

pub lemma_lits : (n : ℕ) (ms : List Lemma) (k : ℕ) (d : Lemma) → lemmas_within n ms ≡ true → k < length ms → lits_within n (get_or ms k d).lits ≡ true
lemma_lits n [] k d h q = absurd (omega arith)
lemma_lits n (m ∷ ms) zero d h q = (and_parts (lits_within n m.lits) (lemmas_within n ms) h).0
lemma_lits n (m ∷ ms) (suc k) d h q = lemma_lits n ms k d (and_parts (lits_within n m.lits) (lemmas_within n ms) h).1 (omega arith)

pub lemma_cited : (cs : List Constraint) (ms : List Lemma) (hint n : ℕ) (d : Lemma) → n ≡ length cs → 0 < hint → n ≤ hint - 1 → hint - 1 - n < length ms → cited (citable cs ms) hint ≡ Some (Clause (get_or ms (hint - 1 - n) d).lits)
lemma_cited cs ms hint n d e =
    subst (λ k. 0 < hint → k ≤ hint - 1 → hint - 1 - k < length ms → cited (citable cs ms) hint ≡ Some (Clause (get_or ms (hint - 1 - k) d).lits)) (sym e) (λ z p q. cited_lemma cs ms hint (hint - 1) d refl z p q)

pub none_cited : (cs : List Constraint) (ms : List Lemma) (hint n : ℕ) → n ≡ length cs → 0 < hint → n ≤ hint - 1 → length ms ≤ hint - 1 - n → cited (citable cs ms) hint ≡ None
none_cited cs ms hint n e =
    subst (λ k. 0 < hint → k ≤ hint - 1 → length ms ≤ hint - 1 - k → cited (citable cs ms) hint ≡ None) (sym e) (λ z p q. cited_none cs ms hint (hint - 1) refl z p q)

pub get_before : (cs ds : List Constraint) (i : ℕ) (c : Constraint) → slice_get cs i ≡ Some c → slice_get (cs ++ ds) i ≡ Some c
get_before [] ds i c e = let z : ◌≡◌ {A = Option Constraint} None (Some c) = e in cc
get_before (x ∷ cs) ds zero c e = e
get_before (x ∷ cs) ds (suc i) c e = get_before cs ds i c e

-- a hint that cites a constraint
pub constraint_cited : (cs : List Constraint) (ms : List Lemma) (hint : ℕ) (c : Constraint) → 0 < hint → slice_get cs (hint - 1) ≡ Some c → cited (citable cs ms) hint ≡ Some c
constraint_cited cs ms zero c z e = absurd (omega (arith, z))
constraint_cited cs ms (suc h) c z e =
    let same : suc h - 1 ≡ h = omega arith in
    get_before cs (map lemma_clause ms) h c (ap (slice_get cs) (sym same) ∙ e)

-- a constraint of a formula is over its variables
pub within_at : (n : ℕ) (cs : List Constraint) (i : ℕ) (c : Constraint) → All (λ d. ConstraintWithin n d) cs → slice_get cs i ≡ Some c → ConstraintWithin n c
within_at n cs i c a e = subst (ConstraintWithin n) (get_or_from_slice_get cs i c c e) (All-get_or (λ d. ConstraintWithin n d) cs i c (slice_get_within cs i c e) a)

pub held_at : (n m : ℕ) (c : Constraint) → m ≡ n + 1 → ConstraintWithin n c → Held m c
held_at n m (Clause ls) e w = λ k d l. (let p = w k d l in (p.0, omega (arith, p.1, e)))
held_at n m (AtMostOne xs) e w = λ k d l. (let p = w k d l in omega (arith, p.1, e))

pub within_opposite : (n : ℕ) (ls : List Lit) → lits_within n (map opposite ls) ≡ lits_within n ls
within_opposite n [] = refl
within_opposite n (l ∷ ls) = ap (λ b. leb 1 l.variable && (leb l.variable n && b)) (within_opposite n ls)

pub within_push : (n : ℕ) (ms : List Lemma) (x : Lemma) → lemmas_within n ms ≡ true → lits_within n x.lits ≡ true → lemmas_within n (ms ++ x ∷ []) ≡ true
within_push n [] x h k = ap (λ b. b && true) k
within_push n (m ∷ ms) x h k =
    let a = (and_parts (lits_within n m.lits) (lemmas_within n ms) h).0 in
    let r = within_push n ms x (and_parts (lits_within n m.lits) (lemmas_within n ms) h).1 k in
    ap (λ b. b && lemmas_within n (ms ++ x ∷ [])) a ∙ r

pub accepted_within : (f : Formula) (e : List Lemma) (m : Lemma) → lemma_accepted f e m ≡ true → lits_within f.variables m.lits ≡ true
accepted_within f e m h =
    sym (within_opposite f.variables m.lits) ∙ (and_parts (lits_within f.variables (map opposite m.lits)) (walk_from (citable f.constraints e) (assume nothing (map opposite m.lits)) m.hints) h).0

pub follows_within : (f : Formula) (e ms : List Lemma) → follows_after f e ms ≡ true → lemmas_within f.variables ms ≡ true
follows_within f e [] h = refl
follows_within f e (m ∷ ms) h =
    let a = accepted_within f e m (and_parts (lemma_accepted f e m) (follows_after f (e ++ m ∷ []) ms) h).0 in
    let r = follows_within f (e ++ m ∷ []) ms (and_parts (lemma_accepted f e m) (follows_after f (e ++ m ∷ []) ms) h).1 in
    ap (λ b. b && lemmas_within f.variables ms) a ∙ r

and_true : (a b : Bool) → a ≡ true → a && b ≡ b
and_true a b e = ap (λ c. c && b) e

-- one lemma more of those that follow
pub follows_more : (f : Formula) (ms : List Lemma) (i : ℕ) (x : Lemma) → i < length ms → x ≡ get_or ms i x → lemma_accepted f (take i ms) x ≡ true → follows_after f (take (i + 1) ms) (drop (i + 1) ms) ≡ follows_after f (take i ms) (drop i ms)
follows_more f ms i x h e a =
    let front : take (i + 1) ms ≡ take i ms ++ x ∷ [] = take_more ms i x h ∙ ap (λ y. take i ms ++ y ∷ []) (sym e) in
    let whole : follows_after f (take i ms) (drop i ms) ≡ follows_after f (take i ms) (x ∷ drop (i + 1) ms) = at_drop_more (follows_after f (take i ms)) ms i x h ∙ ap (λ y. follows_after f (take i ms) (y ∷ drop (i + 1) ms)) (sym e) in
    ap (λ ys. follows_after f ys (drop (i + 1) ms)) front ∙ sym (whole ∙ and_true (lemma_accepted f (take i ms) x) (follows_after f (take i ms ++ x ∷ []) (drop (i + 1) ms)) a)

pub within_more : (f : Formula) (ms : List Lemma) (i : ℕ) (x : Lemma) → i < length ms → x ≡ get_or ms i x → lemmas_within f.variables (take i ms) ≡ true → lemma_accepted f (take i ms) x ≡ true → lemmas_within f.variables (take (i + 1) ms) ≡ true
within_more f ms i x h e w a =
    let front : take (i + 1) ms ≡ take i ms ++ x ∷ [] = take_more ms i x h ∙ ap (λ y. take i ms ++ y ∷ []) (sym e) in
    ap (lemmas_within f.variables) front ∙ within_push f.variables (take i ms) x w (accepted_within f (take i ms) x a)

pub proves_last : (goal : List Lit) (ms : List Lemma) (d : Lemma) → 0 < length ms → proves goal ms ≡ has_all (get_or ms (length ms - 1) d).lits goal && has_all goal (get_or ms (length ms - 1) d).lits
proves_last goal [] d h = absurd (omega arith)
proves_last goal (m ∷ []) d h = refl
proves_last goal (m ∷ n ∷ ms) d h =
    let k : length (m ∷ n ∷ ms) - 1 ≡ suc (length (n ∷ ms) - 1) = omega arith in
    rw k (proves_last goal (n ∷ ms) d (omega arith))

pub check_value : (f : Formula) (ms xs : List Lemma) (goal last : List Lit) (d : Lemma) (r : Bool) → follows f ms ≡ true → xs ≡ ms → 0 < length xs → last ≡ (get_or xs (length xs - 1) d).lits → r ≡ has_all last goal && has_all goal last → r ≡ follows f ms && proves goal ms
check_value f ms xs goal last d r t e z l v =
    let p : proves goal xs ≡ has_all last goal && has_all goal last = proves_last goal xs d z ∙ ap (λ y. has_all y goal && has_all goal y) (sym l) in
    v ∙ (sym p ∙ (ap (proves goal) e ∙ sym (and_true (follows f ms) (proves goal ms) t)))
