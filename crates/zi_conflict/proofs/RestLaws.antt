-- What a refutation rests on leaves no model.
use Rattle.std.proofs.Common.{◌≡◌, ◌⊎◌, ℕ, zero, suc, ◌+◌, ◌<◌, ◌≤◌, Bool, true, false, not, cond, ◌&&◌, ◌||◌, eqb, List, [], ◌∷◌, ◌++◌, append_assoc, length, map, get_or, refl, sym, ap, ◌∙◌, subst, arith, Option, Some, None, inl, inr}
use Rattle.std.specs.Prelude.{slice_get, slice_index_or}
use Rattle.std.proofs.lemmas.Bool.{false≢true, true_from_ne_false, or_parts, and_parts}
use Rattle.std.proofs.lemmas.Bool.Decides.{nat_tests}
use Rattle.std.proofs.lemmas.Option.{none-some, same_Some, slice_get_within}
use Rattle.std.proofs.lemmas.List.{map-append, append-nil}
use Rattle.zi_formula.specs.declared.formula.Lit.{Lit}
use Rattle.zi_formula.specs.declared.formula.Constraint.{Constraint}
use Rattle.zi_formula.specs.declared.formula.Constraint.TheVariants.{Clause, AtMostOne}
use Rattle.zi_formula.specs.declared.formula.Formula.{Formula}
use Rattle.zi_formula.specs.Truth.{opposite, lit_true, clause_true, constraint_true, all_true, Models}
use Rattle.zi_formula.specs.Form.{has_variable, has_all}
use Rattle.zi_proof.specs.declared.proof.Lemma.{Lemma}
use Rattle.zi_proof.specs.Known.{Known, nothing, Outcome, Fails, Contradiction, Goes, step}
use Rattle.zi_proof.specs.Accepted.{citable, cited, step_cited, lemma_clause, after_hint, no_more, walk, assume, walk_from, lits_within, accepted, lemma_accepted, follows_after, follows, proves}
use Rattle.zi_proof.specs.Laws.{MakesTrue}
use Rattle.zi_proof.proofs.Sound.{Agrees, AgreesSome, Sound, step_sound, assume_sound}
use Rattle.zi_conflict.specs.Core.{constraint_at, only, HasNoModel}
use Rattle.zi_conflict.specs.Resting.{marked, IsClosed, Rests, picked}

-- the constraint that a hint cites is true, where there is one
abbrev IsTrueAt : (ℕ → Bool) → Option Constraint → Type 0
IsTrueAt v o = (c : Constraint) → o ≡ Some c → constraint_true v c ≡ true

step_true : (v : ℕ → Bool) (k : Known) (o : Option Constraint) → Agrees v k → IsTrueAt v o → Sound v (step_cited k o)
step_true v k None g h = tt
step_true v k (Some c) g h = step_sound v k c g (h c refl)

after_true : (v : ℕ → Bool) (o : Outcome) (rest : Known → Bool) (last : Bool) → Sound v o → ((k : Known) → Agrees v k → rest k ≡ true → ⊥) → after_hint o rest last ≡ true → ⊥
after_true v Fails rest last s r h = false≢true h
after_true v Contradiction rest last s r h = s
after_true v (Goes k) rest last s r h = r k s h

has_head : (h : ℕ) (hs : List ℕ) → has_variable (h ∷ hs) h ≡ true
has_head h hs = by_test (eqb h h) (grind (arith, nat_tests))
  where
    by_test : (b : Bool) → b ≡ true → cond b true (has_variable hs h) ≡ true
    by_test b e = ap (λ c. cond c true (has_variable hs h)) e

has_tail : (y : ℕ) (hs : List ℕ) (h : ℕ) → has_variable hs h ≡ true → has_variable (y ∷ hs) h ≡ true
has_tail y hs h e = by_test (eqb y h)
  where
    by_test : (b : Bool) → cond b true (has_variable hs h) ≡ true
    by_test true = refl
    by_test false = e

walk_true : (v : ℕ → Bool) (all : List Constraint) (k : Known) (hints : List ℕ) → ((h : ℕ) → has_variable hints h ≡ true → IsTrueAt v (cited all h)) → Agrees v k → walk all k hints ≡ true → ⊥
walk_true v all k [] a g h = false≢true h
walk_true v all k (i ∷ hints) a g h =
    after_true v (step_cited k (cited all i)) (λ after. walk all after hints) (no_more hints) (step_true v k (cited all i) g (a i (has_head i hints))) (λ after g2 w. walk_true v all after hints (λ x m. a x (has_tail i hints x m)) g2 w) h

from_true : (v : ℕ → Bool) (all : List Constraint) (o : Option Known) (hints : List ℕ) → ((h : ℕ) → has_variable hints h ≡ true → IsTrueAt v (cited all h)) → AgreesSome v o → walk_from all o hints ≡ true → ⊥
from_true v all None hints a g h = false≢true h
from_true v all (Some k) hints a g h = walk_true v all k hints a g h

none_is_not_some : (b c : Bool) → ◌≡◌ {A = Option Bool} None (Some b) → c ≡ b
none_is_not_some b c e = cc

nothing_agrees : (v : ℕ → Bool) → Agrees v nothing
nothing_agrees v = λ x b e. none_is_not_some b (v x) e

opposite_case : (p w : Bool) → cond p w (not w) ≡ false → cond (not p) w (not w) ≡ true
opposite_case true true e = absurd (false≢true (sym e))
opposite_case true false e = refl
opposite_case false true e = refl
opposite_case false false e = absurd (false≢true (sym e))

opposites_true : (v : ℕ → Bool) (ls : List Lit) → clause_true v ls ≡ false → MakesTrue v (map opposite ls)
opposites_true v [] h = tt
opposites_true v (l ∷ ls) h =
    let p : (lit_true v l ≡ false) × (clause_true v ls ≡ false) = or_parts (lit_true v l) (clause_true v ls) h in
    (opposite_case l.positive (v l.variable) p.0, opposites_true v ls p.1)

lemma_true : (f : Formula) (es : List Lemma) (m : Lemma) (v : ℕ → Bool) → ((h : ℕ) → has_variable m.hints h ≡ true → IsTrueAt v (cited (citable f.constraints es) h)) → lemma_accepted f es m ≡ true → clause_true v m.lits ≡ true
lemma_true f es m v a h =
    true_from_ne_false (clause_true v m.lits) (λ e. from_true v (citable f.constraints es) (assume nothing (map opposite m.lits)) m.hints a
    (assume_sound v nothing (map opposite m.lits) (nothing_agrees v) (opposites_true v m.lits e))
    (and_parts (lits_within f.variables (map opposite m.lits)) (walk_from (citable f.constraints es) (assume nothing (map opposite m.lits)) m.hints) h).1)

module _ (v : ℕ → Bool) (marks : List Bool) where
  -- of these constraints, the first of which has this number, those that are marked are true
  abbrev KeptTrue : ℕ → List Constraint → Type 0
  KeptTrue n [] = Unit {0}
  KeptTrue n (c ∷ cs) = (marked marks n ≡ true → constraint_true v c ≡ true) × KeptTrue (suc n) cs

  kept_at : (n : ℕ) (cs : List Constraint) (i : ℕ) (c : Constraint) → KeptTrue n cs → slice_get cs i ≡ Some c → marked marks (n + i) ≡ true → constraint_true v c ≡ true
  kept_at n [] i c h e w = absurd (none-some c e)
  kept_at n (x ∷ cs) zero c h e w =
      let z : n + 0 ≡ n = omega arith in
      ap (constraint_true v) (sym (same_Some _ _ e)) ∙ h.0 (sym (ap (marked marks) z) ∙ w)
  kept_at n (x ∷ cs) (suc i) c h e w =
      let z : n + suc i ≡ suc n + i = omega arith in
      kept_at (suc n) cs i c h.1 e (sym (ap (marked marks) z) ∙ w)

  kept_push : (n : ℕ) (cs : List Constraint) (c : Constraint) → KeptTrue n cs → (marked marks (n + length cs) ≡ true → constraint_true v c ≡ true) → KeptTrue n (cs ++ c ∷ [])
  kept_push n [] c h g = let z : n + 0 ≡ n = omega arith in ((λ w. g (ap (marked marks) z ∙ w)), tt)
  kept_push n (x ∷ cs) c h g =
      let z : n + suc (length cs) ≡ suc n + length cs = omega arith in
      (h.0, kept_push (suc n) cs c h.1 (λ w. g (ap (marked marks) z ∙ w)))

  none_left : (ls : List Lit) → has_all [] ls ≡ true → clause_true v ls ≡ true → ⊥
  none_left [] h t = false≢true t
  none_left (l ∷ ls) h t = false≢true h

  cited_kept : (all : List Constraint) (m : Lemma) (n : ℕ) → KeptTrue 0 all → length all ≡ n → ((h : ℕ) → h < n → has_variable m.hints (suc h) ≡ true → marked marks h ≡ true) → (h : ℕ) → has_variable m.hints h ≡ true → IsTrueAt v (cited all h)
  cited_kept all m n k e a zero p c is = absurd (none-some c is)
  cited_kept all m n k e a (suc h) p c is =
      let z : 0 + h ≡ h = omega arith in
      kept_at 0 all h c k is (ap (marked marks) z ∙ a h (subst (λ x. h < x) e (slice_get_within all h c is)) p)

  one_more : (cs : List Constraint) (es : List Lemma) (m : Lemma) → citable cs (es ++ m ∷ []) ≡ citable cs es ++ lemma_clause m ∷ []
  one_more cs es m = ap (λ xs. cs ++ xs) (map-append lemma_clause es (m ∷ [])) ∙ sym (append_assoc cs (map lemma_clause es) (lemma_clause m ∷ []))

  longer : (cs : List Constraint) (c : Constraint) → length (cs ++ c ∷ []) ≡ suc (length cs)
  longer [] c = refl
  longer (x ∷ cs) c = ap suc (longer cs c)

  -- the last lemma is marked and has no literal
  none_follows : (f : Formula) (es ms : List Lemma) (n : ℕ) → KeptTrue 0 (citable f.constraints es) → length (citable f.constraints es) ≡ n → IsClosed marks n ms → ((k : ℕ) → suc k ≡ length ms → marked marks (n + k) ≡ true) → follows_after f es ms ≡ true → proves [] ms ≡ true → ⊥
  none_follows f es [] n k e c l g p = false≢true p
  none_follows f es (m ∷ []) n k e c l g p =
      let z : n + 0 ≡ n = omega arith in
      let is_marked : marked marks n ≡ true = sym (ap (marked marks) z) ∙ l 0 refl in
      let t = lemma_true f es m v (cited_kept (citable f.constraints es) m n k e (c.0 is_marked)) (and_parts (lemma_accepted f es m) true g).0 in
      none_left m.lits (and_parts (has_all m.lits []) (has_all [] m.lits) p).1 t
  none_follows f es (m ∷ x ∷ ms) n k e c l g p =
      let parts = and_parts (lemma_accepted f es m) (follows_after f (es ++ m ∷ []) (x ∷ ms)) g in
      let here : n ≡ 0 + length (citable f.constraints es) = omega (arith, e) in
      let more : KeptTrue 0 (citable f.constraints es ++ lemma_clause m ∷ []) = kept_push 0 (citable f.constraints es) (lemma_clause m) k (λ w. lemma_true f es m v (cited_kept (citable f.constraints es) m n k e (c.0 (ap (marked marks) here ∙ w))) parts.0) in
      let same = one_more f.constraints es m in
      none_follows f (es ++ m ∷ []) (x ∷ ms) (suc n) (subst (KeptTrue 0) (sym same) more) (ap length same ∙ longer (citable f.constraints es) (lemma_clause m) ∙ ap suc e) c.1
      (λ j s. (let z : suc n + j ≡ n + suc j = omega arith in ap (marked marks) z ∙ l (suc j) (ap suc s))) parts.1 p

  unmarked_kept : (g : ℕ → Constraint) (ns : List ℕ) (n : ℕ) → ((i : ℕ) → marked marks (n + i) ≡ false) → KeptTrue n (map g ns)
  unmarked_kept g [] n h = tt
  unmarked_kept g (x ∷ ns) n h =
      let z : n ≡ n + 0 = omega arith in
      ((λ w. absurd (false≢true (sym (ap (marked marks) z ∙ h 0) ∙ w))), unmarked_kept g ns (suc n) (λ i. (let y : suc n + i ≡ n + suc i = omega arith in ap (marked marks) y ∙ h (suc i))))

  -- those that are picked are true
  picked_kept : (g : ℕ → Constraint) (bs : List Bool) (ns : List ℕ) (n : ℕ) → ((i : ℕ) → marked marks (n + i) ≡ slice_index_or bs i false) → all_true v (map g (picked bs ns)) ≡ true → KeptTrue n (map g ns)
  picked_kept g [] ns n h a = unmarked_kept g ns n (λ i. h i ∙ refl)
  picked_kept g (b ∷ bs) [] n h a = tt
  picked_kept g (b ∷ bs) (x ∷ ns) n h a =
      let z : n ≡ n + 0 = omega arith in
      let next : (i : ℕ) → marked marks (suc n + i) ≡ slice_index_or bs i false = λ i. (let y : suc n + i ≡ n + suc i = omega arith in ap (marked marks) y ∙ h (suc i)) in
      by_mark b (ap (marked marks) z ∙ h 0) a (λ t. picked_kept g bs ns (suc n) next t)
    where
      by_mark : (c : Bool) → marked marks n ≡ c → all_true v (map g (cond c (x ∷ picked bs ns) (picked bs ns))) ≡ true → (all_true v (map g (picked bs ns)) ≡ true → KeptTrue (suc n) (map g ns)) → KeptTrue n (map g (x ∷ ns))
      by_mark true y t others = (let p = and_parts (constraint_true v (g x)) (all_true v (map g (picked bs ns))) t in ((λ w. p.0), others p.1))
      by_mark false y t others = ((λ w. absurd (false≢true (sym y ∙ w))), others t)

count_map : {A B : Type 0} (g : A → B) (xs : List A) → length (map g xs) ≡ length xs
count_map g [] = refl
count_map g (x ∷ xs) = ap suc (count_map g xs)

pub rest_refutes : (f : Formula) (ns : List ℕ) (ms : List Lemma) (marks : List Bool) → Rests (length ns) ms marks → follows (only f ns) ms ≡ true → proves [] ms ≡ true → HasNoModel (only f (picked marks ns))
rest_refutes f ns ms marks r g p v m =
    let kept = picked_kept v marks (constraint_at f.constraints) marks ns 0 (λ i. (let z : 0 + i ≡ i = omega arith in ap (marked marks) z)) m in
    let all : citable (only f ns).constraints [] ≡ map (constraint_at f.constraints) ns = append-nil (map (constraint_at f.constraints) ns) in
    none_follows v marks (only f ns) [] ms (length ns) (subst (KeptTrue v marks 0) (sym all) kept) (ap length all ∙ count_map (constraint_at f.constraints) ns) r.closed r.last g p
