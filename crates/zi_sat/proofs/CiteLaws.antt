-- What the hint of a lemma cites, and silence of all.
use Rattle.std.proofs.Common.{◌≡◌, ℕ, zero, suc, ◌+◌, ◌<◌, ◌≤◌, Bool, true, ◌&&◌, leb, List, [], ◌∷◌, ◌++◌, map, length, get_or, refl, sym, ap, ◌∙◌, subst, arith, Option, Some, ◌⊎◌, inl, inr}
use Rattle.std.specs.List.{slice_get}
use Rattle.std.proofs.lemmas.List.Elements.{All-nil, All-cons}
use Rattle.std.proofs.lemmas.Bool.Decides.{nat_tests}
use Rattle.std.proofs.lemmas.Bool.{and_parts}
use Rattle.zi_formula.specs.declared.formula.Lit.{Lit}
use Rattle.zi_formula.specs.declared.formula.Constraint.{Constraint}
use Rattle.zi_formula.specs.declared.formula.Constraint.TheVariants.{Clause}
use Rattle.zi_formula.specs.Form.{LitsWithin}
use Rattle.zi_proof.specs.declared.proof.Lemma.{Lemma}
use Rattle.zi_proof.specs.Known.{Known, Contradiction, Goes, step}
use Rattle.zi_proof.specs.Accepted.{citable, cited, step_cited, lemma_clause, lits_within, lemmas_within}
use Rattle.zi_sat.specs.declared.entry.Entry.{Entry}
use Rattle.zi_sat.specs.Trail.{learn, all_silent, silent}
use Rattle.zi_sat.specs.Moves.{hinted, Again, Applies}
use Rattle.zi_proof.proofs.Cites.{get_clause}

get_after : (cs ds : List Constraint) (i : ℕ) → slice_get (cs ++ ds) (length cs + i) ≡ slice_get ds i
get_after [] ds i =
    let e : 0 + i ≡ i = omega arith in
    ap (slice_get ds) e
get_after (c ∷ cs) ds i =
    let e : length (c ∷ cs) + i ≡ suc (length cs + i) = omega arith in
    ap (slice_get (c ∷ cs ++ ds)) e ∙ get_after cs ds i

pub cited_at : (cs : List Constraint) (ms : List Lemma) (i n : ℕ) (d : Lemma) → n ≡ length cs → i < length ms → cited (citable cs ms) (n + i + 1) ≡ Some (Clause (get_or ms i d).lits)
cited_at cs ms i n d e h =
    let same : n + i + 1 ≡ suc (length cs + i) = omega (arith, e) in
    ap (cited (citable cs ms)) same ∙ (get_after cs (map lemma_clause ms) i ∙ get_clause ms i d h)

head_ok : (n : ℕ) (l : Lit) (b : Bool) → leb 1 l.variable && (leb l.variable n && b) ≡ true → (1 ≤ l.variable) × (l.variable ≤ n)
head_ok n l b h =
    let j : leb 1 l.variable ≡ true = (and_parts (leb 1 l.variable) (leb l.variable n && b) h).0 in
    let k : leb l.variable n ≡ true = (and_parts (leb l.variable n) b (and_parts (leb 1 l.variable) (leb l.variable n && b) h).1).0 in
    (grind (arith, nat_tests), grind (arith, nat_tests))

pub lits_ok : (n : ℕ) (ls : List Lit) → lits_within n ls ≡ true → LitsWithin n ls
lits_ok n [] h = All-nil (λ l. (1 ≤ l.variable) × (l.variable ≤ n))
lits_ok n (l ∷ ls) h =
    All-cons (λ l. (1 ≤ l.variable) × (l.variable ≤ n)) l ls (head_ok n l (lits_within n ls) h) (lits_ok n ls (and_parts (leb l.variable n) (lits_within n ls) (and_parts (leb 1 l.variable) (leb l.variable n && lits_within n ls) h).1).1)

pub lemma_ok : (n : ℕ) (ms : List Lemma) (k : ℕ) (d : Lemma) → lemmas_within n ms ≡ true → k < length ms → LitsWithin n (get_or ms k d).lits
lemma_ok n [] k d h q = absurd (omega arith)
lemma_ok n (m ∷ ms) zero d h q = lits_ok n m.lits (and_parts (lits_within n m.lits) (lemmas_within n ms) h).0
lemma_ok n (m ∷ ms) (suc k) d h q = lemma_ok n ms k d (and_parts (lits_within n m.lits) (lemmas_within n ms) h).1 (omega arith)

pub silent_append : (k : Known) (cs ds : List Constraint) → all_silent k cs ≡ true → all_silent k ds ≡ true → all_silent k (cs ++ ds) ≡ true
silent_append k [] ds a b = b
silent_append k (c ∷ cs) ds a b =
    ap (λ x. x && all_silent k (cs ++ ds)) (and_parts (silent k c) (all_silent k cs) a).0 ∙ silent_append k cs ds (and_parts (silent k c) (all_silent k cs) a).1 b

pub silent_front : (k : Known) (cs ds : List Constraint) → all_silent k (cs ++ ds) ≡ true → all_silent k cs ≡ true
silent_front k [] ds a = refl
silent_front k (c ∷ cs) ds a =
    ap (λ x. x && all_silent k cs) (and_parts (silent k c) (all_silent k (cs ++ ds)) a).0 ∙ silent_front k cs ds (and_parts (silent k c) (all_silent k (cs ++ ds)) a).1

pub contradicts : (k : Known) (o : Option Constraint) (c : Constraint) → o ≡ Some c → step k c ≡ Contradiction → step_cited k o ≡ Contradiction
contradicts k o c e h = ap (step_cited k) e ∙ h

pub goes : (k g : Known) (o : Option Constraint) (c : Constraint) → o ≡ Some c → step k c ≡ Goes g → step_cited k o ≡ Goes g
goes k g o c e h = ap (step_cited k) e ∙ h

again : (k : Known) (o : Option Constraint) (c : Constraint) (ls : List Lit) → o ≡ Some c → (length ls ≡ 1) ⊎ Again (λ g. step g c) k ls → (length ls ≡ 1) ⊎ Again (λ g. step_cited g o) k ls
again k o c ls e (inl a) = inl a
again k o c ls e (inr a) = inr (λ front rest p. goes (learn k front) (learn k ls) o c e (a front rest p))

abbrev pub Gone : Known → Constraint → ℕ → List Entry → List Entry → Type 0
Gone k c h es fs =
    (ls : List Lit) × (fs ≡ es ++ hinted h ls) × (0 < length ls) × (step k c ≡ Goes (learn k ls)) × ((length ls ≡ 1) ⊎ Again (λ g. step g c) k ls)

pub went_more : (all : List Constraint) (k : Known) (c : Constraint) (h : ℕ) (es fs : List Entry) → cited all h ≡ Some c → Gone k c h es fs → (i : ℕ) × (ls : List Lit) × (fs ≡ es ++ hinted i ls) × (0 < length ls) × Applies all k i ls
went_more all k c h es fs e g =
    (h, g.0, g.1, g.2, (goes k (learn k g.0) (cited all h) c e g.3, again k (cited all h) c g.0 e g.4))

pub lemma_ok_zs : (n : ℕ) (ms : List Lemma) (k : ℕ) (x : Lemma) (ys : List Lit) → lemmas_within n ms ≡ true → k < length ms → ys ≡ (get_or ms k x).lits → LitsWithin n ys
lemma_ok_zs n ms k x ys h q f = subst (LitsWithin n) (sym f) (lemma_ok n ms k x h q)

pub cited_zs : (cs : List Constraint) (ms : List Lemma) (i n : ℕ) (x : Lemma) (ys : List Lit) → n ≡ length cs → i < length ms → ys ≡ (get_or ms i x).lits → cited (citable cs ms) (n + i + 1) ≡ Some (Clause ys)
cited_zs cs ms i n x ys e h f = cited_at cs ms i n x e h ∙ ap (λ zs. Some (Clause zs)) (sym f)
