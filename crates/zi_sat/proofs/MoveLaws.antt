-- Trails that came about rightly: longer, shorter, under more lemmas, and what they refute.
use Rattle.std.proofs.Common.{◌≡◌, ℕ, zero, suc, ◌<◌, ◌≤◌, Bool, true, false, not, ◌&&◌, eqb, leb, cond, List, [], ◌∷◌, ◌++◌, map, length, get_or, take, refl, sym, ap, ap₂, ◌∙◌, subst, arith, Option, Some, None, inl, inr, append_assoc, length-append, append-nil}
use Rattle.std.specs.List.{slice_get}
use Rattle.std.proofs.lemmas.Bool.{and_parts}
use Rattle.std.proofs.lemmas.Bool.Decides.{nat_tests}
use Rattle.zi_formula.specs.declared.formula.Lit.{Lit}
use Rattle.zi_formula.specs.declared.formula.Constraint.{Constraint}
use Rattle.zi_formula.specs.declared.formula.Formula.{Formula}
use Rattle.zi_formula.specs.Truth.{opposite}
use Rattle.zi_proof.specs.declared.proof.Lemma.{Lemma}
use Rattle.zi_proof.specs.Known.{Known, nothing, put, is_open, Outcome, Fails, Goes}
use Rattle.zi_proof.specs.Accepted.{citable, cited, step_cited, lemma_clause, walk, assume, walk_from, lits_within, accepted, lemma_accepted, follows_after}
use Rattle.zi_sat.specs.declared.entry.Entry.{Entry}
use Rattle.zi_sat.specs.declared.entry.Why.{Why}
use Rattle.zi_sat.specs.declared.entry.Why.TheVariants.{Decision, Hint}
use Rattle.zi_sat.specs.Trail.{lits_of, learn, known_from, OpenAll, InAll, all_silent}
use Rattle.zi_sat.specs.Moves.{Move, Decide, Apply, hinted, entries_of, Applies, Right, Implied, Added, Lawful}
use Rattle.zi_sat.proofs.TrailLaws.{learn-append, known-append}
use Rattle.zi_sat.proofs.WatchLaws.{not_twice}
use Rattle.zi_sat.proofs.EntryLaws.{lits-hinted as lits-apply}
use Rattle.zi_sat.proofs.FreshStep.{says_open}

-- walking

open_split : (k : Known) (ls ms : List Lit) → OpenAll k (ls ++ ms) → OpenAll (learn k ls) ms
open_split k [] ms o = o
open_split k (l ∷ ls) ms o = open_split (put k l) ls ms o.1

put_more_case : (k g : Known) (d : Lit) (x : ℕ) (t : Bool) → (is_open (g x) ≡ true → is_open (k x) ≡ true) → is_open (cond t (Some d.positive) (g x)) ≡ true → is_open (cond t (Some d.positive) (k x)) ≡ true
put_more_case k g d x true h o = o
put_more_case k g d x false h o = h o

pub open_weaker : (k g : Known) (ds : List Lit) → ((x : ℕ) → is_open (g x) ≡ true → is_open (k x) ≡ true) → OpenAll g ds → OpenAll k ds
open_weaker k g [] h o = tt
open_weaker k g (d ∷ ds) h o =
    (h d.variable o.0, open_weaker (put k d) (put g d) ds (λ x p. put_more_case k g d x (eqb x d.variable) (h x) p) o.1)

pub open_rest : (k : Known) (h : ℕ) (ls : List Lit) (es : List Entry) → OpenAll k (lits_of (hinted h ls ++ es)) → OpenAll (learn k ls) (lits_of es)
open_rest k h ls es o = open_split k ls (lits_of es) (subst (OpenAll k) (lits-apply h ls es) o)

-- entries and moves

entries-append : (ms ns : List Move) → entries_of (ms ++ ns) ≡ entries_of ms ++ entries_of ns
entries-append [] ns = refl
entries-append (Decide l ∷ ms) ns = ap (λ es. record { lit = l; why = Decision } ∷ es) (entries-append ms ns)
entries-append (Apply h ls ∷ ms) ns =
    ap (λ es. hinted h ls ++ es) (entries-append ms ns) ∙ sym (append_assoc (hinted h ls) (entries_of ms) (entries_of ns))

pub known-moves : (k : Known) (h : ℕ) (ls : List Lit) (es : List Entry) → learn k (lits_of (hinted h ls ++ es)) ≡ learn (learn k ls) (lits_of es)
known-moves k h ls es = ap (learn k) (lits-apply h ls es) ∙ learn-append k ls (lits_of es)

right-append : (all cs : List Constraint) (chooses : Known → Option Lit) (k : Known) (ms ns : List Move) → Right all cs chooses k ms → Right all cs chooses (learn k (lits_of (entries_of ms))) ns → Right all cs chooses k (ms ++ ns)
right-append all cs chooses k [] ns r s = s
right-append all cs chooses k (Decide l ∷ ms) ns r s = (r.0, r.1, right-append all cs chooses (put k l) ms ns r.2 s)
right-append all cs chooses k (Apply h ls ∷ ms) ns r s =
    (r.0, right-append all cs chooses (learn k ls) ms ns r.1 (subst (λ g. Right all cs chooses g ns) (known-moves k h ls (entries_of ms)) s))

right_of_implied : (all cs : List Constraint) (chooses : Known → Option Lit) (k : Known) (ms : List Move) → Implied all k ms → Right all cs chooses k ms
right_of_implied all cs chooses k [] i = tt
right_of_implied all cs chooses k (Decide l ∷ ms) i = absurd i
right_of_implied all cs chooses k (Apply h ls ∷ ms) i = (i.0, right_of_implied all cs chooses (learn k ls) ms i.1)

pub lawful_added : (all cs : List Constraint) (chooses : Known → Option Lit) (es fs : List Entry) → Lawful all cs chooses es → Added all es fs → Lawful all cs chooses fs
lawful_added all cs chooses es fs (ms, e, r) (ns, f, i) =
    (ms ++ ns, f ∙ (ap (λ gs. gs ++ entries_of ns) e ∙ sym (entries-append ms ns)), right-append all cs chooses nothing ms ns r (right_of_implied all cs chooses (known_from (entries_of ms)) ns (subst (λ gs. Implied all (known_from gs) ns) e i)))

pub lawful_decide : (all cs : List Constraint) (chooses : Known → Option Lit) (es fs : List Entry) (l : Lit) → Lawful all cs chooses es → fs ≡ es ++ record { lit = l; why = Decision } ∷ [] → chooses (known_from es) ≡ Some l → all_silent (known_from es) cs ≡ true → Lawful all cs chooses fs
lawful_decide all cs chooses es fs l (ms, e, r) f p q =
    (ms ++ Decide l ∷ [], f ∙ (ap (λ gs. gs ++ record { lit = l; why = Decision } ∷ []) e ∙ sym (entries-append ms (Decide l ∷ []))), right-append all cs chooses nothing ms (Decide l ∷ []) r (subst (λ gs. chooses (known_from gs) ≡ Some l) e p, subst (λ gs. all_silent (known_from gs) cs ≡ true) e q, tt))

-- shorter

peel : (h : ℕ) (ls : List Lit) (es : List Entry) (i : ℕ) (d : Entry) → i < length (hinted h ls ++ es) → (get_or (hinted h ls ++ es) i d).why ≡ Decision → (j : ℕ) × (j < length es) × ((get_or es j d).why ≡ Decision) × (take i (hinted h ls ++ es) ≡ hinted h ls ++ take j es)
peel h [] es i d lt w = (i, lt, w, refl)
peel h (l ∷ ls) es zero d lt w = let x : ◌≡◌ {A = Why} (Hint h) Decision = w in cc
peel h (l ∷ ls) es (suc i) d lt w =
    let r : (j : ℕ) × (j < length es) × ((get_or es j d).why ≡ Decision) × (take i (hinted h ls ++ es) ≡ hinted h ls ++ take j es) = peel h ls es i d (omega arith) w in
    (r.0, r.1, r.2, ap (λ gs. record { lit = l; why = Hint h } ∷ gs) r.3)

cut : (all cs : List Constraint) (chooses : Known → Option Lit) (k : Known) (ms : List Move) (i : ℕ) (d : Entry) → Right all cs chooses k ms → i < length (entries_of ms) → (get_or (entries_of ms) i d).why ≡ Decision → (ns : List Move) × (take i (entries_of ms) ≡ entries_of ns) × Right all cs chooses k ns
cut all cs chooses k [] i d r lt w = absurd (omega arith)
cut all cs chooses k (Decide l ∷ ms) zero d r lt w = ([], refl, tt)
cut all cs chooses k (Decide l ∷ ms) (suc i) d r lt w =
    let s : (ns : List Move) × (take i (entries_of ms) ≡ entries_of ns) × Right all cs chooses (put k l) ns = cut all cs chooses (put k l) ms i d r.2 (omega arith) w in
    (Decide l ∷ s.0, ap (λ gs. record { lit = l; why = Decision } ∷ gs) s.1, (r.0, r.1, s.2))
cut all cs chooses k (Apply h ls ∷ ms) i d r lt w =
    let p : (j : ℕ) × (j < length (entries_of ms)) × ((get_or (entries_of ms) j d).why ≡ Decision) × (take i (hinted h ls ++ entries_of ms) ≡ hinted h ls ++ take j (entries_of ms)) = peel h ls (entries_of ms) i d lt w in
    let s : (ns : List Move) × (take p.0 (entries_of ms) ≡ entries_of ns) × Right all cs chooses (learn k ls) ns = cut all cs chooses (learn k ls) ms p.0 d r.1 p.1 p.2 in
    (Apply h ls ∷ s.0, p.3 ∙ ap (λ gs. hinted h ls ++ gs) s.1, (r.0, s.2))

pub lawful_cut : (all cs : List Constraint) (chooses : Known → Option Lit) (es : List Entry) (i : ℕ) (d : Entry) → Lawful all cs chooses es → i < length es → (get_or es i d).why ≡ Decision → Lawful all cs chooses (take i es)
lawful_cut all cs chooses es i d (ms, e, r) lt w =
    let s : (ns : List Move) × (take i (entries_of ms) ≡ entries_of ns) × Right all cs chooses nothing ns = cut all cs chooses nothing ms i d r (subst (λ gs. i < length gs) e lt) (subst (λ gs. (get_or gs i d).why ≡ Decision) e w) in
    (s.0, ap (take i) e ∙ s.1, s.2)

-- under more lemmas

get_more : (all ds : List Constraint) (i : ℕ) (k g : Known) → step_cited k (slice_get all i) ≡ Goes g → step_cited k (slice_get (all ++ ds) i) ≡ Goes g
get_more [] ds i k g h = let x : ◌≡◌ {A = Outcome} Fails (Goes g) = h in cc
get_more (c ∷ all) ds zero k g h = h
get_more (c ∷ all) ds (suc i) k g h = get_more all ds i k g h

cited_more : (all ds : List Constraint) (h : ℕ) (k g : Known) → step_cited k (cited all h) ≡ Goes g → step_cited k (cited (all ++ ds) h) ≡ Goes g
cited_more all ds zero k g e = let x : ◌≡◌ {A = Outcome} Fails (Goes g) = e in cc
cited_more all ds (suc i) k g e = get_more all ds i k g e

applies_more : (all ds : List Constraint) (k : Known) (h : ℕ) (ls : List Lit) → Applies all k h ls → Applies (all ++ ds) k h ls
applies_more all ds k h ls a =
    (cited_more all ds h k (learn k ls) a.0, elim a.1 [ inl e ↦ inl e | inr e ↦ inr (λ front rest p. cited_more all ds h (learn k front) (learn k ls) (e front rest p)) ])

right_more : (all ds cs : List Constraint) (chooses : Known → Option Lit) (k : Known) (ms : List Move) → Right all cs chooses k ms → Right (all ++ ds) cs chooses k ms
right_more all ds cs chooses k [] r = tt
right_more all ds cs chooses k (Decide l ∷ ms) r = (r.0, r.1, right_more all ds cs chooses (put k l) ms r.2)
right_more all ds cs chooses k (Apply h ls ∷ ms) r = (applies_more all ds k h ls r.0, right_more all ds cs chooses (learn k ls) ms r.1)

map-append : (ms ns : List Lemma) → map lemma_clause (ms ++ ns) ≡ map lemma_clause ms ++ map lemma_clause ns
map-append [] ns = refl
map-append (m ∷ ms) ns = ap (λ xs. lemma_clause m ∷ xs) (map-append ms ns)

pub citable_push : (cs : List Constraint) (ms : List Lemma) (m : Lemma) → citable cs (ms ++ m ∷ []) ≡ citable cs ms ++ lemma_clause m ∷ []
citable_push cs ms m = ap (λ xs. cs ++ xs) (map-append ms (m ∷ [])) ∙ sym (append_assoc cs (map lemma_clause ms) (lemma_clause m ∷ []))

pub lawful_more : (cs : List Constraint) (ms : List Lemma) (m : Lemma) (chooses : Known → Option Lit) (es : List Entry) → Lawful (citable cs ms) cs chooses es → Lawful (citable cs (ms ++ m ∷ [])) cs chooses es
lawful_more cs ms m chooses es (ns, e, r) =
    (ns, e, subst (λ all. Right all cs chooses nothing ns) (sym (citable_push cs ms m)) (right_more (citable cs ms) (lemma_clause m ∷ []) cs chooses nothing ns r))

-- lemmas of all decisions

pub twice : (ls : List Lit) → map opposite (map opposite ls) ≡ ls
twice [] = refl
twice (l ∷ ls) = ap₂ (λ b ms. record { variable = l.variable; positive = b } ∷ ms) (not_twice l.positive) (twice ls)

pub assume_open : (k : Known) (ls : List Lit) → OpenAll k ls → assume k ls ≡ Some (learn k ls)
assume_open k [] o = refl
assume_open k (l ∷ ls) o =
    ap (λ b. cond b None (assume (put k l) ls)) (says_open (k l.variable) (not l.positive) o.0) ∙ assume_open (put k l) ls o.1

leb_means : (a b : ℕ) → a ≤ b → leb a b ≡ true
leb_means a b h = grind (arith, nat_tests)

within_test : (n : ℕ) (ls : List Lit) → InAll n ls → lits_within n ls ≡ true
within_test n [] i = refl
within_test n (l ∷ ls) i =
    ap₂ (λ a b. a && (b && lits_within n ls)) (leb_means 1 l.variable i.0) (leb_means l.variable n i.1) ∙ within_test n ls i.2

pub accepted_by : (f : Formula) (ms : List Lemma) (ls : List Lit) (hs : List ℕ) → InAll f.variables ls → OpenAll nothing ls → walk (citable f.constraints ms) (learn nothing ls) hs ≡ true → accepted f ms ls hs ≡ true
accepted_by f ms ls hs i o w =
    ap₂ (λ a b. a && walk_from (citable f.constraints ms) b hs) (within_test f.variables ls i) (assume_open nothing ls o) ∙ w

pub follows_push : (f : Formula) (e ms : List Lemma) (m : Lemma) → follows_after f e ms ≡ true → lemma_accepted f (e ++ ms) m ≡ true → follows_after f e (ms ++ m ∷ []) ≡ true
follows_push f e [] m h a =
    let b : lemma_accepted f e m ≡ true = ap (λ x. lemma_accepted f x m) (sym (append-nil e)) ∙ a in
    ap (λ c. c && true) b
follows_push f e (n ∷ ms) m h a =
    let l : lemma_accepted f e n ≡ true = (and_parts (lemma_accepted f e n) (follows_after f (e ++ n ∷ []) ms) h).0 in
    let b : lemma_accepted f ((e ++ n ∷ []) ++ ms) m ≡ true = ap (λ x. lemma_accepted f x m) (append_assoc e (n ∷ []) ms) ∙ a in
    ap (λ c. c && follows_after f (e ++ n ∷ []) (ms ++ m ∷ [])) l ∙ follows_push f (e ++ n ∷ []) ms m (and_parts (lemma_accepted f e n) (follows_after f (e ++ n ∷ []) ms) h).1 b

-- one hint more

implied-append : (all : List Constraint) (k : Known) (ms ns : List Move) → Implied all k ms → Implied all (learn k (lits_of (entries_of ms))) ns → Implied all k (ms ++ ns)
implied-append all k [] ns i j = j
implied-append all k (Decide l ∷ ms) ns i j = absurd i
implied-append all k (Apply h ls ∷ ms) ns i j =
    (i.0, implied-append all (learn k ls) ms ns i.1 (subst (λ g. Implied all g ns) (known-moves k h ls (entries_of ms)) j))

length-hinted : (h : ℕ) (ls : List Lit) → length (hinted h ls) ≡ length ls
length-hinted h [] = refl
length-hinted h (l ∷ ls) = ap suc (length-hinted h ls)

pub longer : (es fs : List Entry) (h : ℕ) (ls : List Lit) → fs ≡ es ++ hinted h ls → 0 < length ls → length es < length fs
longer es fs h ls f z =
    omega (arith, ap length f, length-append es (hinted h ls), length-hinted h ls)

pub added_more : (all : List Constraint) (es fs gs : List Entry) (h : ℕ) (ls : List Lit) → Added all es fs → gs ≡ fs ++ hinted h ls → Applies all (known_from fs) h ls → Added all es gs
added_more all es fs gs h ls (ms, f, i) g a =
    let now : known_from fs ≡ learn (known_from es) (lits_of (entries_of ms)) = ap known_from f ∙ known-append es (entries_of ms) in
    let last : Implied all (learn (known_from es) (lits_of (entries_of ms))) (Apply h ls ∷ []) = (subst (λ k. Applies all k h ls) now a, tt) in
    let ends : entries_of (ms ++ Apply h ls ∷ []) ≡ entries_of ms ++ hinted h ls = entries-append ms (Apply h ls ∷ []) ∙ ap (λ x. entries_of ms ++ x) (append-nil (hinted h ls)) in
    (ms ++ Apply h ls ∷ [], g ∙ (ap (λ x. x ++ hinted h ls) f ∙ (append_assoc es (entries_of ms) (hinted h ls) ∙ ap (λ x. es ++ x) (sym ends))), implied-append all (known_from es) ms (Apply h ls ∷ []) i last)

pub added_all : (all : List Constraint) (es fs gs : List Entry) → Added all es fs → Added all fs gs → Added all es gs
added_all all es fs gs (ms, f, i) (ns, g, j) =
    let now : known_from fs ≡ learn (known_from es) (lits_of (entries_of ms)) = ap known_from f ∙ known-append es (entries_of ms) in
    (ms ++ ns, g ∙ (ap (λ x. x ++ entries_of ns) f ∙ (append_assoc es (entries_of ms) (entries_of ns) ∙ ap (λ x. es ++ x) (sym (entries-append ms ns)))), implied-append all (known_from es) ms ns i (subst (λ k. Implied all k ns) now j))

pub added_none : (all : List Constraint) (es : List Entry) → Added all es es
added_none all es = ([], sym (append-nil es), tt)
