-- Pairs that were quiet before each decision: they stay so as the trail grows and is cut and as watches move.
use Rattle.std.proofs.Common.{◌≡◌, ℕ, zero, suc, ◌<◌, Bool, true, false, cond, List, [], ◌∷◌, ◌++◌, length, get_or, take, refl, sym, ap, ◌∙◌, subst, arith, Option, Some, None, ◌⊎◌, inl, inr}
use Rattle.std.specs.List.{slice_get}
use Rattle.std.proofs.lemmas.Bool.{cases_eq, and_parts}
use Rattle.std.proofs.lemmas.Option.{same_Some}
use Rattle.zi_formula.specs.declared.formula.Lit.{Lit}
use Rattle.zi_formula.specs.declared.formula.Constraint.{Constraint}
use Rattle.zi_formula.specs.declared.formula.Constraint.TheVariants.{Clause, AtMostOne}
use Rattle.zi_formula.specs.Truth.{opposite}
use Rattle.zi_proof.specs.Known.{Known, nothing, put, is_open, is_false}
use Rattle.zi_sat.specs.declared.entry.Entry.{Entry}
use Rattle.zi_sat.specs.declared.entry.Why.{Why}
use Rattle.zi_sat.specs.declared.entry.Why.TheVariants.{Decision, Hint}
use Rattle.zi_sat.specs.declared.pair.Pair.{Pair}
use Rattle.zi_sat.specs.declared.watches.Watches.{Watches as Lists}
use Rattle.zi_sat.specs.Trail.{lits_of, learn, known_from, OpenAll, silent, all_silent}
use Rattle.zi_sat.specs.Moves.{Move, Decide, Apply, hinted, entries_of, Implied, Added}
use Rattle.zi_sat.specs.Fresh.{at_decision}
use Rattle.zi_sat.specs.Marking.{among, Covered}
use Rattle.zi_sat.specs.Watching.{Quiet, QuietAt}
use Rattle.zi_sat.specs.Guard.{pair_at, Beside, Guard, Visited, Each, AllGuard, CalmPair, Calm, AllCalm}
use Rattle.zi_sat.specs.declared.watch.Visit.{Visit}
use Rattle.zi_sat.specs.declared.watch.Visit.TheVariants.{Stays, Moves, Clashes}
use Rattle.zi_sat.proofs.FreshStep.{open_not_false}
use Rattle.zi_sat.proofs.FreshLaws.{at_by, open_front, open_later}
use Rattle.zi_sat.proofs.LessonLaws.{among_open}
use Rattle.zi_sat.proofs.GroupLaws.{lits-hinted}
use Rattle.zi_sat.proofs.VisitLaws.{silent_looked, Same}
use Rattle.zi_sat.proofs.WatchLaws.{moved_all, cut_quiet}

-- one pair

quiet_append : (xs : List Lit) (a b : Lit) (k : Known) (es fs : List Entry) → QuietAt xs a b k es → QuietAt xs a b (learn k (lits_of es)) fs → QuietAt xs a b k (es ++ fs)
quiet_append xs a b k [] fs q r = r
quiet_append xs a b k (e ∷ es) fs q r = (q.0, quiet_append xs a b (put k e.lit) es fs q.1 r)

quiet_hinted : (xs : List Lit) (a b : Lit) (k : Known) (h : ℕ) (ls : List Lit) → QuietAt xs a b k (hinted h ls)
quiet_hinted xs a b k h [] = tt
quiet_hinted xs a b k h (l ∷ ls) = (tt, quiet_hinted xs a b (put k l) h ls)

quiet_implied : (xs : List Lit) (a b : Lit) (all : List Constraint) (k : Known) (ms : List Move) → Implied all k ms → QuietAt xs a b k (entries_of ms)
quiet_implied xs a b all k [] i = tt
quiet_implied xs a b all k (Decide l ∷ ms) i = absurd i
quiet_implied xs a b all k (Apply h ls ∷ ms) i =
    quiet_append xs a b k (hinted h ls) (entries_of ms) (quiet_hinted xs a b k h ls) (subst (λ ys. QuietAt xs a b (learn k ys) (entries_of ms)) (sym (lits-hinted h ls)) (quiet_implied xs a b all (learn k ls) ms i.1))

swap : (k : Known) (xs : List Lit) (a b : Lit) → Quiet k xs a b → Quiet k xs b a
swap k xs a b (inl t) = inl t
swap k xs a b (inr n) = inr (n.1, n.0)

swap_why : (w : Why) (k : Known) (xs : List Lit) (a b : Lit) → at_decision w (Quiet k xs a b) → at_decision w (Quiet k xs b a)
swap_why Decision k xs a b q = swap k xs a b q
swap_why (Hint h) k xs a b q = tt

quiet_swap : (xs : List Lit) (a b : Lit) (k : Known) (es : List Entry) → QuietAt xs a b k es → QuietAt xs b a k es
quiet_swap xs a b k [] q = tt
quiet_swap xs a b k (e ∷ es) q = (swap_why e.why k xs a b q.0, quiet_swap xs a b (put k e.lit) es q.1)

quiet_at : (xs : List Lit) (a b : Lit) (k : Known) (es : List Entry) (i : ℕ) (d : Entry) → QuietAt xs a b k es → i < length es → (get_or es i d).why ≡ Decision → Quiet (learn k (lits_of (take i es))) xs a b
quiet_at xs a b k [] i d q low w = absurd (omega arith)
quiet_at xs a b k (e ∷ es) zero d q low w = at_by e.why (Quiet k xs a b) w q.0
quiet_at xs a b k (e ∷ es) (suc i) d q low w = quiet_at xs a b (put k e.lit) es i d q.1 (omega arith) w

-- a constraint

pub pair_added : (all : List Constraint) (es fs : List Entry) (p : Option Pair) (c : Constraint) → Added all es fs → Calm es p c → Calm fs p c
pair_added all es fs None (Clause ls) a h = tt
pair_added all es fs (Some p) (Clause ls) (ms, f, i) h =
    subst (QuietAt ls p.first p.second nothing) (sym f) (quiet_append ls p.first p.second nothing es (entries_of ms) h (quiet_implied ls p.first p.second all (known_from es) ms i))
pair_added all es fs p (AtMostOne xs) a h = tt

pair_decided : (es fs : List Entry) (l : Lit) (p : Option Pair) (c : Constraint) → fs ≡ es ++ record { lit = l; why = Decision } ∷ [] → Guard (known_from es) (known_from es) p c → Calm es p c → Calm fs p c
pair_decided es fs l None (Clause ls) f g h = tt
pair_decided es fs l (Some p) (Clause ls) f g h =
    subst (QuietAt ls p.first p.second nothing) (sym f) (quiet_append ls p.first p.second nothing es (record { lit = l; why = Decision } ∷ []) h (g, tt))
pair_decided es fs l p (AtMostOne xs) f g h = tt

pub pair_cut : (es fs : List Entry) (i : ℕ) (p : Option Pair) (c : Constraint) → fs ≡ take i es → Calm es p c → Calm fs p c
pair_cut es fs i None (Clause ls) f h = tt
pair_cut es fs i (Some p) (Clause ls) f h =
    subst (QuietAt ls p.first p.second nothing) (sym f) (cut_quiet ls p.first p.second nothing es i h)
pair_cut es fs i p (AtMostOne xs) f h = tt

pub pair_guard : (es : List Entry) (i : ℕ) (d : Entry) (p : Option Pair) (c : Constraint) → i < length es → (get_or es i d).why ≡ Decision → silent (known_from (take i es)) c ≡ true → Calm es p c → Guard (known_from (take i es)) (known_from (take i es)) p c
pair_guard es i d None (Clause ls) low w s h = tt
pair_guard es i d (Some p) (Clause ls) low w s h = quiet_at ls p.first p.second nothing es i d h low w
pair_guard es i d p (AtMostOne xs) low w s h = silent_looked (known_from (take i es)) xs s

pair_moved : (es : List Entry) (ls : List Lit) (l : Lit) (p n : Pair) → OpenAll nothing (lits_of es) → Beside p l n.second → is_false (known_from es) n.first ≡ false → QuietAt ls p.first p.second nothing es → QuietAt ls n.first n.second nothing es
pair_moved es ls l p n o (inl b) f q =
    moved_all nothing es ls l n.second n.first o f (subst (λ v. QuietAt ls l v nothing es) b.1 (subst (λ v. QuietAt ls v p.second nothing es) b.0 q))
pair_moved es ls l p n o (inr b) f q =
    moved_all nothing es ls l n.second n.first o f (subst (λ v. QuietAt ls l v nothing es) b.1 (subst (λ v. QuietAt ls v p.first nothing es) b.0 (quiet_swap ls p.first p.second nothing es q)))

pub pair_visited : (es : List Entry) (l : Lit) (p s : Option Pair) (c : Constraint) (v : Visit) → OpenAll nothing (lits_of es) → Visited c l (known_from es) p s v → Calm es p c → Calm es s c
pair_visited es l p s c Clashes o x h = subst (λ y. Calm es y c) (sym x.1) h
pair_visited es l p s (AtMostOne xs) Stays o x h = tt
pair_visited es l p s (AtMostOne xs) (Moves n) o x h = tt
pair_visited es l None s (Clause ls) Stays o x h = subst (CalmPair es ls) (sym x) tt
pair_visited es l (Some p) s (Clause ls) Stays o x h = subst (CalmPair es ls) (sym x.0) h
pair_visited es l None s (Clause ls) (Moves n) o x h = absurd x
pair_visited es l (Some p) s (Clause ls) (Moves n) o (b, e, y, z, f) h = subst (CalmPair es ls) (sym e) (pair_moved es ls l p n o b f h)

-- all constraints

pub calm_start : (w : Lists) (all : List Constraint) → AllCalm w [] all
calm_start w all n c e = go (pair_at w.pairs n) c
  where
    go : (p : Option Pair) (c : Constraint) → Calm [] p c
    go None (Clause ls) = tt
    go (Some p) (Clause ls) = tt
    go p (AtMostOne xs) = tt

pub calm_added : (w : Lists) (all more : List Constraint) (es fs : List Entry) → Added more es fs → AllCalm w es all → AllCalm w fs all
calm_added w all more es fs a h n c e = pair_added more es fs (pair_at w.pairs n) c a (h n c e)

pub calm_decided : (w : Lists) (all : List Constraint) (es fs : List Entry) (l : Lit) → fs ≡ es ++ record { lit = l; why = Decision } ∷ [] → AllGuard (known_from es) (known_from es) w all → AllCalm w es all → AllCalm w fs all
calm_decided w all es fs l f g h n c e = pair_decided es fs l (pair_at w.pairs n) c f (g n c e) (h n c e)

pub silent_each : (k : Known) (all : List Constraint) (n : ℕ) (c : Constraint) → all_silent k all ≡ true → slice_get all n ≡ Some c → silent k c ≡ true
silent_each k [] n c s e = let z : ◌≡◌ {A = Option Constraint} None (Some c) = e in cc
silent_each k (x ∷ all) zero c s e = ap (silent k) (sym (same_Some x c e)) ∙ (and_parts (silent k x) (all_silent k all) s).0
silent_each k (x ∷ all) (suc n) c s e = silent_each k all n c (and_parts (silent k x) (all_silent k all) s).1 e

abbrev pub CalmBy : List Entry → (ℕ → Option Pair) → List Constraint → Type 0
CalmBy es f all = Each all (λ n c. Calm es (f n) c)

-- a visit: the pair of one constraint may move
pub step_calm : (all more : List Constraint) (es fs : List Entry) (i : ℕ) (f g : ℕ → Option Pair) (l : Lit) (v : Visit) → Same i f g → Added more es fs → OpenAll nothing (lits_of fs) → ((c : Constraint) → slice_get all i ≡ Some c → Visited c l (known_from fs) (f i) (g i) v) → CalmBy es f all → CalmBy fs g all
step_calm all more es fs i f g l v s a o w h n c e =
    elim (cases_eq n i) [
      | inl same ↦ subst (λ m. Calm fs (g m) c) (sym same) (pair_visited fs l (f i) (g i) c v o (w c (subst (λ m. slice_get all m ≡ Some c) same e)) (pair_added more es fs (f i) c a (h i c (subst (λ m. slice_get all m ≡ Some c) same e))))
      | inr other ↦ subst (λ p. Calm fs p c) (sym (s n other)) (pair_added more es fs (f n) c a (h n c e))
    ]

-- the pair of a lemma

none_covered : (xs : List Lit) (a b : Lit) (m k : Known) (es : List Entry) → among m (lits_of es) ≡ [] → Covered m es → QuietAt xs a b k es
none_covered xs a b m k [] n c = tt
none_covered xs a b m k (e ∷ es) n c =
    (go e.why c.0, none_covered xs a b m (put k e.lit) es (rest (is_open (m e.lit.variable)) n) c.1)
  where
    go : (w : Why) → at_decision w (0 < length (among m (e.lit ∷ lits_of es))) → at_decision w (Quiet k xs a b)
    go Decision z = absurd (omega (arith, z, ap length n))
    go (Hint h) z = tt

    rest : (t : Bool) → cond t (among m (lits_of es)) (e.lit ∷ among m (lits_of es)) ≡ [] → among m (lits_of es) ≡ []
    rest true f = f
    rest false f = let z : ◌≡◌ {A = List Lit} (e.lit ∷ among m (lits_of es)) [] = f in absurd (cc)

-- the last marked literal is undecided before each decision that is covered
last_case : (l z : Lit) (xs front : List Lit) (t : Bool) → cond t xs (l ∷ xs) ≡ front ++ z ∷ [] → (xs ≡ []) ⊎ ((rest : List Lit) × (xs ≡ rest ++ z ∷ []))
last_case l z xs front true e = inr (front, e)
last_case l z [] front false e = inl refl
last_case l z (x ∷ xs) [] false e = let y : ◌≡◌ {A = List Lit} (l ∷ x ∷ xs) (z ∷ []) = e in absurd (cc)
last_case l z (x ∷ xs) (f ∷ front) false e = inr (front, rest_same l f (x ∷ xs) (front ++ z ∷ []) e)
  where
    rest_same : (a b : Lit) (xs ys : List Lit) → a ∷ xs ≡ b ∷ ys → xs ≡ ys
    rest_same a b xs ys e = cc

quiet_why : (w : Why) (k : Known) (xs : List Lit) (u z : Lit) → is_open (k u.variable) ≡ true → is_open (k z.variable) ≡ true → at_decision w (Quiet k xs (opposite u) (opposite z))
quiet_why Decision k xs u z ou oz = inr (open_not_false k (opposite u) ou, open_not_false k (opposite z) oz)
quiet_why (Hint h) k xs u z ou oz = tt

-- `u` is on the trail later, `z` is the last that is marked
pub quiet_marked : (xs : List Lit) (m k : Known) (es : List Entry) (u z : Lit) (front : List Lit) → OpenAll k (lits_of es ++ u ∷ []) → Covered m es → among m (lits_of es) ≡ front ++ z ∷ [] → QuietAt xs (opposite u) (opposite z) k es
quiet_marked xs m k [] u z front o c e = tt
quiet_marked xs m k (e ∷ es) u z front o c f =
    let all : OpenAll k (lits_of (e ∷ es)) = open_front k (lits_of (e ∷ es)) (u ∷ []) o in
    let oz : is_open (k z.variable) ≡ true = open_later k front z (subst (OpenAll k) f (among_open m k (lits_of (e ∷ es)) all)) in (
      quiet_why e.why k xs u z (open_later k (lits_of (e ∷ es)) u o) oz,
      elim (last_case e.lit z (among m (lits_of es)) front (is_open (m e.lit.variable)) f) [
        | inl n ↦ none_covered xs (opposite u) (opposite z) m (put k e.lit) es n c.1
        | inr r ↦ quiet_marked xs m (put k e.lit) es u z r.0 o.1 c.1 r.1
      ],
    )
