-- Going over the trail: what was looked at stays so, and all is silent once all was.
use Rattle.std.proofs.Common.{◌≡◌, ℕ, suc, ◌<◌, ◌≤◌, ◌+◌, ◌&&◌, Bool, true, false, cond, eqb, List, [], ◌∷◌, ◌++◌, length, length-append, get_or, take, refl, sym, ap, ◌∙◌, subst, arith, Option, Some, None, is_some, inl, inr}
use Rattle.std.specs.List.{slice_get}
use Rattle.std.proofs.lemmas.Bool.{false≢true, cases_eq}
use Rattle.std.proofs.lemmas.List.{take-append-le}
use Rattle.zi_formula.specs.declared.formula.Lit.{Lit}
use Rattle.zi_formula.specs.declared.formula.Formula.{Formula}
use Rattle.zi_formula.specs.declared.formula.Constraint.{Constraint}
use Rattle.zi_formula.specs.declared.formula.Constraint.TheVariants.{Clause, AtMostOne}
use Rattle.zi_formula.specs.Form.{same_lit, has_lit, OnceAll}
use Rattle.zi_proof.specs.declared.proof.Lemma.{Lemma}
use Rattle.zi_proof.specs.Accepted.{citable}
use Rattle.zi_proof.specs.Known.{Known, nothing, put, is_true, is_false, Fails, Goes, by_standing}
use Rattle.zi_sat.specs.declared.entry.Entry.{Entry}
use Rattle.zi_sat.specs.declared.pair.Pair.{Pair}
use Rattle.zi_sat.specs.declared.watches.Watches.{Watches as Lists}
use Rattle.zi_sat.specs.Trail.{lits_of, known_from, OpenAll, fails, silent, all_silent}
use Rattle.zi_sat.specs.Moves.{Added, entries_of}
use Rattle.zi_sat.specs.Marking.{Inside}
use Rattle.zi_sat.specs.Rows.{In, Has}
use Rattle.zi_sat.specs.Watching.{Watches}
use Rattle.zi_sat.specs.Guard.{pair_at, HeldPair, Held, Looked, Guard, Each, AllGuard, AllCalm, Firm, ShortSet, Ready}
use Rattle.zi_sat.proofs.GroupLaws.{In as InGroup}
use Rattle.zi_sat.proofs.FreshStep.{lits_same}
use Rattle.zi_sat.proofs.FreshLaws.{put_self, learn_extends, open_back}
use Rattle.zi_sat.proofs.TrailLaws.{known-append, lits-append}
use Rattle.zi_sat.proofs.LessLaws.{says_within}
use Rattle.zi_sat.proofs.ReachLaws.{known_next, front_inside, take_whole}
use Rattle.zi_sat.proofs.WatchLaws.{Looked as LookedGroup, looked_silent, quiet_silent, true_silent}
use Rattle.zi_sat.proofs.GuardLaws.{once_at}
use Rattle.zi_sat.specs.declared.entry.Why.TheVariants.{Decision}
use Rattle.zi_sat.proofs.VisitLaws.{guard_more, added_inside}
use Rattle.zi_sat.proofs.CalmLaws.{calm_added, calm_decided}
use Rattle.zi_proof.proofs.CutLaws.{test_same}
use Rattle.zi_sat.proofs.CountLaws.{lit_self}

firm_case : (k : Known) (l : Lit) (s t : Bool) → is_true k l ≡ t → fails (by_standing k (cond s [] (l ∷ []))) ≡ true → is_true k l ≡ true
firm_case k l true t e h = absurd (false≢true h)
firm_case k l false true e h = e
firm_case k l false false e h = absurd (false≢true (sym (ap (λ b. fails (cond b Fails (Goes (put k l)))) e) ∙ h))

pub firm_of : (k : Known) (ls : List Lit) → length ls ≤ 1 → silent k (Clause ls) ≡ true → Firm k ls
firm_of k [] h s = false≢true s
firm_of k (l ∷ []) h s = firm_case k l (is_false k l) (is_true k l) refl s
firm_of k (l ∷ m ∷ ls) h s = absurd (omega (arith, h))

pub firm_more : (k g : Known) (ls : List Lit) → Inside k g → Firm k ls → Firm g ls
firm_more k g [] i f = f
firm_more k g (l ∷ ls) i f = says_within k g l.variable l.positive i f

firm_silent : (k : Known) (ls : List Lit) → Firm k ls → silent k (Clause ls) ≡ true
firm_silent k [] f = absurd f
firm_silent k (l ∷ ls) f = true_silent k l (l ∷ ls) (ap (λ b. cond b true (has_lit ls l)) (lit_self l)) f

-- those up to a place
abbrev pub ShortsTo : List Constraint → Known → ℕ → Type 0
ShortsTo all k i = (n : ℕ) → n < i → (ls : List Lit) → slice_get all n ≡ Some (Clause ls) → length ls ≤ 1 → Firm k ls

pub shorts_step : (all : List Constraint) (i : ℕ) (k g : Known) → Inside k g → ((ls : List Lit) → slice_get all i ≡ Some (Clause ls) → length ls ≤ 1 → silent g (Clause ls) ≡ true) → ShortsTo all k i → ShortsTo all g (i + 1)
shorts_step all i k g w s f n low ls a b =
    elim (cases_eq n i) [
      | inl same ↦ firm_of g ls b (s ls (subst (λ m. slice_get all m ≡ Some (Clause ls)) same a) b)
      | inr other ↦ let before : n < i = omega (arith, low, other) in firm_more k g ls w (f n before ls a b)
    ]

-- a clause that watches two of its literals isn't short
pub watched_long : (ls : List Lit) (a b : Lit) → Watches ls a b → length ls ≤ 1 → ⊥
watched_long [] a b w le = false≢true w.first
watched_long (l ∷ []) a b w le = alone (same_lit l a) (same_lit l b) refl refl w.first w.second
  where
    alone : (p q : Bool) → same_lit l a ≡ p → same_lit l b ≡ q → cond p true false ≡ true → cond q true false ≡ true → ⊥
    alone true true e f x y = false≢true (sym w.apart ∙ (ap (λ v. same_lit v b) (sym (lits_same l a e)) ∙ f))
    alone true false e f x y = false≢true y
    alone false q e f x y = false≢true x
watched_long (l ∷ m ∷ ls) a b w le = absurd (omega (arith, le))

pub held_long : (h : ℕ → ℕ → Type 0) (n : ℕ) (ls : List Lit) (p : Option Pair) → HeldPair h n ls p → is_some p ≡ true → length ls ≤ 1 → ⊥
held_long h n ls None d e le = false≢true e
held_long h n ls (Some p) d e le = watched_long ls p.first p.second d.0 le

-- more entries

pub shorts_more : (k g : Known) (all : List Constraint) → Inside k g → ShortSet k all → ShortSet g all
shorts_more k g all i s = λ n ls e b. firm_more k g ls i (s n ls e b)

take_more : (es fs gs : List Entry) (s : ℕ) → fs ≡ es ++ gs → s ≤ length es → take s fs ≡ take s es
take_more es fs gs s e h = ap (take s) e ∙ take-append-le s es gs h

pub seen_more : (es fs gs : List Entry) (s : ℕ) → fs ≡ es ++ gs → s ≤ length es → s ≤ length fs
seen_more es fs gs s e h = omega (arith, ap length e, length-append es gs, h)

guards_more : (w : Lists) (all : List Constraint) (es fs gs : List Entry) (s : ℕ) → fs ≡ es ++ gs → s ≤ length es → Inside (known_from es) (known_from fs) → AllGuard (known_from (take s es)) (known_from es) w all → AllGuard (known_from (take s fs)) (known_from fs) w all
guards_more w all es fs gs s e h i g = λ n c x. subst (λ ds. Guard (known_from ds) (known_from fs) (pair_at w.pairs n) c) (sym (take_more es fs gs s e h)) (guard_more (known_from (take s es)) (known_from es) (known_from fs) (pair_at w.pairs n) c i (g n c x))

ready_longer : (w : Lists) (f : Formula) (ms : List Lemma) (es fs gs : List Entry) → fs ≡ es ++ gs → Inside (known_from es) (known_from fs) → AllCalm w fs (citable f.constraints ms) → Ready w f ms es → Ready w f ms fs
ready_longer w f ms es fs gs e i h r =
    ((r.0.0, h), seen_more es fs gs w.seen e r.1, guards_more w (citable f.constraints ms) es fs gs w.seen e r.1 i r.2, elim r.3 [ inl z ↦ inl z | inr s ↦ inr (shorts_more (known_from es) (known_from fs) (citable f.constraints ms) i s) ])

pub ready_added : (w : Lists) (f : Formula) (ms : List Lemma) (es fs : List Entry) → Added (citable f.constraints ms) es fs → OpenAll nothing (lits_of fs) → Ready w f ms es → Ready w f ms fs
ready_added w f ms es fs a o r =
    ready_longer w f ms es fs (entries_of a.0) a.1 (added_inside (citable f.constraints ms) es fs a o) (calm_added w (citable f.constraints ms) (citable f.constraints ms) es fs a r.0.1) r

-- the next entry

pub entry_true : (es : List Entry) (i : ℕ) (d : Entry) → OpenAll nothing (lits_of es) → i < length es → known_from es (get_or es i d).lit.variable ≡ Some (get_or es i d).lit.positive
entry_true es i d o low =
    let l : Lit = (get_or es i d).lit in
    front_inside es (suc i) o l.variable l.positive (ap (λ k. k l.variable) (known_next es i d low) ∙ put_self (known_from (take i es)) l)

pub next_guard : (w : Lists) (all : List Constraint) (es fs gs : List Entry) (s t : ℕ) (d : Entry) (g : Known) → fs ≡ es ++ gs → s < length es → t ≡ s + 1 → AllGuard (put (known_from (take s es)) (get_or es s d).lit) g w all → AllGuard (known_from (take t fs)) g w all
next_guard w all es fs gs s t d g e low n h =
    let m : t ≡ suc s = omega (arith, n) in
    let same : known_from (take t fs) ≡ put (known_from (take s es)) (get_or es s d).lit = ap (λ x. known_from (take x fs)) m ∙ (ap known_from (take_more es fs gs (suc s) e (omega (arith, low))) ∙ known_next es s d low) in
    subst (λ k. AllGuard k g w all) (sym same) h

-- all is silent

group_in : (x : ℕ) (xs : List ℕ) → InGroup x xs → In x xs
group_in x [] i = i
group_in x (y ∷ ys) (inl e) = inl e
group_in x (y ∷ ys) (inr i) = inr (group_in x ys i)

group_looked : (k : Known) (xs : List ℕ) → Looked k k xs → LookedGroup k k xs
group_looked k xs l = λ x y i j e n. l x y (group_in x xs i) (group_in y xs j) e (λ same. false≢true (sym n ∙ (ap (λ z. eqb z x) same ∙ test_same x)))

held_silent : (h : ℕ → ℕ → Type 0) (k : Known) (all : List Constraint) (n : ℕ) (p : Option Pair) (c : Constraint) → OnceAll all → slice_get all n ≡ Some c → ShortSet k all → Held h n p c → Guard k k p c → silent k c ≡ true
held_silent h k all n None (Clause ls) o e s d g = firm_silent k ls (s n ls e d)
held_silent h k all n (Some p) (Clause ls) o e s d g = quiet_silent k p.first p.second ls d.0 g
held_silent h k all n p (AtMostOne xs) o e s d g = looked_silent k xs (once_at all n (AtMostOne xs) o e) (group_looked k xs g)

each_silent : (k : Known) (all : List Constraint) → Each all (λ n c. silent k c ≡ true) → all_silent k all ≡ true
each_silent k [] s = refl
each_silent k (c ∷ cs) s = ap (λ b. b && all_silent k cs) (s 0 c refl) ∙ each_silent k cs (λ n d e. s (suc n) d e)

pub ready_silent : (w : Lists) (f : Formula) (ms : List Lemma) (es : List Entry) → OnceAll (citable f.constraints ms) → Ready w f ms es → length es ≤ w.seen → ShortSet (known_from es) (citable f.constraints ms) → all_silent (known_from es) (citable f.constraints ms) ≡ true
ready_silent w f ms es o r h s =
    let n : w.seen ≡ length es = omega (arith, h, r.1) in
    let t : take w.seen es ≡ es = ap (λ i. take i es) n ∙ take_whole es in
    each_silent (known_from es) (citable f.constraints ms) (λ n c e. held_silent (Has w.rows) (known_from es) (citable f.constraints ms) n (pair_at w.pairs n) c o e s (r.0.0.0.0 n c e) (subst (λ ds. Guard (known_from ds) (known_from es) (pair_at w.pairs n) c) t (r.2 n c e)))

all_guarded : (w : Lists) (f : Formula) (ms : List Lemma) (es : List Entry) → w.seen ≡ length es → Ready w f ms es → AllGuard (known_from es) (known_from es) w (citable f.constraints ms)
all_guarded w f ms es n r =
    subst (λ ds. AllGuard (known_from ds) (known_from es) w (citable f.constraints ms)) (ap (λ i. take i es) n ∙ take_whole es) r.2

pub ready_decided : (w : Lists) (f : Formula) (ms : List Lemma) (es fs : List Entry) (l : Lit) → fs ≡ es ++ record { lit = l; why = Decision } ∷ [] → OpenAll nothing (lits_of fs) → w.seen ≡ length es → Ready w f ms es → Ready w f ms fs
ready_decided w f ms es fs l e o n r =
    let gs : List Entry = record { lit = l; why = Decision } ∷ [] in
    let p : OpenAll nothing (lits_of es ++ lits_of gs) = subst (OpenAll nothing) (ap lits_of e ∙ lits-append es gs) o in
    let i : Inside (known_from es) (known_from fs) = subst (Inside (known_from es)) (sym (ap known_from e ∙ known-append es gs)) (learn_extends (known_from es) (lits_of gs) (open_back nothing (lits_of es) (lits_of gs) p)) in
    ready_longer w f ms es fs gs e i (calm_decided w (citable f.constraints ms) es fs l e (all_guarded w f ms es n r) r.0.1) r
