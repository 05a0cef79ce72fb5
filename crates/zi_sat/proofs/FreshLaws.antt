-- The lemma of all decisions is new, and silent before each decision that stays.
use Rattle.std.proofs.Common.{◌≡◌, ℕ, zero, suc, ◌<◌, Bool, true, false, not, ◌&&◌, eqb, cond, List, [], ◌∷◌, ◌++◌, map, length, get_or, take, refl, sym, ap, ◌∙◌, subst, arith, Option, Some, inl, inr, append_assoc, append-nil}
use Rattle.std.proofs.lemmas.Bool.{false≢true, false_from_ne_true, eqb-true, and_parts}
use Rattle.zi_sat.proofs.CountLaws.{or_case, lit_self}
use Rattle.zi_formula.specs.declared.formula.Lit.{Lit}
use Rattle.zi_formula.specs.declared.formula.Constraint.{Constraint}
use Rattle.zi_formula.specs.declared.formula.Constraint.TheVariants.{Clause, AtMostOne}
use Rattle.zi_formula.specs.Truth.{opposite}
use Rattle.zi_proof.specs.declared.proof.Lemma.{Lemma}
use Rattle.zi_proof.specs.Known.{Known, nothing, put, says, is_open, is_false}
use Rattle.zi_proof.specs.Accepted.{lemma_clause}
use Rattle.zi_formula.specs.Form.{same_lit, has_lit, has_all}
use Rattle.zi_sat.specs.declared.entry.Entry.{Entry}
use Rattle.zi_sat.specs.declared.entry.Why.{Why}
use Rattle.zi_sat.specs.declared.entry.Why.TheVariants.{Decision, Hint}
use Rattle.zi_sat.specs.Trail.{lits_of, learn, known_from, OpenAll, silent, all_silent}
use Rattle.zi_sat.specs.Moves.{Move, Decide, Apply, hinted, entries_of, Implied, Added}
use Rattle.zi_sat.specs.Fresh.{ApartAll, New, FreshAfter, Filled, at_decision, Hushed}
use Rattle.zi_formula.specs.Form.{Once, OnceAll}
use Rattle.zi_sat.proofs.GroupLaws.{lits-hinted}
use Rattle.zi_sat.proofs.CiteLaws.{silent_append}
use Rattle.zi_sat.specs.Watching.{FalseOr}
use Rattle.zi_sat.proofs.FreshStep.{AllFalse, new_is_fresh}
use Rattle.zi_sat.proofs.LessLaws.{some_says, put_keep_case}
use Rattle.zi_proof.proofs.Sound.{says_some}
use Rattle.zi_proof.proofs.CutLaws.{test_same}

-- what is known stays known

abbrev pub Extends : Known → Known → Type 0
Extends k g = (x : ℕ) (b : Bool) → k x ≡ Some b → g x ≡ Some b

pub put_extends : (k : Known) (l : Lit) → is_open (k l.variable) ≡ true → Extends k (put k l)
put_extends k l o = λ x b h. put_keep_case k l x b (eqb x l.variable) refl o h

pub learn_extends : (k : Known) (ls : List Lit) → OpenAll k ls → Extends k (learn k ls)
learn_extends k [] o = λ x b h. h
learn_extends k (l ∷ ls) o =
    λ x b h. learn_extends (put k l) ls o.1 x b (put_extends k l o.0 x b h)

pub self_case : (k : Known) (l : Lit) (t : Bool) → t ≡ true → cond t (Some l.positive) (k l.variable) ≡ Some l.positive
self_case k l true e = refl
self_case k l false e = absurd (false≢true e)

pub put_self : (k : Known) (l : Lit) → put k l l.variable ≡ Some l.positive
put_self k l = self_case k l (eqb l.variable l.variable) (test_same l.variable)

opposite_false : (p : Bool) → says (Some p) (not (not p)) ≡ true
opposite_false true = refl
opposite_false false = refl

-- a literal that is taken as true has a false opposite
pub false_opposite : (k : Known) (l : Lit) → k l.variable ≡ Some l.positive → is_false k (opposite l) ≡ true
false_opposite k l h = ap (λ o. says o (not (not l.positive))) h ∙ opposite_false l.positive

-- the opposites of the decisions are false after them, so all but the last are false before the last

pub false_or_push : (k : Known) (d : Lit) (ls : List Lit) → AllFalse k ls → FalseOr k d (ls ++ d ∷ [])
false_or_push k d [] f = (inr refl, tt)
false_or_push k d (l ∷ ls) f = (inl f.0, false_or_push k d ls f.1)

-- no decision is made twice

pub other_lit : (m l : Lit) → eqb m.variable l.variable ≡ false → same_lit m l ≡ false
other_lit m l h = ap (λ b. b && cond m.positive l.positive (not l.positive)) h

pub open_apart : (k : Known) (m l : Lit) (b : Bool) → k l.variable ≡ Some b → is_open (k m.variable) ≡ true → eqb m.variable l.variable ≡ false
open_apart k m l b h o = false_from_ne_true (eqb m.variable l.variable) (λ e. false≢true (sym (ap is_open h) ∙ (ap (λ z. is_open (k z)) (sym (eqb-true m.variable l.variable e)) ∙ o)))

-- a new lemma is apart from all that is silent before the last decision

pub apart_all : (k : Known) (d : Lit) (ms : List Lit) (cs : List Constraint) → is_open (k d.variable) ≡ true → FalseOr k d ms → OnceAll cs → all_silent k cs ≡ true → ApartAll ms cs
apart_all k d ms [] o f u s = tt
apart_all k d ms (Clause ls ∷ cs) o f u s =
    (new_is_fresh k d ms ls o f u.0 (and_parts (silent k (Clause ls)) (all_silent k cs) s).0, apart_all k d ms cs o f u.1 (and_parts (silent k (Clause ls)) (all_silent k cs) s).1)
apart_all k d ms (AtMostOne xs ∷ cs) o f u s =
    apart_all k d ms cs o f u.1 (and_parts (silent k (AtMostOne xs)) (all_silent k cs) s).1

pub filled_once : (ms : List Lemma) → Filled ms → OnceAll (map lemma_clause ms)
filled_once [] f = tt
filled_once (m ∷ ms) f = (f.1, filled_once ms f.2)

-- it is silent before each decision that stays

false_more : (o r : Option Bool) (b : Bool) → ((c : Bool) → o ≡ Some c → r ≡ Some c) → says o b ≡ true → says r b ≡ true
false_more o r b h e = ap (λ x. says x b) (h b (says_some o b e)) ∙ some_says b

pub under_case : (k : Known) (l : Lit) (x : ℕ) (t : Bool) → is_open (cond t (Some l.positive) (k x)) ≡ true → is_open (k x) ≡ true
under_case k l x true h = absurd (false≢true h)
under_case k l x false h = h

pub open_under_put : (k : Known) (l : Lit) (x : ℕ) → is_open (put k l x) ≡ true → is_open (k x) ≡ true
open_under_put k l x h = under_case k l x (eqb x l.variable) h

pub extends_false : (k g : Known) (ls : List Lit) → Extends k g → AllFalse k ls → AllFalse g ls
extends_false k g [] h f = tt
extends_false k g (l ∷ ls) h f =
    (false_more (k l.variable) (g l.variable) (not l.positive) (h l.variable) f.0, extends_false k g ls h f.1)

pub false_push : (k : Known) (ls : List Lit) (l : Lit) → AllFalse k ls → is_false k l ≡ true → AllFalse k (ls ++ l ∷ [])
false_push k [] l f e = (e, tt)
false_push k (m ∷ ls) l f e = (f.0, false_push k ls l f.1 e)

pub last_in : (ls : List Lit) (d : Lit) → has_lit (ls ++ d ∷ []) d ≡ true
last_in [] d = ap (λ b. cond b true false) (lit_self d)
last_in (l ∷ ls) d = or_case (same_lit l d) (has_lit (ls ++ d ∷ []) d) (last_in ls d)

pub open_later : (k : Known) (ls : List Lit) (d : Lit) → OpenAll k (ls ++ d ∷ []) → is_open (k d.variable) ≡ true
open_later k [] d o = o.0
open_later k (l ∷ ls) d o = open_under_put k l d.variable (open_later (put k l) ls d o.1)

-- what is hushed stays hushed

hushed_append : (all : List Constraint) (k : Known) (es fs : List Entry) → Hushed all k es → Hushed all (learn k (lits_of es)) fs → Hushed all k (es ++ fs)
hushed_append all k [] fs h g = g
hushed_append all k (e ∷ es) fs h g = (h.0, hushed_append all (put k e.lit) es fs h.1 g)

hushed_hinted : (all : List Constraint) (k : Known) (i : ℕ) (ls : List Lit) → Hushed all k (hinted i ls)
hushed_hinted all k i [] = tt
hushed_hinted all k i (l ∷ ls) = (tt, hushed_hinted all (put k l) i ls)

hushed_implied : (all more : List Constraint) (k : Known) (ms : List Move) → Implied more k ms → Hushed all k (entries_of ms)
hushed_implied all more k [] i = tt
hushed_implied all more k (Decide l ∷ ms) i = absurd i
hushed_implied all more k (Apply h ls ∷ ms) i =
    hushed_append all k (hinted h ls) (entries_of ms) (hushed_hinted all k h ls) (subst (λ xs. Hushed all (learn k xs) (entries_of ms)) (sym (lits-hinted h ls)) (hushed_implied all more (learn k ls) ms i.1))

pub hushed_added : (all more : List Constraint) (es fs : List Entry) → Hushed all nothing es → Added more es fs → Hushed all nothing fs
hushed_added all more es fs h (ms, f, i) =
    subst (Hushed all nothing) (sym f) (hushed_append all nothing es (entries_of ms) h (hushed_implied all more (known_from es) ms i))

pub hushed_decide : (all : List Constraint) (es fs : List Entry) (l : Lit) → Hushed all nothing es → fs ≡ es ++ record { lit = l; why = Decision } ∷ [] → all_silent (known_from es) all ≡ true → Hushed all nothing fs
hushed_decide all es fs l h f q =
    subst (Hushed all nothing) (sym f) (hushed_append all nothing es (record { lit = l; why = Decision } ∷ []) h (q, tt))

pub hushed_take : (all : List Constraint) (k : Known) (es : List Entry) (i : ℕ) → Hushed all k es → Hushed all k (take i es)
hushed_take all k [] zero h = tt
hushed_take all k [] (suc i) h = tt
hushed_take all k (e ∷ es) zero h = tt
hushed_take all k (e ∷ es) (suc i) h = (h.0, hushed_take all (put k e.lit) es i h.1)

more_by : (w : Why) (k : Known) (all : List Constraint) (c : Constraint) → at_decision w (all_silent k all ≡ true) → at_decision w (all_silent k (c ∷ []) ≡ true) → at_decision w (all_silent k (all ++ c ∷ []) ≡ true)
more_by Decision k all c h g = silent_append k all (c ∷ []) h g
more_by (Hint i) k all c h g = tt

pub hushed_more : (all : List Constraint) (c : Constraint) (k : Known) (es : List Entry) → Hushed all k es → Hushed (c ∷ []) k es → Hushed (all ++ c ∷ []) k es
hushed_more all c k [] h g = tt
hushed_more all c k (e ∷ es) h g = (more_by e.why k all c h.0 g.0, hushed_more all c (put k e.lit) es h.1 g.1)

pub at_by : (w : Why) (P : Type 0) → w ≡ Decision → at_decision w P → P
at_by Decision P e h = h
at_by (Hint i) P e h = let x : ◌≡◌ {A = Why} (Hint i) Decision = e in cc

pub hushed_at : (all : List Constraint) (k : Known) (es : List Entry) (i : ℕ) (d : Entry) → Hushed all k es → i < length es → (get_or es i d).why ≡ Decision → all_silent (learn k (lits_of (take i es))) all ≡ true
hushed_at all k [] i d h lt w = absurd (omega arith)
hushed_at all k (e ∷ es) zero d h lt w = at_by e.why (all_silent k all ≡ true) w h.0
hushed_at all k (e ∷ es) (suc i) d h lt w = hushed_at all (put k e.lit) es i d h.1 (omega arith) w

-- the last decision

pub open_front : (k : Known) (ls ms : List Lit) → OpenAll k (ls ++ ms) → OpenAll k ls
open_front k [] ms o = tt
open_front k (l ∷ ls) ms o = (o.0, open_front (put k l) ls ms o.1)

pub open_back : (k : Known) (ls ms : List Lit) → OpenAll k (ls ++ ms) → OpenAll (learn k ls) ms
open_back k [] ms o = o
open_back k (l ∷ ls) ms o = open_back (put k l) ls ms o.1

pub opposites_push : (ls : List Lit) (l : Lit) → map opposite (ls ++ l ∷ []) ≡ map opposite ls ++ opposite l ∷ []
opposites_push [] l = refl
opposites_push (m ∷ ls) l = ap (λ xs. opposite m ∷ xs) (opposites_push ls l)

pub silent_back : (k : Known) (cs ds : List Constraint) → all_silent k (cs ++ ds) ≡ true → all_silent k ds ≡ true
silent_back k [] ds a = a
silent_back k (c ∷ cs) ds a = silent_back k cs ds (and_parts (silent k c) (all_silent k (cs ++ ds)) a).1

pub some_length : (ls : List Lit) (l : Lit) → 0 < length (ls ++ l ∷ [])
some_length [] l = omega arith
some_length (m ∷ ls) l = omega arith

-- the empty lemma contains no lemma that has a literal

has_none : (ls : List Lit) → 0 < length ls → has_all [] ls ≡ false
has_none [] z = absurd (omega (arith, z))
has_none (l ∷ ls) z = refl

no_length : (ls : List Lit) → ls ≡ [] → 0 < length ls → ⊥
no_length [] e z = omega (arith, z)
no_length (l ∷ ls) e z = let x : ◌≡◌ {A = List Lit} (l ∷ ls) [] = e in cc

apart_nil : (ms : List Lemma) → Filled ms → ApartAll [] (map lemma_clause ms)
apart_nil [] f = tt
apart_nil (m ∷ ms) f = (has_none m.lits f.0, apart_nil ms f.2)

pub nil_new : (cs : List Constraint) (ms : List Lemma) (m : Lemma) → m.lits ≡ [] → Filled ms → New cs ms m
nil_new cs ms m e f = (subst (λ ls. ApartAll ls (map lemma_clause ms)) (sym e) (apart_nil ms f), λ z. absurd (no_length m.lits e z))

pub fresh_push : (cs : List Constraint) (es ms : List Lemma) (m : Lemma) → FreshAfter cs es ms → New cs (es ++ ms) m → FreshAfter cs es (ms ++ m ∷ [])
fresh_push cs es [] m f n = (subst (λ xs. New cs xs m) (append-nil es) n, tt)
fresh_push cs es (x ∷ ms) m f n =
    (f.0, fresh_push cs (es ++ x ∷ []) ms m f.1 (subst (λ xs. New cs xs m) (sym (append_assoc es (x ∷ []) ms)) n))

pub filled_push : (ms : List Lemma) (m : Lemma) → Filled ms → 0 < length m.lits → Once m.lits → Filled (ms ++ m ∷ [])
filled_push [] m f z o = (z, o, tt)
filled_push (x ∷ ms) m f z o = (f.0, f.1, filled_push ms m f.2 z o)

-- what the search needs of a conflict
