-- What a lemma that was learned keeps of the log and the trail.
use Rattle.std.proofs.Common.{◌≡◌, ℕ, zero, suc, ◌<◌, ◌≤◌, true, cond, List, [], ◌∷◌, ◌++◌, map, length, get_or, take, drop, refl, sym, ap, ◌∙◌, subst, arith, append_assoc, append-nil}
use Rattle.zi_formula.specs.declared.formula.Lit.{Lit}
use Rattle.zi_formula.specs.declared.formula.Constraint.{Constraint}
use Rattle.zi_formula.specs.declared.formula.Constraint.TheVariants.{Clause}
use Rattle.zi_formula.specs.declared.formula.Formula.{Formula}
use Rattle.zi_formula.specs.Truth.{opposite}
use Rattle.zi_formula.specs.Form.{Once, OnceAll}
use Rattle.zi_proof.specs.declared.proof.Lemma.{Lemma}
use Rattle.zi_proof.specs.Known.{Known, nothing, put, is_open, Fails, Goes, by_standing, clause_step}
use Rattle.zi_proof.specs.Accepted.{citable, lemma_clause, lemma_accepted, follows, proves}
use Rattle.zi_proof.specs.Lean.{LeanBy, LeanAfter, AreLean}
use Rattle.zi_sat.specs.declared.entry.Entry.{Entry}
use Rattle.zi_sat.specs.declared.entry.Why.TheVariants.{Decision}
use Rattle.zi_sat.specs.Trail.{lits_of, known_from, OpenAll, InAll}
use Rattle.zi_sat.specs.Fresh.{New, FreshAfter, Filled, Hushed}
use Rattle.zi_sat.specs.Marking.{Inside, among, lesson, Explains}
use Rattle.zi_sat.specs.Watching.{QuietAt}
use Rattle.zi_sat.specs.Chain.{Chained, Reached, Learned, LearnedAll, Cut}
use Rattle.zi_sat.proofs.TrailLaws.{lits-append, open-push}
use Rattle.zi_sat.proofs.MoveLaws.{citable_push, follows_push, twice}
use Rattle.zi_sat.proofs.VisitLaws.{opposite_twice}
use Rattle.zi_sat.proofs.CalmLaws.{quiet_marked}
use Rattle.zi_sat.proofs.EndLaws.{proves_push}
use Rattle.zi_sat.proofs.FreshLaws.{fresh_push, filled_push, nil_new, hushed_take, hushed_more, hushed_at, open_front, opposites_push}
use Rattle.zi_sat.proofs.LessLaws.{open_within}
use Rattle.zi_sat.proofs.FreshStep.{AllFalse, open_not_false, open_not_true, false_before}
use Rattle.zi_sat.proofs.ChainLaws.{explained_now}
use Rattle.zi_sat.proofs.ReachLaws.{split_at, chained_drop, open_drop, front_inside}
use Rattle.zi_sat.proofs.PlaceLaws.{none_after}
use Rattle.zi_sat.proofs.LessonLaws.{among_open, among-append, lesson_accepted, lesson_lean, lesson_new, hush_marked, held_false, among_true, one_only}

explains : (all : List Constraint) (es : List Entry) (i : ℕ) (m : Known) (hs : List ℕ) → Chained all nothing es → OpenAll nothing (lits_of es) → Reached all es i m hs → Explains all (known_from (take i es)) m hs
explains all es i m hs c o r =
    explained_now all (known_from (take i es)) (drop i es) m hs (chained_drop all nothing es i c) (open_drop nothing es i o) r.explained

on_trail : (all : List Constraint) (es : List Entry) (i : ℕ) (m : Known) (hs : List ℕ) → OpenAll nothing (lits_of es) → Reached all es i m hs → Inside m (known_from es)
on_trail all es i m hs o r = λ x b p. front_inside es i o x b (r.inside x b p)

-- any lemma of marked literals

grown_follows : (f : Formula) (n : ℕ) (ms ns : List Lemma) (es : List Entry) (i : ℕ) (m : Known) (hs : List ℕ) → n ≡ f.variables → follows f ms ≡ true → Chained (citable f.constraints ms) nothing es → OpenAll nothing (lits_of es) → InAll n (lits_of es) → Reached (citable f.constraints ms) es i m hs → ns ≡ ms ++ lesson m (lits_of es) hs ∷ [] → follows f ns ≡ true
grown_follows f n ms ns es i m hs e w c o a r g =
    let all : List Constraint = citable f.constraints ms in
    let acc : lemma_accepted f ms (lesson m (lits_of es) hs) ≡ true = lesson_accepted f ms (lits_of es) (known_from (take i es)) m hs o (subst (λ k. InAll k (lits_of es)) e a) (on_trail all es i m hs o r) r.inside (explains all es i m hs c o r) in
    subst (λ xs. follows f xs ≡ true) (sym g) (follows_push f [] ms (lesson m (lits_of es) hs) w acc)

lean_push : (cs : List Constraint) (es ms : List Lemma) (m : Lemma) → LeanAfter cs es ms → LeanBy (citable cs (es ++ ms)) m → LeanAfter cs es (ms ++ m ∷ [])
lean_push cs es [] m l b = (subst (λ xs. LeanBy (citable cs xs) m) (append-nil es) b, tt)
lean_push cs es (n ∷ ms) m l b =
    (l.0, lean_push cs (es ++ n ∷ []) ms m l.1 (subst (λ xs. LeanBy (citable cs xs) m) (sym (append_assoc es (n ∷ []) ms)) b))

grown_lean : (cs : List Constraint) (ms ns : List Lemma) (es : List Entry) (i : ℕ) (m : Known) (hs : List ℕ) → AreLean cs ms → Chained (citable cs ms) nothing es → OpenAll nothing (lits_of es) → Reached (citable cs ms) es i m hs → ns ≡ ms ++ lesson m (lits_of es) hs ∷ [] → AreLean cs ns
grown_lean cs ms ns es i m hs l c o r g =
    let all : List Constraint = citable cs ms in
    subst (AreLean cs) (sym g) (lean_push cs [] ms (lesson m (lits_of es) hs) l (lesson_lean all (lits_of es) (known_from (take i es)) m hs o (on_trail all es i m hs o r) r.inside (explains all es i m hs c o r)))

-- after a decision

pub learned_follows : (f : Formula) (n : ℕ) (ms ns : List Lemma) (es : List Entry) (start keep : ℕ) → n ≡ f.variables → follows f ms ≡ true → Chained (citable f.constraints ms) nothing es → OpenAll nothing (lits_of es) → InAll n (lits_of es) → Learned (citable f.constraints ms) es start keep ms ns → follows f ns ≡ true
learned_follows f n ms ns es start keep e w c o a l =
    grown_follows f n ms ns es l.place l.marked l.hints e w c o a l.reached l.added

pub learned_lean : (cs : List Constraint) (ms ns : List Lemma) (es : List Entry) (start keep : ℕ) → AreLean cs ms → Chained (citable cs ms) nothing es → OpenAll nothing (lits_of es) → Learned (citable cs ms) es start keep ms ns → AreLean cs ns
learned_lean cs ms ns es start keep a c o l =
    grown_lean cs ms ns es l.place l.marked l.hints a c o l.reached l.added

abbrev GoodBy : List Constraint → List Lemma → Lemma → Type 0
GoodBy cs ms m = New cs ms m × (0 < length m.lits) × Once m.lits

split_lits : (es : List Entry) (i : ℕ) → lits_of (take i es) ++ lits_of (drop i es) ≡ lits_of es
split_lits es i = sym (lits-append (take i es) (drop i es)) ∙ ap lits_of (split_at es i)

good : (cs : List Constraint) (ms ns : List Lemma) (es : List Entry) (start keep : ℕ) (d : Entry) → OnceAll cs → Filled ms → Hushed (citable cs ms) nothing es → start < length es → (get_or es start d).why ≡ Decision → OpenAll nothing (lits_of es) → (l : Learned (citable cs ms) es start keep ms ns) → GoodBy cs ms (lesson l.marked (lits_of es) l.hints)
good cs ms ns es start keep d once filled hush lt w o l =
    let parts : lits_of (take start es) ++ lits_of (drop start es) ≡ lits_of es = split_lits es start in
    let g : GoodBy cs ms (lesson l.marked (lits_of (take start es) ++ lits_of (drop start es)) l.hints) = lesson_new cs ms l.marked (lits_of (take start es)) (lits_of (drop start es)) l.hints once filled (hushed_at (citable cs ms) nothing es start d hush lt w) (subst (OpenAll nothing) (sym parts) o) l.alone in
    subst (λ xs. GoodBy cs ms (lesson l.marked xs l.hints)) parts g

pub learned_fresh : (cs : List Constraint) (ms ns : List Lemma) (es : List Entry) (start keep : ℕ) (d : Entry) → OnceAll cs → Filled ms → FreshAfter cs [] ms → Hushed (citable cs ms) nothing es → start < length es → (get_or es start d).why ≡ Decision → OpenAll nothing (lits_of es) → Learned (citable cs ms) es start keep ms ns → FreshAfter cs [] ns
learned_fresh cs ms ns es start keep d once filled fresh hush lt w o l =
    subst (FreshAfter cs []) (sym l.added) (fresh_push cs [] ms (lesson l.marked (lits_of es) l.hints) fresh (good cs ms ns es start keep d once filled hush lt w o l).0)

pub learned_filled : (cs : List Constraint) (ms ns : List Lemma) (es : List Entry) (start keep : ℕ) (d : Entry) → OnceAll cs → Filled ms → Hushed (citable cs ms) nothing es → start < length es → (get_or es start d).why ≡ Decision → OpenAll nothing (lits_of es) → Learned (citable cs ms) es start keep ms ns → Filled ns
learned_filled cs ms ns es start keep d once filled hush lt w o l =
    let g : GoodBy cs ms (lesson l.marked (lits_of es) l.hints) = good cs ms ns es start keep d once filled hush lt w o l in
    subst Filled (sym l.added) (filled_push ms (lesson l.marked (lits_of es) l.hints) filled g.1 g.2)

take_less : (es : List Entry) (a b : ℕ) → a ≤ b → take a (take b es) ≡ take a es
take_less [] zero zero h = refl
take_less [] zero (suc b) h = refl
take_less [] (suc a) zero h = refl
take_less [] (suc a) (suc b) h = refl
take_less (e ∷ es) zero b h = refl
take_less (e ∷ es) (suc a) zero h = absurd (omega (arith, h))
take_less (e ∷ es) (suc a) (suc b) h = ap (λ xs. e ∷ xs) (take_less es a b (omega arith))

among_split : (m : Known) (es : List Entry) (i : ℕ) → among m (lits_of es) ≡ among m (lits_of (take i es)) ++ among m (lits_of (drop i es))
among_split m es i =
    ap (among m) (sym (split_lits es i)) ∙ among-append m (lits_of (take i es)) (lits_of (drop i es))

-- up to the place that stays the marked literals are all but the one
all_but_one : (m : Known) (es : List Entry) (start keep : ℕ) (u : Lit) → keep ≤ start → among m (lits_of (drop keep (take start es))) ≡ [] → among m (lits_of (drop start es)) ≡ u ∷ [] → among m (lits_of es) ≡ among m (lits_of (take keep es)) ++ u ∷ []
all_but_one m es start keep u h n e =
    let front : among m (lits_of (take start es)) ≡ among m (lits_of (take keep es)) = among_split m (take start es) keep ∙ (ap (λ xs. among m (lits_of (take keep (take start es))) ++ xs) n ∙ (append-nil (among m (lits_of (take keep (take start es)))) ∙ ap (λ xs. among m (lits_of xs)) (take_less es keep start h))) in
    among_split m es start ∙ (ap (λ xs. xs ++ among m (lits_of (drop start es))) front ∙ ap (λ xs. among m (lits_of (take keep es)) ++ xs) e)

pub learned_hushed : (cs : List Constraint) (ms ns : List Lemma) (es fs : List Entry) (start keep : ℕ) → Hushed (citable cs ms) nothing es → OpenAll nothing (lits_of es) → Learned (citable cs ms) es start keep ms ns → fs ≡ take keep es → Hushed (citable cs ns) nothing fs
learned_hushed cs ms ns es fs start keep hush o l f =
    let m : Known = l.marked in
    let one : (u : Lit) × (among m (lits_of (drop start es)) ≡ u ∷ []) = one_only (among m (lits_of (drop start es))) l.alone in
    let u : Lit = one.0 in
    let kept : List Entry = take keep es in
    let lits : map opposite (among m (lits_of es)) ≡ map opposite (among m (lits_of kept)) ++ opposite u ∷ [] = ap (map opposite) (all_but_one m es start keep u l.bound l.behind one.1) ∙ opposites_push (among m (lits_of kept)) u in
    let late : is_open (known_from (take start es) u.variable) ≡ true = (subst (OpenAll (known_from (take start es))) one.1 (among_open m (known_from (take start es)) (lits_of (drop start es)) (open_drop nothing es start o))).0 in
    let of : OpenAll nothing (lits_of (take start es)) = open_front nothing (lits_of (take start es)) (lits_of (drop start es)) (subst (OpenAll nothing) (sym (split_lits es start)) o) in
    let early : Inside (known_from kept) (known_from (take start es)) = subst (λ xs. Inside (known_from xs) (known_from (take start es))) (take_less es keep start l.bound) (front_inside (take start es) keep of) in
    let ok : OpenAll nothing (lits_of kept) = open_front nothing (lits_of kept) (lits_of (drop keep es)) (subst (OpenAll nothing) (sym (split_lits es keep)) o) in
    let ou : OpenAll nothing (lits_of kept ++ u ∷ []) = open-push nothing (lits_of kept) u ok (open_within (known_from kept) (known_from (take start es)) u.variable early late) in
    let hushes : Hushed (lemma_clause (lesson m (lits_of es) l.hints) ∷ []) nothing kept = subst (λ xs. Hushed (Clause xs ∷ []) nothing kept) (sym lits) (hush_marked m nothing [] kept u tt ou l.covered) in
    let c : citable cs ns ≡ citable cs ms ++ lemma_clause (lesson m (lits_of es) l.hints) ∷ [] = ap (citable cs) l.added ∙ citable_push cs ms (lesson m (lits_of es) l.hints) in
    subst (λ xs. Hushed xs nothing fs) (sym c) (subst (Hushed (citable cs ms ++ lemma_clause (lesson m (lits_of es) l.hints) ∷ []) nothing) (sym f) (hushed_more (citable cs ms) (lemma_clause (lesson m (lits_of es) l.hints)) nothing kept (hushed_take (citable cs ms) nothing es keep hush) hushes))

-- where no decision was made

no_lits : (all : List Constraint) (es : List Entry) (ms ns : List Lemma) (l : LearnedAll all es ms ns) → OpenAll nothing (lits_of es) → (lesson l.marked (lits_of es) l.hints).lits ≡ []
no_lits all es ms ns l o = ap (map opposite) (none_after l.marked nothing (lits_of es) l.reached.inside o)

pub refuted_follows : (f : Formula) (n : ℕ) (ms ns : List Lemma) (es : List Entry) → n ≡ f.variables → follows f ms ≡ true → Chained (citable f.constraints ms) nothing es → OpenAll nothing (lits_of es) → InAll n (lits_of es) → LearnedAll (citable f.constraints ms) es ms ns → follows f ns ≡ true
refuted_follows f n ms ns es e w c o a l =
    grown_follows f n ms ns es 0 l.marked l.hints e w c o a l.reached l.added

pub refuted_lean : (cs : List Constraint) (ms ns : List Lemma) (es : List Entry) → AreLean cs ms → Chained (citable cs ms) nothing es → OpenAll nothing (lits_of es) → LearnedAll (citable cs ms) es ms ns → AreLean cs ns
refuted_lean cs ms ns es a c o l =
    grown_lean cs ms ns es 0 l.marked l.hints a c o l.reached l.added

pub refuted_fresh : (cs : List Constraint) (ms ns : List Lemma) (es : List Entry) → FreshAfter cs [] ms → Filled ms → OpenAll nothing (lits_of es) → LearnedAll (citable cs ms) es ms ns → FreshAfter cs [] ns
refuted_fresh cs ms ns es fresh filled o l =
    subst (FreshAfter cs []) (sym l.added) (fresh_push cs [] ms (lesson l.marked (lits_of es) l.hints) fresh (nil_new cs ms (lesson l.marked (lits_of es) l.hints) (no_lits (citable cs ms) es ms ns l o) filled))

pub refuted_proves : (cs : List Constraint) (ms ns : List Lemma) (es : List Entry) → OpenAll nothing (lits_of es) → LearnedAll (citable cs ms) es ms ns → proves [] ns ≡ true
refuted_proves cs ms ns es o l =
    subst (λ xs. proves [] xs ≡ true) (sym l.added) (proves_push ms (lesson l.marked (lits_of es) l.hints) (no_lits (citable cs ms) es ms ns l o))

-- where the trail is cut the lemma makes its last literal true

unit_alone : (k : Known) (d : Lit) → is_open (k d.variable) ≡ true → clause_step k (d ∷ []) ≡ Goes (put k d)
unit_alone k d o =
    ap (λ b. by_standing k (cond b [] (d ∷ []))) (open_not_false k d o) ∙ ap (λ b. cond b Fails (Goes (put k d))) (open_not_true k d o)

pub learned_cut : (all : List Constraint) (ms ns : List Lemma) (es fs : List Entry) (start keep : ℕ) → OpenAll nothing (lits_of es) → start < length es → (l : Learned all es start keep ms ns) → fs ≡ take keep es → Cut es fs (lesson l.marked (lits_of es) l.hints).lits
learned_cut all ms ns es fs start keep o lt l f =
    let m : Known = l.marked in
    let kept : List Entry = take keep es in
    let k : Known = known_from (take keep es) in
    let one : (u : Lit) × (among m (lits_of (drop start es)) ≡ u ∷ []) = one_only (among m (lits_of (drop start es))) l.alone in
    let u : Lit = one.0 in
    let lits : map opposite (among m (lits_of es)) ≡ map opposite (among m (lits_of (take keep es))) ++ opposite u ∷ [] = ap (map opposite) (all_but_one m es start keep u l.bound l.behind one.1) ∙ opposites_push (among m (lits_of (take keep es))) u in
    let late : is_open (known_from (take start es) u.variable) ≡ true = (subst (OpenAll (known_from (take start es))) one.1 (among_open m (known_from (take start es)) (lits_of (drop start es)) (open_drop nothing es start o))).0 in
    let of : OpenAll nothing (lits_of (take start es)) = open_front nothing (lits_of (take start es)) (lits_of (drop start es)) (subst (OpenAll nothing) (sym (split_lits es start)) o) in
    let early : Inside k (known_from (take start es)) = subst (λ xs. Inside (known_from xs) (known_from (take start es))) (take_less es keep start l.bound) (front_inside (take start es) keep of) in
    let undecided : is_open (k u.variable) ≡ true = open_within k (known_from (take start es)) u.variable early late in
    let ok : OpenAll nothing (lits_of (take keep es)) = open_front nothing (lits_of (take keep es)) (lits_of (drop keep es)) (subst (OpenAll nothing) (sym (split_lits es keep)) o) in
    let ou : OpenAll nothing (lits_of (take keep es) ++ u ∷ []) = open-push nothing (lits_of (take keep es)) u ok undecided in
    let fs_false : AllFalse k (map opposite (among m (lits_of (take keep es)))) = held_false k (among m (lits_of (take keep es))) (among_true m nothing (lits_of (take keep es)) ok) in
    let makes : clause_step k (map opposite (among m (lits_of es))) ≡ Goes (put k (opposite u)) = ap (clause_step k) lits ∙ (false_before k (map opposite (among m (lits_of (take keep es)))) (opposite u ∷ []) fs_false ∙ unit_alone k (opposite u) undecided) in
    record {
      place = keep;
      within = omega (arith, lt, l.bound);
      decided = l.decided;
      cut = f;
      speaks = record {
        front = map opposite (among m (lits_of (take keep es)));
        last = opposite u;
        lits = lits;
        undecided = subst (λ xs. is_open (known_from xs u.variable) ≡ true) (sym f) undecided;
        makes = subst (λ xs. clause_step (known_from xs) (map opposite (among m (lits_of es))) ≡ Goes (put (known_from xs) (opposite u))) (sym f) makes;
      };
      calm = λ rest z e.
          let there : among m (lits_of (take keep es)) ≡ map opposite rest ++ opposite z ∷ [] = sym (twice (among m (lits_of (take keep es)))) ∙ (ap (map opposite) e ∙ opposites_push rest z) in
          subst (QuietAt (map opposite (among m (lits_of es))) (opposite u) z nothing) (sym f) (subst (λ x. QuietAt (map opposite (among m (lits_of es))) (opposite u) x nothing (take keep es)) (opposite_twice z) (quiet_marked (map opposite (among m (lits_of es))) m nothing (take keep es) u (opposite z) (map opposite rest) ou l.covered there));
    }
