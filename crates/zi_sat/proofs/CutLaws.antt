-- After a conflict: the trail is cut at a decision, and nothing need be looked at again but for what the new lemma makes true.
use Rattle.std.proofs.Common.{◌≡◌, ℕ, ◌<◌, ◌≤◌, ◌-◌, Bool, true, false, if◌then◌else◌, is_ok, OnOk, Result, Ok, Err, List, [], ◌∷◌, ◌++◌, length, length-append, get_or, take, refl, sym, ap, ◌∙◌, subst, arith, append_assoc, Option, Some, None, inl, inr}
use Rattle.std.specs.List.{slice_get}
use Rattle.std.proofs.lemmas.List.{append_cancel_right, get_or_append_left, get_or_push, take-append-le}
use Rattle.zi_formula.specs.declared.formula.Lit.{Lit}
use Rattle.zi_formula.specs.declared.formula.Formula.{Formula}
use Rattle.zi_formula.specs.Form.{LitsWithin, has_lit}
use Rattle.zi_formula.specs.declared.formula.Constraint.{Constraint}
use Rattle.zi_formula.specs.declared.formula.Constraint.TheVariants.{Clause}
use Rattle.zi_proof.specs.declared.proof.Lemma.{Lemma}
use Rattle.zi_proof.specs.Known.{Known, nothing, is_true}
use Rattle.zi_proof.specs.Accepted.{citable, cited}
use Rattle.zi_sat.specs.declared.entry.Entry.{Entry}
use Rattle.zi_sat.specs.declared.entry.Why.TheVariants.{Hint}
use Rattle.zi_sat.specs.declared.pair.Pair.{Pair}
use Rattle.zi_sat.specs.declared.watches.Watches.{Watches as Lists}
use Rattle.zi_sat.specs.Trail.{lits_of, known_from, OpenAll, silent}
use Rattle.zi_sat.specs.Moves.{Added, hinted}
use Rattle.zi_sat.specs.Fresh.{Hushed}
use Rattle.zi_sat.specs.Marking.{Inside}
use Rattle.zi_sat.specs.Watching.{QuietAt}
use Rattle.zi_sat.specs.Guard.{pair_at, Guard, Each, AllGuard, Calm, AllCalm, Firm, ShortSet, Steady, Ready, LastTwo, Adds}
use Rattle.zi_sat.specs.Chain.{Speaks, Cut, Spoke}
use Rattle.zi_sat.proofs.FreshLaws.{hushed_at, last_in}
use Rattle.zi_sat.proofs.EndLaws.{some_entry}
use Rattle.zi_sat.proofs.MoveLaws.{citable_push, added_none}
use Rattle.zi_sat.proofs.ReachLaws.{take_whole}
use Rattle.zi_sat.proofs.GuardLaws.{made_true, made_added, lit_within}
use Rattle.zi_sat.proofs.VisitLaws.{added_inside, guard_more, citable_length}
use Rattle.zi_sat.proofs.SettleLaws.{firm_of, firm_more}
use Rattle.zi_sat.proofs.AddLaws.{push_case, fitting_more, fitting_same}
use Rattle.zi_sat.proofs.CalmLaws.{pair_added, pair_cut, pair_guard, silent_each}

pub steady_same : (w v : Lists) (f : Formula) (ms ns : List Lemma) (es : List Entry) → v.rows ≡ w.rows → v.pairs ≡ w.pairs → ms ≡ ns → Steady w f ms es → Steady v f ns es
steady_same w v f ms ns es a b s k =
    (fitting_same w v f ms ns a b s k.0, subst (λ p. Each (citable f.constraints ns) (λ n d. Calm es (pair_at p n) d)) (sym b) (subst (λ xs. AllCalm w es (citable f.constraints xs)) s k.1))

pub snoc_last : (xs ys : List Lit) (a b : Lit) → xs ++ a ∷ [] ≡ ys ++ b ∷ [] → a ≡ b
snoc_last xs ys a b e =
    let n : length ys ≡ length xs = omega (arith, ap length e, length-append xs (a ∷ []), length-append ys (b ∷ [])) in
    sym (get_or_push xs a a (length xs) refl) ∙ (ap (λ zs. get_or zs (length xs) a) e ∙ get_or_push ys b a (length xs) n)

snoc_front : (xs ys : List Lit) (a b : Lit) → xs ++ a ∷ [] ≡ ys ++ b ∷ [] → xs ≡ ys
snoc_front xs ys a b e =
    append_cancel_right xs ys (a ∷ []) (e ∙ ap (λ z. ys ++ z ∷ []) (sym (snoc_last xs ys a b e)))

-- one constraint more
each_more : (w v : Lists) (all : List Constraint) (c : Constraint) (P : Option Pair → Constraint → Type 0) → length w.pairs ≡ length all → (a : Adds w v c) → Each all (λ n d. P (pair_at w.pairs n) d) → P a.pair c → Each (all ++ c ∷ []) (λ n d. P (pair_at v.pairs n) d)
each_more w v all c P len a h p n d e =
    elim (push_case all c d n e) [
      | inl q ↦
          let low : n < length w.pairs = omega (arith, q.0, len) in
          let same : pair_at v.pairs n ≡ pair_at w.pairs n = ap (λ ps. get_or ps n None) a.pairs ∙ get_or_append_left w.pairs (a.pair ∷ []) None n low in
          subst (λ x. P x d) (sym same) (h n d q.1)
      | inr q ↦
          let at : n ≡ length w.pairs = q.0 ∙ sym len in
          let same : pair_at v.pairs n ≡ a.pair = ap (λ ps. get_or ps n None) a.pairs ∙ get_or_push w.pairs a.pair None n (sym at) in
          subst (λ x. P x d) (sym same) (subst (P a.pair) q.1 p)
    ]

-- the pair of the new lemma

firsts : (ls : List Lit) (k : Known) (p : Pair) (s : Speaks k ls) → LastTwo (Clause ls) (Some p) → (rest : List Lit) × (s.front ≡ rest ++ p.second ∷ []) × (s.last ≡ p.first)
firsts ls k p s (r, e) =
    let both : s.front ++ s.last ∷ [] ≡ (r ++ p.second ∷ []) ++ p.first ∷ [] = sym s.lits ∙ (e ∙ sym (append_assoc r (p.second ∷ []) (p.first ∷ []))) in
    (r, snoc_front s.front (r ++ p.second ∷ []) s.last p.first both, snoc_last s.front (r ++ p.second ∷ []) s.last p.first both)

new_calm : (es fs : List Entry) (ls : List Lit) (q : Option Pair) → Cut es fs ls → LastTwo (Clause ls) q → Calm fs q (Clause ls)
new_calm es fs ls None c h = tt
new_calm es fs ls (Some p) c h =
    let (rest, e, f) = firsts ls (known_from fs) p c.speaks h in
    subst (λ x. QuietAt ls x p.second nothing fs) f (c.calm rest p.second e)

new_guard : (fs : List Entry) (g h : Known) (ls : List Lit) (q : Option Pair) → (s : Speaks (known_from fs) ls) → LastTwo (Clause ls) q → is_true h s.last ≡ true → Guard g h q (Clause ls)
new_guard fs g h ls None s t e = tt
new_guard fs g h ls (Some p) s t e =
    inl (s.last, subst (λ xs. has_lit xs s.last ≡ true) (sym s.lits) (last_in s.front s.last), e)

new_firm : (k h : Known) (ls : List Lit) → (s : Speaks k ls) → length ls ≤ 1 → is_true h s.last ≡ true → Firm h ls
new_firm k h ls s le e = subst (Firm h) (sym (s.lits ∙ ap (λ xs. xs ++ s.last ∷ []) (none s.front few))) e
  where
    few : length s.front ≤ 0
    few = omega (arith, ap length s.lits, length-append s.front (s.last ∷ []), le)

    none : (xs : List Lit) → length xs ≤ 0 → xs ≡ []
    none [] h = refl
    none (x ∷ xs) h = absurd (omega (arith, h))

same_lits : (a b : List Lit) → Clause a ≡ Clause b → a ≡ b
same_lits a b e = cc

-- `w` are the lists at the conflict, with all entries that stay counted as looked at; `v` has the lemma as well
pub ready_again : (w v : Lists) (f : Formula) (ms ns : List Lemma) (m : Lemma) (ls : List Lit) (es fs gs : List Entry) (h : ℕ) → Steady w f ms es → Hushed (citable f.constraints ms) nothing es → OpenAll nothing (lits_of gs) → ns ≡ ms ++ m ∷ [] → ls ≡ m.lits → (cut : Cut es fs ls) → length v.rows ≡ length w.rows → Adds w v (Clause ls) → v.seen ≡ length fs → Added (citable f.constraints ns) fs gs → gs ≡ fs ++ hinted h (cut.speaks.last ∷ []) → Ready v f ns gs
ready_again w v f ms ns m ls es fs gs h kept hush o e g cut rows a seen more spoke =
    let all : List Constraint = citable f.constraints ms in
    let cs : List Constraint = citable f.constraints ns in
    let k : Known = known_from fs in
    let at : List Entry = take cut.place es in
    let len : length w.pairs ≡ length (citable f.constraints ms) = kept.0.1 ∙ sym (citable_length f.constraints ms) in
    let same : citable f.constraints ms ++ Clause ls ∷ [] ≡ citable f.constraints ns = ap (λ x. citable f.constraints ms ++ Clause x ∷ []) g ∙ (sym (citable_push f.constraints ms m) ∙ ap (citable f.constraints) (sym e)) in
    let inside : Inside (known_from fs) (known_from gs) = added_inside (citable f.constraints ns) fs gs more o in
    let front : take v.seen gs ≡ fs = ap (λ i. take i gs) seen ∙ (ap (take (length fs)) spoke ∙ (take-append-le (length fs) fs (hinted h (cut.speaks.last ∷ [])) (omega arith) ∙ take_whole fs)) in
    let said : is_true (known_from gs) cut.speaks.last ≡ true = made_true fs gs h cut.speaks.last spoke in
    let quiet : (n : ℕ) (c : Constraint) → slice_get (citable f.constraints ms) n ≡ Some c → silent (known_from fs) c ≡ true = λ n c x. subst (λ xs. silent (known_from xs) c ≡ true) (sym cut.cut) (silent_each (known_from (take cut.place es)) (citable f.constraints ms) n c (hushed_at (citable f.constraints ms) nothing es cut.place some_entry hush cut.within (cut.decided some_entry)) x) in
    let calm : AllCalm v gs (citable f.constraints ms ++ Clause ls ∷ []) = each_more w v (citable f.constraints ms) (Clause ls) (λ p c. Calm gs p c) len a (λ n c x. pair_added (citable f.constraints ns) fs gs (pair_at w.pairs n) c more (pair_cut es fs cut.place (pair_at w.pairs n) c cut.cut (kept.1 n c x))) (pair_added (citable f.constraints ns) fs gs a.pair (Clause ls) more (new_calm es fs ls a.pair cut a.last)) in
    let before : (n : ℕ) (c : Constraint) → slice_get (citable f.constraints ms) n ≡ Some c → Guard (known_from fs) (known_from gs) (pair_at w.pairs n) c = λ n c x. guard_more (known_from fs) (known_from fs) (known_from gs) (pair_at w.pairs n) c inside (subst (λ xs. Guard (known_from xs) (known_from xs) (pair_at w.pairs n) c) (sym cut.cut) (pair_guard es cut.place some_entry (pair_at w.pairs n) c cut.within (cut.decided some_entry) (subst (λ xs. silent (known_from xs) c ≡ true) cut.cut (quiet n c x)) (kept.1 n c x))) in
    let guard : AllGuard (known_from fs) (known_from gs) v (citable f.constraints ms ++ Clause ls ∷ []) = each_more w v (citable f.constraints ms) (Clause ls) (λ p c. Guard (known_from fs) (known_from gs) p c) len a before (new_guard fs (known_from fs) (known_from gs) ls a.pair cut.speaks a.last said) in
    let short : ShortSet (known_from gs) (citable f.constraints ms ++ Clause ls ∷ []) = λ n ys x le. elim (push_case (citable f.constraints ms) (Clause ls) (Clause ys) n x) [
      | inl p ↦ firm_more (known_from fs) (known_from gs) ys inside (firm_of (known_from fs) ys le (quiet n (Clause ys) p.1))
      | inr p ↦ subst (Firm (known_from gs)) (same_lits ls ys p.1) (new_firm (known_from fs) (known_from gs) ls cut.speaks (subst (λ zs. length zs ≤ 1) (sym (same_lits ls ys p.1)) le) said)
    ] in
    let longer : v.seen ≤ length gs = omega (arith, seen, ap length spoke, length-append fs (hinted h (cut.speaks.last ∷ []))) in
    ((fitting_more w v f ms ns m ls e g rows a kept.0, subst (AllCalm v gs) same calm), longer, subst (λ xs. AllGuard (known_from xs) (known_from gs) v (citable f.constraints ns)) (sym front) (subst (AllGuard (known_from fs) (known_from gs) v) same guard), inr (subst (ShortSet (known_from gs)) same short))

-- what a clause makes true

last_at : (ls front : List Lit) (l d : Lit) → ls ≡ front ++ l ∷ [] → get_or ls (length ls - 1) d ≡ l
last_at ls front l d e =
    let low : length front ≡ length ls - 1 = omega (arith, ap length e, length-append front (l ∷ [])) in
    ap (λ xs. get_or xs (length ls - 1) d) e ∙ get_or_push front l d (length ls - 1) low

pub said_is : (k : Known) (ls : List Lit) (d : Lit) → (s : Speaks k ls) → get_or ls (length ls - 1) d ≡ s.last
said_is k ls d s = last_at ls s.front s.last d s.lits

pub said_within : (n : ℕ) (k : Known) (ls : List Lit) (s : Speaks k ls) → LitsWithin n ls → (1 ≤ s.last.variable) × (s.last.variable ≤ n)
said_within n k ls s w =
    lit_within n ls s.last w (subst (λ xs. has_lit xs s.last ≡ true) (sym s.lits) (last_in s.front s.last))

pub said_added : (all : List Constraint) (es fs : List Entry) (h : ℕ) (ls : List Lit) (d : Lit) (ok : Bool) → Speaks (known_from es) ls → fs ≡ (if ok then es ++ record { lit = get_or ls (length ls - 1) d; why = Hint h } ∷ [] else es) → cited all h ≡ Some (Clause ls) → Added all es fs
said_added all es fs h ls d false s e f = subst (Added all es) (sym e) (added_none all es)
said_added all es fs h ls d true s e f =
    let said : get_or ls (length ls - 1) d ≡ s.last = said_is (known_from es) ls d s in
    made_added all es fs h s.last ls (e ∙ ap (λ l. es ++ record { lit = l; why = Hint h } ∷ []) said) f s.makes

spoken : (es fs : List Entry) (h : ℕ) (ls : List Lit) (d : Lit) → fs ≡ es ++ record { lit = get_or ls (length ls - 1) d; why = Hint h } ∷ [] → Spoke es fs ls
spoken es fs h ls d e =
    (h, λ front l f. e ∙ ap (λ x. es ++ record { lit = x; why = Hint h } ∷ []) (last_at ls front l d f))

pub spoken_ok : {A B : Type 0} → (es fs : List Entry) (h : ℕ) (ls : List Lit) (d : Lit) (r : Result A B) → fs ≡ (if is_ok r then es ++ record { lit = get_or ls (length ls - 1) d; why = Hint h } ∷ [] else es) → OnOk r (Spoke es fs ls)
spoken_ok es fs h ls d (Ok x) e = spoken es fs h ls d e
spoken_ok es fs h ls d (Err x) e = tt
