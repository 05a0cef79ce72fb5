-- What a look at a constraint leaves: what it holds, and why it needn't be looked at.
use Rattle.std.proofs.Common.{◌≡◌, ℕ, zero, suc, ◌<◌, ◌≤◌, ◌+◌, ◌-◌, ◌*◌, Bool, true, false, cond, List, [], ◌∷◌, ◌++◌, map, length, get_or, refl, sym, ap, ◌∙◌, subst, arith, Option, Some, None, Result, Ok, Err, ◌⊎◌, inl, inr, append-nil, All}
use Rattle.std.specs.List.{slice_get}
use Rattle.std.proofs.lemmas.Bool.{false≢true, and_parts}
use Rattle.zi_formula.specs.declared.formula.Lit.{Lit}
use Rattle.zi_formula.specs.declared.formula.Constraint.{Constraint}
use Rattle.zi_formula.specs.declared.formula.Constraint.TheVariants.{Clause, AtMostOne}
use Rattle.zi_formula.specs.Form.{ConstraintWithin, LitsWithin, same_lit, has_lit, OnceAll, ItemsOnce}
use Rattle.zi_proof.specs.Known.{Known, put, says, is_true, is_false, Goes, clause_step}
use Rattle.zi_proof.specs.declared.proof.Lemma.{Lemma}
use Rattle.zi_proof.specs.Accepted.{citable, cited, lemma_clause, lits_within, lemmas_within}
use Rattle.zi_sat.specs.declared.entry.Entry.{Entry}
use Rattle.zi_sat.specs.declared.pair.Pair.{Pair}
use Rattle.zi_sat.specs.Trail.{known_from, silent}
use Rattle.zi_sat.specs.Moves.{Added, hinted}
use Rattle.zi_sat.specs.Guard.{row_of, pair_at, Beside, Lacks, StaysPair, MovesPair, Visited, Looks, StaysOrClashes, IfPair, Blocks, Fits}
use Rattle.zi_sat.specs.declared.rows.Watcher.{Watcher}
use Rattle.zi_sat.specs.declared.watch.Visit.TheVariants.{Stays, Moves, Clashes}
use Rattle.zi_sat.specs.declared.watch.Visit.{Visit}
use Rattle.zi_text.specs.declared.memory.Memory.{Memory}
use Rattle.zi_proof.proofs.Cites.{within_at}
use Rattle.zi_sat.proofs.VisitLaws.{row_same}
use Rattle.zi_sat.specs.Watching.{Watches}
use Rattle.zi_sat.proofs.FreshStep.{lits_same}
use Rattle.zi_sat.proofs.FreshLaws.{put_self}
use Rattle.zi_sat.proofs.LessLaws.{some_says}
use Rattle.zi_sat.proofs.TrailLaws.{known-append}
use Rattle.zi_sat.proofs.CiteLaws.{goes, cited_zs, lits_ok}
use Rattle.zi_sat.proofs.MoveLaws.{added_more}
use Rattle.std.proofs.lemmas.List.Elements.{All-head, All-tail, All-nil, All-cons, All-append}
use Rattle.std.proofs.lemmas.Option.{same_Some}

within_case : (n : ℕ) (m a : Lit) (ls : List Lit) (t : Bool) → same_lit m a ≡ t → (1 ≤ m.variable) × (m.variable ≤ n) → (has_lit ls a ≡ true → (1 ≤ a.variable) × (a.variable ≤ n)) → cond t true (has_lit ls a) ≡ true → (1 ≤ a.variable) × (a.variable ≤ n)
within_case n m a ls true e w r h = subst (λ x. (1 ≤ x.variable) × (x.variable ≤ n)) (lits_same m a e) w
within_case n m a ls false e w r h = r h

pub lit_within : (n : ℕ) (ls : List Lit) (a : Lit) → LitsWithin n ls → has_lit ls a ≡ true → (1 ≤ a.variable) × (a.variable ≤ n)
lit_within n [] a w h = absurd (false≢true h)
lit_within n (m ∷ ls) a w h =
    within_case n m a ls (same_lit m a) refl (All-head (λ l. (1 ≤ l.variable) × (l.variable ≤ n)) m ls w) (λ r. lit_within n ls a (All-tail (λ l. (1 ≤ l.variable) × (l.variable ≤ n)) m ls w) r) h

pub pair_is : (ps : List (Option Pair)) (i : ℕ) (r : Option Pair) (p : Pair) → r ≡ pair_at ps i → r ≡ Some p → pair_at ps i ≡ Some p
pair_is ps i r p e f = sym e ∙ f

pub beside_has : (ps : List (Option Pair)) (i : ℕ) (r : Option Pair) (p : Pair) (ls : List Lit) (l o : Lit) → r ≡ pair_at ps i → r ≡ Some p → IfPair (pair_at ps i) (λ p. Watches ls p.first p.second) → Beside p l o → has_lit ls o ≡ true
beside_has ps i r p ls l o e f w (inl b) =
    let h : Watches ls p.first p.second = subst (λ x. IfPair x (λ p. Watches ls p.first p.second)) (pair_is ps i r p e f) w in
    ap (has_lit ls) (sym b.1) ∙ h.second
beside_has ps i r p ls l o e f w (inr b) =
    let h : Watches ls p.first p.second = subst (λ x. IfPair x (λ p. Watches ls p.first p.second)) (pair_is ps i r p e f) w in
    ap (has_lit ls) (sym b.1) ∙ h.first

pub row_low : (n r : ℕ) (l : Lit) → l.variable ≤ n → n * 2 + 2 ≤ r → row_of l < r
row_low n r l h e = row_case l.positive
  where
    row_case : (b : Bool) → l.variable * 2 + cond b 1 0 < r
    row_case true = omega (arith, h, e)
    row_case false = omega (arith, h, e)

pub made_added : (all : List Constraint) (es fs : List Entry) (h : ℕ) (o : Lit) (ls : List Lit) → fs ≡ es ++ hinted h (o ∷ []) → cited all h ≡ Some (Clause ls) → clause_step (known_from es) ls ≡ Goes (put (known_from es) o) → Added all es fs
made_added all es fs h o ls e f g =
    added_more all es es fs h (o ∷ []) ([], sym (append-nil es), tt) e (goes (known_from es) (put (known_from es) o) (cited all h) (Clause ls) f g, inl refl)

pub made_true : (es fs : List Entry) (h : ℕ) (o : Lit) → fs ≡ es ++ hinted h (o ∷ []) → is_true (known_from fs) o ≡ true
made_true es fs h o e =
    ap (λ x. says x o.positive) (ap (λ gs. known_from gs o.variable) e ∙ (ap (λ k. k o.variable) (known-append es (hinted h (o ∷ []))) ∙ put_self (known_from es) o)) ∙ some_says o.positive

pub lacks_stays : (ls : List Lit) (l : Lit) (k : Known) (q : Option Pair) (p : Pair) → q ≡ Some p → Lacks p l → StaysPair ls l k q q
lacks_stays ls l k q p e n = subst (λ x. StaysPair ls l k x x) (sym e) (refl, inl n)

pub some_stays : (ls : List Lit) (l : Lit) (k : Known) (q : Option Pair) (p : Pair) (o : Lit) → q ≡ Some p → has_lit ls o ≡ true → is_true k o ≡ true → StaysPair ls l k q q
some_stays ls l k q p o e h t = subst (λ x. StaysPair ls l k x x) (sym e) (refl, inr (o, h, t))

pub none_stays : (ls : List Lit) (l : Lit) (k : Known) (q : Option Pair) → q ≡ None → StaysPair ls l k q q
none_stays ls l k q e = subst (λ x. StaysPair ls l k x x) (sym e) refl

pub moves_pair : (ls : List Lit) (l : Lit) (k : Known) (q r : Option Pair) (p n : Pair) → q ≡ Some p → Beside p l n.second → r ≡ Some n → has_lit ls n.first ≡ true → same_lit n.first n.second ≡ false → is_false k n.first ≡ false → MovesPair ls l k q r n
moves_pair ls l k q r p n e b f h a z = subst (λ x. MovesPair ls l k x r n) (sym e) (b, f, h, a, z)

-- the constraint at a place

pub once_at : (all : List Constraint) (i : ℕ) (c : Constraint) → OnceAll all → slice_get all i ≡ Some c → ItemsOnce c
once_at [] i c o e = let z : ◌≡◌ {A = Option Constraint} None (Some c) = e in cc
once_at (x ∷ all) zero c o e = subst ItemsOnce (same_Some x c e) o.0
once_at (x ∷ all) (suc i) c o e = once_at all i c o.1 e

pub cited_next : (all : List Constraint) (i : ℕ) (c : Constraint) → slice_get all i ≡ Some c → cited all (i + 1) ≡ Some c
cited_next all i c e =
    let n : i + 1 ≡ suc i = omega arith in
    ap (cited all) n ∙ e

pub place_of : (all : List Constraint) (h i : ℕ) (c : Constraint) → h ≡ suc i → cited all h ≡ Some c → slice_get all i ≡ Some c
place_of all h i c n e = ap (cited all) (sym n) ∙ e

pub looks_at : (all : List Constraint) (i : ℕ) (c : Constraint) (P : Constraint → Type 0) → slice_get all i ≡ Some c → P c → (d : Constraint) → slice_get all i ≡ Some d → P d
looks_at all i c P e h d f = subst P (same_Some c d (sym e ∙ f)) h

pub lemma_place : (cs : List Constraint) (ms : List Lemma) (i n : ℕ) (x : Lemma) (ys : List Lit) → n ≡ length cs → n ≤ i → i < length cs + length ms → ys ≡ (get_or ms (i - n) x).lits → slice_get (citable cs ms) i ≡ Some (Clause ys)
lemma_place cs ms i n x ys e h low f =
    place_of (citable cs ms) (n + (i - n) + 1) i (Clause ys) (omega (arith, h)) (cited_zs cs ms (i - n) n x ys e (omega (arith, e, low, h)) f)

pub group_looks : (c : Constraint) (xs : List ℕ) (l : Lit) (k : Known) (p : Option Pair) (r : Result Visit Memory) → c ≡ AtMostOne xs → StaysOrClashes k c r → Looks c l k p p r
group_looks c xs l k p (Ok Stays) e h = subst (λ d. Visited d l k p p Stays) (sym e) (refl, subst (λ d. silent k d ≡ true) e h)
group_looks c xs l k p (Ok (Moves n)) e h = absurd h
group_looks c xs l k p (Ok Clashes) e h = (h, refl)
group_looks c xs l k p (Err m) e h = tt

pub citable_within : (n : ℕ) (cs : List Constraint) (ms : List Lemma) → All (λ c. ConstraintWithin n c) cs → lemmas_within n ms ≡ true → All (λ c. ConstraintWithin n c) (citable cs ms)
citable_within n cs ms a b = All-append (λ c. ConstraintWithin n c) cs (map lemma_clause ms) a (lemmas ms b)
  where
    lemmas : (ms : List Lemma) → lemmas_within n ms ≡ true → All (λ c. ConstraintWithin n c) (map lemma_clause ms)
    lemmas [] h = All-nil (λ c. ConstraintWithin n c)
    lemmas (m ∷ ms) h =
        let p = and_parts (lits_within n m.lits) (lemmas_within n ms) h in
        All-cons (λ c. ConstraintWithin n c) (Clause m.lits) (map lemma_clause ms) (lits_ok n m.lits p.0) (lemmas ms p.1)

pub fits_high : (n : ℕ) (all : List Constraint) (l : Lit) (w : Watcher) → All (λ c. ConstraintWithin n c) all → l.variable ≤ n → Fits all (row_of l) w → w.block.variable ≤ n
fits_high n all l w a h (c, e, b) =
    go c (within_at n all w.place c a e) b
  where
    go : (c : Constraint) → ConstraintWithin n c → Blocks c (row_of l) w.block → w.block.variable ≤ n
    go (Clause ls) i b = (lit_within n ls w.block i b).1
    go (AtMostOne xs) i b = subst (λ x. x.variable ≤ n) (sym (row_same w.block l b)) h
