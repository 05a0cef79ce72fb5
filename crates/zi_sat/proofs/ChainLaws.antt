-- The steps of the backward pass, entry by entry.
use Rattle.std.proofs.Common.{◌≡◌, ℕ, Bool, true, false, not, eqb, cond, List, [], ◌∷◌, ◌++◌, length, refl, sym, ap, ◌∙◌, subst, arith, Option, Some, None, ◌⊎◌, inl, inr, append_assoc}
use Rattle.std.proofs.lemmas.Bool.{false≢true, and_parts, eqb-true}
use Rattle.std.proofs.lemmas.List.{append-nil}
use Rattle.std.proofs.lemmas.Option.{same_Some}
use Rattle.zi_formula.specs.declared.formula.Lit.{Lit}
use Rattle.zi_formula.specs.declared.formula.Constraint.{Constraint}
use Rattle.zi_formula.specs.declared.formula.Constraint.TheVariants.{Clause, AtMostOne}
use Rattle.zi_formula.specs.Truth.{opposite}
use Rattle.zi_formula.specs.Form.{same_lit, has_lit, has_variable}
use Rattle.zi_proof.specs.Known.{Known, nothing, put, without, says, is_open, is_true, is_false, Outcome, Fails, Goes, standing, clause_step, deny_all, true_ones, group_step}
use Rattle.zi_proof.specs.Taken.{known_after}
use Rattle.zi_proof.specs.Accepted.{cited, step_cited}
use Rattle.zi_sat.specs.declared.entry.Entry.{Entry}
use Rattle.zi_sat.specs.declared.entry.Why.{Why}
use Rattle.zi_sat.specs.declared.entry.Why.TheVariants.{Decision, Hint}
use Rattle.zi_sat.specs.Trail.{lits_of, learn, OpenAll}
use Rattle.zi_sat.specs.Moves.{Move, Decide, Apply, hinted, entries_of, Again, Right, Lawful}
use Rattle.zi_sat.specs.Marking.{Inside, mark_used, mark_cited, Explains}
use Rattle.zi_sat.specs.Chain.{Linked, LinkBy, Chained, range_by, range, newest, Explained, kept_hints}
use Rattle.zi_sat.proofs.TrailLaws.{learn-append}
use Rattle.zi_sat.proofs.MoveLaws.{open_rest}
use Rattle.zi_sat.proofs.GroupLaws.{In, denied_decided, head_lit, tail_lits}
use Rattle.zi_sat.proofs.FreshStep.{lits_same}
use Rattle.zi_sat.proofs.FreshLaws.{put_extends, learn_extends, put_self, open_front}
use Rattle.zi_sat.proofs.EntryLaws.{true_in, lits-hinted, makes_by}
use Rattle.zi_sat.proofs.LessLaws.{FalseBut, made}
use Rattle.zi_sat.proofs.MarkLaws.{MarkedBy, marked_by}
use Rattle.zi_sat.proofs.ExplainLaws.{skip, unfold_clause, unfold_group, unfold_again, ones_one, made_false, made_alone, without_inside, open_some}
use Rattle.zi_sat.proofs.WatchLaws.{not_twice}
use Rattle.zi_proof.proofs.Sound.{says_some}
use Rattle.zi_proof.proofs.CutLaws.{test_same}

-- a lawful trail is chained

hinted_chain : (all : List Constraint) (k : Known) (h : ℕ) (ls a b : List Lit) (es : List Entry) → Again (λ g. step_cited g (cited all h)) k ls → ls ≡ a ++ b → OpenAll k ls → Chained all (learn k ls) es → Chained all (learn k a) (hinted h b ++ es)
hinted_chain all k h ls a [] es again e o c =
    subst (λ g. Chained all g es) (ap (learn k) (e ∙ append-nil a)) c
hinted_chain all k h ls a (l ∷ []) es again e o c =
    let whole : put (learn k a) l ≡ learn k ls = sym (ap (learn k) e ∙ learn-append k a (l ∷ [])) in
    let here : is_true (learn k ls) l ≡ true = subst (λ xs. is_true (learn k xs) l ≡ true) (sym e) (true_in k a l [] (subst (OpenAll k) e o)) in
    (record { made = learn k ls; goes = again a (l ∷ []) e; holds = here; ends = inl whole }, subst (λ g. Chained all g es) (sym whole) c)
hinted_chain all k h ls a (l ∷ n ∷ b) es again e o c =
    let here : is_true (learn k ls) l ≡ true = subst (λ xs. is_true (learn k xs) l ≡ true) (sym e) (true_in k a l (n ∷ b) (subst (OpenAll k) e o)) in
    let next : ls ≡ (a ++ l ∷ []) ++ n ∷ b = e ∙ sym (append_assoc a (l ∷ []) (n ∷ b)) in
    let known : learn k (a ++ l ∷ []) ≡ put (learn k a) l = learn-append k a (l ∷ []) in
    (record { made = learn k ls; goes = again a (l ∷ n ∷ b) e; holds = here; ends = inr (refl, ap (λ g. step_cited g (cited all h)) (sym known) ∙ again (a ++ l ∷ []) (n ∷ b) next) }, subst (λ g. Chained all g (hinted h (n ∷ b) ++ es)) known (hinted_chain all k h ls (a ++ l ∷ []) (n ∷ b) es again next o c))

once_chain : (all : List Constraint) (k : Known) (h : ℕ) (ls : List Lit) (es : List Entry) → step_cited k (cited all h) ≡ Goes (learn k ls) → length ls ≡ 1 → OpenAll k ls → Chained all (learn k ls) es → Chained all k (hinted h ls ++ es)
once_chain all k h [] es g n o c = absurd (omega (arith, n))
once_chain all k h (l ∷ []) es g n o c =
    (record { made = put k l; goes = g; holds = true_in k [] l [] o; ends = inl refl }, c)
once_chain all k h (l ∷ m ∷ ls) es g n o c = absurd (omega (arith, n))

chain_moves : (all cs : List Constraint) (chooses : Known → Option Lit) (k : Known) (ms : List Move) → Right all cs chooses k ms → OpenAll k (lits_of (entries_of ms)) → Chained all k (entries_of ms)
chain_moves all cs chooses k [] r o = tt
chain_moves all cs chooses k (Decide l ∷ ms) r o = (tt, chain_moves all cs chooses (put k l) ms r.2 o.1)
chain_moves all cs chooses k (Apply h ls ∷ ms) r o =
    let rest : Chained all (learn k ls) (entries_of ms) = chain_moves all cs chooses (learn k ls) ms r.1 (open_rest k h ls (entries_of ms) o) in
    let front : OpenAll k ls = open_front k ls (lits_of (entries_of ms)) (subst (OpenAll k) (lits-hinted h ls (entries_of ms)) o) in
    elim r.0.1 [
      | inl n ↦ once_chain all k h ls (entries_of ms) r.0.0 n front rest
      | inr again ↦ hinted_chain all k h ls [] ls (entries_of ms) again refl front rest
    ]

pub chained : (all cs : List Constraint) (chooses : Known → Option Lit) (es : List Entry) → Lawful all cs chooses es → OpenAll nothing (lits_of es) → Chained all nothing es
chained all cs chooses es (ms, e, r) o =
    subst (Chained all nothing) (sym e) (chain_moves all cs chooses nothing ms r (subst (λ xs. OpenAll nothing (lits_of xs)) e o))

-- what a hint makes known is known on the trail

goes_same : (o : Outcome) (a b : Known) → o ≡ Goes a → o ≡ Goes b → a ≡ b
goes_same o a b p q =
    let z : ◌≡◌ {A = Outcome} (Goes a) (Goes b) = sym p ∙ q in cc

pub link_as : (all : List Constraint) (k : Known) (l : Lit) (w : Why) (h : ℕ) (es : List Entry) → w ≡ Hint h → LinkBy all k l w es → Linked all k l h es
link_as all k l w h es e b = subst (λ v. LinkBy all k l v es) e b

abbrev Between : Known → Known → Known → Type 0
Between k g r = Inside k g × Inside g r

between_next : (all : List Constraint) (k : Known) (l : Lit) (h : ℕ) (e : Entry) (es : List Entry) (g : Known) → is_open (k l.variable) ≡ true → step_cited (put k l) (cited all h) ≡ Goes g → (n : Linked all (put k l) e.lit h es) → Between (put k l) n.made (learn (put (put k l) e.lit) (lits_of es)) → Between k g (learn (put k l) (lits_of (e ∷ es)))
between_next all k l h e es g o s n b =
    let same : n.made ≡ g = goes_same (step_cited (put k l) (cited all h)) n.made g n.goes s in
    (λ x c p. subst (λ f. f x ≡ Some c) same (b.0 x c (put_extends k l o x c p)), subst (λ f. Inside f (learn (put k l) (lits_of (e ∷ es)))) same b.1)

pub linked_inside : (all : List Constraint) (k : Known) (l : Lit) (h : ℕ) (es : List Entry) (n : Linked all k l h es) → Chained all (put k l) es → is_open (k l.variable) ≡ true → OpenAll (put k l) (lits_of es) → Between k n.made (learn (put k l) (lits_of es))
linked_inside all k l h [] n c o p = elim n.ends [
  | inl e ↦ (subst (Inside k) e (put_extends k l o), subst (λ f. Inside f (put k l)) e (λ x b q. q))
  | inr z ↦ absurd z
]
linked_inside all k l h (e ∷ es) n c o p = elim n.ends [
  | inl q ↦ (subst (Inside k) q (put_extends k l o), subst (λ f. Inside f (learn (put k l) (lits_of (e ∷ es)))) q (learn_extends (put k l) (lits_of (e ∷ es)) p))
  | inr z ↦
      let f : Linked all (put k l) e.lit h es = link_as all (put k l) e.lit e.why h es z.0 c.0 in
      between_next all k l h e es n.made o z.1 f (linked_inside all (put k l) e.lit h es f c.1 p.0 p.1)
]

-- what the next hint makes known is more

range_why : (all : List Constraint) (k : Known) (l : Lit) (w : Why) (es : List Entry) → LinkBy all k l w es → Chained all (put k l) es → is_open (k l.variable) ≡ true → OpenAll (put k l) (lits_of es) → Inside k (range_by all k w)
range_why all k l Decision es b c o p = λ x d q. q
range_why all k l (Hint h) es b c o p =
    subst (λ u. Inside k (known_after k u)) (sym b.goes) (linked_inside all k l h es b c o p).0

pub range_more : (all : List Constraint) (k : Known) (es : List Entry) → Chained all k es → OpenAll k (lits_of es) → Inside k (range all k es)
range_more all k [] c o = λ x d q. q
range_more all k (e ∷ es) c o = range_why all k e.lit e.why es c.0 c.1 o.0 o.1

pub explained_now : (all : List Constraint) (k : Known) (es : List Entry) (m : Known) (hs : List ℕ) → Chained all k es → OpenAll k (lits_of es) → Explained all k es m hs → Explains all k m hs
explained_now all k es m hs c o (inl e) = skip all (range all k es) k m hs (range_more all k es c o) e
explained_now all k es m hs c o (inr e) = e.0

-- an entry that isn't marked

hint_same : (h i : ℕ) → ◌≡◌ {A = Why} (Hint h) (Hint i) → h ≡ i
hint_same h i e = cc

range_is : (all : List Constraint) (k : Known) (w : Why) (h : ℕ) (g : Known) → w ≡ Hint h → step_cited k (cited all h) ≡ Goes g → range_by all k w ≡ g
range_is all k w h g e s = ap (range_by all k) e ∙ ap (known_after k) s

-- either the hints explain the conflict from all that the hint makes known, or they begin with that hint
made_or_front : (all : List Constraint) (k : Known) (l : Lit) (h : ℕ) (es : List Entry) (m : Known) (hs : List ℕ) (n : Linked all k l h es) → Chained all (put k l) es → OpenAll (put k l) (lits_of es) → Explained all (put k l) es m hs → Explains all n.made m hs ⊎ (Explains all (put k l) m hs × (newest hs ≡ h))
made_or_front all k l h [] m hs n c o x = elim n.ends [
  | inl e ↦ inl (subst (λ g. Explains all g m hs) e (explained_now all (put k l) [] m hs c o x))
  | inr z ↦ absurd z
]
made_or_front all k l h (e ∷ es) m hs n c o x = elim n.ends [
  | inl q ↦ inl (subst (λ g. Explains all g m hs) q (explained_now all (put k l) (e ∷ es) m hs c o x))
  | inr z ↦ elim x [
    | inl f ↦ inl (subst (λ g. Explains all g m hs) (range_is all (put k l) e.why h n.made z.0 z.1) f)
    | inr f ↦ inr (f.0, hint_same (newest hs) h (sym f.1 ∙ z.0))
  ]
]

skip_why : (all : List Constraint) (k : Known) (e : Entry) (w : Why) (es : List Entry) (m : Known) (hs : List ℕ) → e.why ≡ w → LinkBy all k e.lit w es → Chained all (put k e.lit) es → is_open (k e.lit.variable) ≡ true → OpenAll (put k e.lit) (lits_of es) → Explained all (put k e.lit) es m hs → Explained all k (e ∷ es) m hs
skip_why all k e Decision es m hs q b c o p x =
    inl (subst (λ g. Explains all g m hs) (sym (ap (range_by all k) q)) (skip all (put k e.lit) k m hs (put_extends k e.lit o) (explained_now all (put k e.lit) es m hs c p x)))
skip_why all k e (Hint h) es m hs q b c o p x = elim (made_or_front all k e.lit h es m hs b c p x) [
  | inl f ↦ inl (subst (λ g. Explains all g m hs) (sym (range_is all k e.why h b.made q b.goes)) f)
  | inr f ↦ inr (skip all (put k e.lit) k m hs (put_extends k e.lit o) f.0, q ∙ ap Hint (sym f.1))
]

pub skip_entry : (all : List Constraint) (k : Known) (e : Entry) (es : List Entry) (m : Known) (hs : List ℕ) → Chained all k (e ∷ es) → OpenAll k (lits_of (e ∷ es)) → Explained all (put k e.lit) es m hs → Explained all k (e ∷ es) m hs
skip_entry all k e es m hs c o x = skip_why all k e e.why es m hs refl c.0 c.1 o.0 o.1 x

-- a marked entry

group_front : (all : List Constraint) (k r m : Known) (h : ℕ) (l : Lit) (xs hs : List ℕ) → cited all h ≡ Some (AtMostOne xs) → is_open (k l.variable) ≡ true → In l.variable xs → l.positive ≡ false → Inside m r → m l.variable ≡ Some l.positive → newest hs ≡ h → Explains all (put k l) m hs → Explains all k (mark_used r (without m l.variable) (AtMostOne xs)) hs
group_front all k r m h l xs [] c o i p j q n x =
    let z : cited all 0 ≡ Some (AtMostOne xs) = ap (cited all) n ∙ c in
    let y : ◌≡◌ {A = Option Constraint} None (Some (AtMostOne xs)) = z in cc
group_front all k r m h l xs (i2 ∷ hs) c o i p j q n x =
    subst (λ y. Explains all k (mark_used r (without m l.variable) (AtMostOne xs)) (y ∷ hs)) (sym n) (unfold_again all k (put k l) r m h l xs hs c o i p (λ y b e. e) j q (subst (λ y. Explains all (put k l) m (y ∷ hs)) n x))

newest_case : (h : ℕ) (hs : List ℕ) (t : Bool) → eqb (newest hs) h ≡ t → newest (cond t hs (h ∷ hs)) ≡ h
newest_case h hs true e = eqb-true (newest hs) h e
newest_case h hs false e = refl

newest_kept : (c : Option Constraint) (h : ℕ) (hs : List ℕ) → newest (kept_hints c h hs) ≡ h
newest_kept None h hs = refl
newest_kept (Some (Clause ls)) h hs = refl
newest_kept (Some (AtMostOne xs)) h hs = newest_case h hs (eqb (newest hs) h) refl

group_case : (all : List Constraint) (k r m : Known) (h : ℕ) (l : Lit) (xs hs : List ℕ) (es : List Entry) (n : Linked all k l h es) (t : Bool) → eqb (newest hs) h ≡ t → cited all h ≡ Some (AtMostOne xs) → Chained all (put k l) es → is_open (k l.variable) ≡ true → OpenAll (put k l) (lits_of es) → Inside k r → Inside m r → m l.variable ≡ Some l.positive → group_step k xs ≡ Goes n.made → Explained all (put k l) es m hs → Explains all k (mark_used r (without m l.variable) (AtMostOne xs)) (cond t hs (h ∷ hs))
group_case all k r m h l xs hs es n true e c d o p i j q s x =
    let one : (t : ℕ) × (true_ones k xs ≡ t ∷ []) × (deny_all k xs ≡ n.made) = ones_one k xs (true_ones k xs) n.made s in
    let neg : In l.variable xs × (l.positive ≡ false) = made_false k xs l o (ap (λ v. is_true v l) one.2 ∙ n.holds) in
    group_front all k r m h l xs hs c o neg.0 neg.1 j q (eqb-true (newest hs) h e) (explained_now all (put k l) es m hs d p x)
group_case all k r m h l xs hs es n false e c d o p i j q s x = elim (made_or_front all k l h es m hs n d p x) [
  | inl f ↦ unfold_group all k n.made r m h l xs hs c o s n.holds i j q f
  | inr f ↦ absurd (false≢true (sym e ∙ (ap (λ y. eqb y h) f.1 ∙ test_same h)))
]

unfold_case : (all : List Constraint) (k r m : Known) (h : ℕ) (l : Lit) (hs : List ℕ) (es : List Entry) (n : Linked all k l h es) (c : Option Constraint) → cited all h ≡ c → step_cited k c ≡ Goes n.made → Chained all (put k l) es → is_open (k l.variable) ≡ true → OpenAll (put k l) (lits_of es) → Inside k r → Inside m r → m l.variable ≡ Some l.positive → Explained all (put k l) es m hs → Explains all k (mark_cited r (without m l.variable) c) (kept_hints c h hs)
unfold_case all k r m h l hs es n None e s d o p i j q x = let z : ◌≡◌ {A = Outcome} Fails (Goes n.made) = s in cc
unfold_case all k r m h l hs es n (Some (Clause ls)) e s d o p i j q x =
    unfold_clause all k r m h l ls hs e o (makes_by (clause_step k ls) n.made l s n.holds) i j q (explained_now all (put k l) es m hs d p x)
unfold_case all k r m h l hs es n (Some (AtMostOne xs)) e s d o p i j q x =
    group_case all k r m h l xs hs es n (eqb (newest hs) h) refl e d o p i j q s x

-- A marked entry is unfolded: its hint is kept, and what that uses is marked.
pub unfold_entry : (all : List Constraint) (k r m : Known) (e : Entry) (h : ℕ) (es : List Entry) (hs : List ℕ) → e.why ≡ Hint h → Chained all k (e ∷ es) → OpenAll k (lits_of (e ∷ es)) → Inside k r → Inside m r → m e.lit.variable ≡ Some e.lit.positive → Explained all (put k e.lit) es m hs → Explained all k (e ∷ es) (mark_cited r (without m e.lit.variable) (cited all h)) (kept_hints (cited all h) h hs)
unfold_entry all k r m e h es hs w c o i j q x =
    let n : Linked all k e.lit h es = link_as all k e.lit e.why h es w c.0 in
    inr (unfold_case all k r m h e.lit hs es n (cited all h) refl n.goes c.1 o.0 o.1 i j q x, w ∙ ap Hint (sym (newest_kept (cited all h) h hs)))

-- what is marked then is known before the entry

put_or_case : (k : Known) (l : Lit) (x : ℕ) (b t : Bool) → eqb x l.variable ≡ t → cond t (Some l.positive) (k x) ≡ Some b → (x ≡ l.variable) ⊎ (k x ≡ Some b)
put_or_case k l x b true e p = inl (eqb-true x l.variable e)
put_or_case k l x b false e p = inr p

gone_case : (m : Known) (y x : ℕ) (b t : Bool) → t ≡ true → cond t None (m x) ≡ Some b → ⊥
gone_case m y x b true e p = let z : ◌≡◌ {A = Option Bool} None (Some b) = p in cc
gone_case m y x b false e p = false≢true e

gone : (m : Known) (y x : ℕ) (b : Bool) → x ≡ y → without m y x ≡ Some b → ⊥
gone m y x b e p = gone_case m y x b (eqb x y) (ap (eqb x) (sym e) ∙ test_same x) p

-- what is marked but for the entry's literal was known before it
unmarked_inside : (m k : Known) (l : Lit) → Inside m (put k l) → Inside (without m l.variable) k
unmarked_inside m k l i = λ x b p. elim (put_or_case k l x b (eqb x l.variable) refl (i x b (without_inside m l.variable x b p))) [
  | inl e ↦ absurd (gone m l.variable x b e p)
  | inr q ↦ q
]

pub skipped_inside : (m k : Known) (l : Lit) → is_open (m l.variable) ≡ true → Inside m (put k l) → Inside m k
skipped_inside m k l o i = λ x b p. elim (put_or_case k l x b (eqb x l.variable) refl (i x b p)) [
  | inl e ↦ absurd (open_some (m l.variable) b o (ap m (sym e) ∙ p))
  | inr q ↦ q
]

not_self : (b : Bool) → not b ≡ b → ⊥
not_self true e = false≢true e
not_self false e = false≢true (sym e)

-- the entry's own literal is true, so it isn't used by its hint
clash : (r : Known) (l : Lit) (x : ℕ) (b : Bool) → r l.variable ≡ Some l.positive → r x ≡ Some b → l ≡ opposite (record { variable = x; positive = b }) → ⊥
clash r l x b h q e =
    let v : l.variable ≡ x = ap (λ z. z.variable) e in
    let p : l.positive ≡ not b = ap (λ z. z.positive) e in
    let z : ◌≡◌ {A = Option Bool} (Some l.positive) (Some b) = sym h ∙ (ap r v ∙ q) in
    not_self b (sym p ∙ same_Some l.positive b z)

-- all that doesn't stand is false
stand_case : (k : Known) (l m : Lit) (ls : List Lit) (t : Bool) → is_false k m ≡ t → cond t (standing k ls) (m ∷ standing k ls) ≡ l ∷ [] → (standing k ls ≡ l ∷ [] → FalseBut k l ls) → (standing k ls ≡ [] → FalseBut k l ls) → FalseBut k l (m ∷ ls)
stand_case k l m ls true e s r n = (inl e, r s)
stand_case k l m ls false e s r n =
    (inr (head_lit m l (standing k ls) [] s), n (tail_lits m l (standing k ls) [] s))

none_case : (k : Known) (l m : Lit) (ls : List Lit) (t : Bool) → is_false k m ≡ t → cond t (standing k ls) (m ∷ standing k ls) ≡ [] → (standing k ls ≡ [] → FalseBut k l ls) → FalseBut k l (m ∷ ls)
none_case k l m ls true e s n = (inl e, n s)
none_case k l m ls false e s n = let x : ◌≡◌ {A = List Lit} (m ∷ standing k ls) [] = s in cc

stand_none : (k : Known) (l : Lit) (ls : List Lit) → standing k ls ≡ [] → FalseBut k l ls
stand_none k l [] s = tt
stand_none k l (m ∷ ls) s = none_case k l m ls (is_false k m) refl s (stand_none k l ls)

stand_but : (k : Known) (l : Lit) (ls : List Lit) → standing k ls ≡ l ∷ [] → FalseBut k l ls
stand_but k l [] s = tt
stand_but k l (m ∷ ls) s =
    stand_case k l m ls (is_false k m) refl s (stand_but k l ls) (stand_none k l ls)

false_is : (w : Known) (m : Lit) (x : ℕ) (b : Bool) → m ≡ opposite (record { variable = x; positive = b }) → is_false w m ≡ true → w x ≡ Some b
false_is w m x b e f =
    let g : says (w x) (not (not b)) ≡ true = subst (λ z. is_false w z ≡ true) e f in
    says_some (w x) b (subst (λ c. says (w x) c ≡ true) (not_twice b) g)

has_but_case : (w r : Known) (l m : Lit) (ls : List Lit) (x : ℕ) (b t : Bool) → same_lit m (opposite (record { variable = x; positive = b })) ≡ t → (is_false w m ≡ true) ⊎ (m ≡ l) → r l.variable ≡ Some l.positive → cond t true (has_lit ls (opposite (record { variable = x; positive = b }))) ≡ true → r x ≡ Some b → (has_lit ls (opposite (record { variable = x; positive = b })) ≡ true → w x ≡ Some b) → w x ≡ Some b
has_but_case w r l m ls x b true e (inl f) h u q n = false_is w m x b (lits_same m (opposite (record { variable = x; positive = b })) e) f
has_but_case w r l m ls x b true e (inr f) h u q n =
    absurd (clash r l x b h q (sym f ∙ lits_same m (opposite (record { variable = x; positive = b })) e))
has_but_case w r l m ls x b false e f h u q n = n u

has_but : (w r : Known) (l : Lit) (ls : List Lit) (x : ℕ) (b : Bool) → FalseBut w l ls → r l.variable ≡ Some l.positive → has_lit ls (opposite (record { variable = x; positive = b })) ≡ true → r x ≡ Some b → w x ≡ Some b
has_but w r l [] x b f h u q = absurd (false≢true u)
has_but w r l (m ∷ ls) x b f h u q =
    has_but_case w r l m ls x b (same_lit m (opposite (record { variable = x; positive = b }))) refl f.0 h u q (λ v. has_but w r l ls x b f.1 h v q)

clause_inside : (k r m : Known) (l : Lit) (ls : List Lit) → Inside k r → r l.variable ≡ Some l.positive → standing k ls ≡ l ∷ [] → Inside (without m l.variable) k → Inside m r → Inside (mark_used r (without m l.variable) (Clause ls)) k
clause_inside k r m l ls i h s n j =
    let mb : MarkedBy (Clause ls) r (without m l.variable) (mark_used r (without m l.variable) (Clause ls)) = marked_by (Clause ls) r (without m l.variable) (λ x b p. j x b (without_inside m l.variable x b p)) in
    λ x b p. elim (mb.only x b p) [
      | inl q ↦ n x b q
      | inr u ↦ has_but k r l ls x b (stand_but k l ls s) h u (mb.inside x b p)
    ]

-- a variable of a group that is true on the trail was true before the group's hint
has_in_case : (y x : ℕ) (xs : List ℕ) (t : Bool) → eqb y x ≡ t → cond t true (has_variable xs x) ≡ true → (has_variable xs x ≡ true → In x xs) → (x ≡ y) ⊎ In x xs
has_in_case y x xs true e h r = inl (sym (eqb-true y x e))
has_in_case y x xs false e h r = inr (r h)

has_in : (xs : List ℕ) (x : ℕ) → has_variable xs x ≡ true → In x xs
has_in [] x h = false≢true h
has_in (y ∷ xs) x h = has_in_case y x xs (eqb y x) refl h (has_in xs x)

made_was_case : (k g r : Known) (xs : List ℕ) (x : ℕ) (b : Bool) (o : Option Bool) → g x ≡ o → is_open o ≡ false → Inside g r → deny_all k xs ≡ g → r x ≡ Some b → b ≡ true → k x ≡ Some b
made_was_case k g r xs x b None e d i s q t = absurd (false≢true (sym d))
made_was_case k g r xs x b (Some c) e d i s q t =
    let same : c ≡ b = same_Some c b (sym (i x c e) ∙ q) in
    elim (made k xs x b (ap (λ f. f x) s ∙ (e ∙ ap Some same))) [
      | inl p ↦ p
      | inr p ↦ absurd (false≢true (sym p.2 ∙ t))
    ]

group_inside : (k g r m : Known) (l : Lit) (xs : List ℕ) → deny_all k xs ≡ g → Inside g r → Inside (without m l.variable) k → Inside m r → Inside (mark_used r (without m l.variable) (AtMostOne xs)) k
group_inside k g r m l xs s i n j =
    let mb : MarkedBy (AtMostOne xs) r (without m l.variable) (mark_used r (without m l.variable) (AtMostOne xs)) = marked_by (AtMostOne xs) r (without m l.variable) (λ x b p. j x b (without_inside m l.variable x b p)) in
    λ x b p. elim (mb.only x b p) [
      | inl q ↦ n x b q
      | inr u ↦
          let both : (b ≡ true) × (has_variable xs x ≡ true) = and_parts b (has_variable xs x) u in
          made_was_case k g r xs x b (g x) refl (ap (λ f. is_open (f x)) (sym s) ∙ denied_decided k xs x (has_in xs x both.1)) i s (mb.inside x b p) both.0
    ]

inside_case : (all : List Constraint) (k r m : Known) (h : ℕ) (l : Lit) (es : List Entry) (n : Linked all k l h es) (c : Option Constraint) → step_cited k c ≡ Goes n.made → is_open (k l.variable) ≡ true → Inside k r → r l.variable ≡ Some l.positive → Inside n.made r → Inside m (put k l) → Inside m r → Inside (mark_cited r (without m l.variable) c) k
inside_case all k r m h l es n None s o i q g p j = let z : ◌≡◌ {A = Outcome} Fails (Goes n.made) = s in cc
inside_case all k r m h l es n (Some (Clause ls)) s o i q g p j =
    clause_inside k r m l ls i q (made_alone k l (standing k ls) o (makes_by (clause_step k ls) n.made l s n.holds)) (unmarked_inside m k l p) j
inside_case all k r m h l es n (Some (AtMostOne xs)) s o i q g p j =
    group_inside k n.made r m l xs (ones_one k xs (true_ones k xs) n.made s).2 g (unmarked_inside m k l p) j

-- `k` is known before the entry, and what is known after all entries is the trail
pub unfolded_inside : (all : List Constraint) (k m : Known) (e : Entry) (h : ℕ) (es : List Entry) → e.why ≡ Hint h → Chained all k (e ∷ es) → OpenAll k (lits_of (e ∷ es)) → Inside m (put k e.lit) → Inside (mark_cited (learn k (lits_of (e ∷ es))) (without m e.lit.variable) (cited all h)) k
unfolded_inside all k m e h es w c o p =
    let n : Linked all k e.lit h es = link_as all k e.lit e.why h es w c.0 in
    let r : Known = learn k (lits_of (e ∷ es)) in
    let after : Inside (put k e.lit) r = learn_extends (put k e.lit) (lits_of es) o.1 in
    inside_case all k r m h e.lit es n (cited all h) n.goes o.0 (λ x b q. after x b (put_extends k e.lit o.0 x b q)) (after e.lit.variable e.lit.positive (put_self k e.lit)) (linked_inside all k e.lit h es n c.1 o.0 o.1).1 p (λ x b q. after x b (p x b q))
