-- What a group makes known, once and again.
use Rattle.std.proofs.Common.{◌≡◌, ℕ, ◌+◌, ◌<◌, ◌≤◌, Bool, true, false, eqb, cond, List, [], ◌∷◌, ◌++◌, length, refl, sym, ap, ◌∙◌, subst, arith, Option, Some, None, ◌⊎◌, inl, inr, get_or, drop, take}
use Rattle.std.proofs.lemmas.Bool.{false≢true}
use Rattle.std.proofs.lemmas.Bool.Decides.{nat_tests}
use Rattle.std.proofs.lemmas.List.{at_drop_more, take-append-le}
use Rattle.std.proofs.Common.{length-append}
use Rattle.std.proofs.Common.{append_assoc}
use Rattle.zi_formula.specs.declared.formula.Lit.{Lit}
use Rattle.zi_proof.specs.Known.{Known, put, says, is_open, Goes, deny, deny_all, true_ones, by_true_ones, group_step}
use Rattle.zi_proof.specs.Taken.{many_of}
use Rattle.zi_proof.specs.declared.steps.Many.{Many}
use Rattle.zi_proof.specs.declared.steps.Many.TheVariants as many
use Rattle.zi_sat.specs.declared.entry.Entry.{Entry}
use Rattle.zi_sat.specs.declared.entry.Why.TheVariants.{Hint}
use Rattle.zi_sat.specs.Trail.{lits_of, learn, known_from, opened, all_decided, silent_by}
use Rattle.zi_sat.specs.Moves.{hinted, Again}
use Rattle.zi_sat.proofs.TrailLaws.{known-append}
use Rattle.zi_proof.proofs.CutLaws.{test_same}

abbrev pub not_x : ℕ → Lit
not_x x = record { variable = x; positive = false }

learn_opened_case : (k : Known) (x : ℕ) (xs : List ℕ) (b : Bool) → ((g : Known) → learn g (opened g xs) ≡ deny_all g xs) → learn k (cond b (not_x x ∷ opened (put k (not_x x)) xs) (opened k xs)) ≡ deny_all (cond b (put k (not_x x)) k) xs
learn_opened_case k x xs true r = r (put k (not_x x))
learn_opened_case k x xs false r = r k

pub learn_opened : (k : Known) (xs : List ℕ) → learn k (opened k xs) ≡ deny_all k xs
learn_opened k [] = refl
learn_opened k (x ∷ xs) = learn_opened_case k x xs (is_open (k x)) (λ g. learn_opened g xs)

-- denying keeps which variables are true
says_open : (o : Option Bool) → is_open o ≡ true → says o true ≡ false
says_open None h = refl
says_open (Some b) h = absurd (false≢true h)

pub says_put_case : (k : Known) (x y : ℕ) (t : Bool) → eqb y x ≡ t → is_open (k x) ≡ true → says (cond t (Some false) (k y)) true ≡ says (k y) true
says_put_case k x y true e o =
    let same : y ≡ x = grind (arith, nat_tests) in
    sym (says_open (k y) (ap (λ z. is_open (k z)) same ∙ o))
says_put_case k x y false e o = refl

pub true_cond : (a b : Bool) (x : ℕ) (xs ys : List ℕ) → a ≡ b → xs ≡ ys → cond a (x ∷ xs) xs ≡ cond b (x ∷ ys) ys
true_cond a b x xs ys e f = ap (λ c. cond c (x ∷ xs) xs) e ∙ ap (λ zs. cond b (x ∷ zs) zs) f

pub true_ones_same : (k g : Known) (xs : List ℕ) → ((y : ℕ) → says (k y) true ≡ says (g y) true) → true_ones k xs ≡ true_ones g xs
true_ones_same k g [] h = refl
true_ones_same k g (x ∷ xs) h =
    true_cond (says (k x) true) (says (g x) true) x (true_ones k xs) (true_ones g xs) (h x) (true_ones_same k g xs h)

-- after denying, each variable of the group is decided
abbrev pub In : ℕ → List ℕ → Type 0
In x [] = ⊥
In x (y ∷ ys) = (x ≡ y) ⊎ In x ys

put_decided_case : (k : Known) (l : Lit) (y : ℕ) (t : Bool) → is_open (k y) ≡ false → is_open (cond t (Some l.positive) (k y)) ≡ false
put_decided_case k l y true h = refl
put_decided_case k l y false h = h

deny_decided_case : (k : Known) (x y : ℕ) (b : Bool) → is_open (k y) ≡ false → is_open ((cond b (put k (not_x x)) k) y) ≡ false
deny_decided_case k x y true h = put_decided_case k (not_x x) y (eqb y x) h
deny_decided_case k x y false h = h

keeps_decided : (k : Known) (xs : List ℕ) (y : ℕ) → is_open (k y) ≡ false → is_open (deny_all k xs y) ≡ false
keeps_decided k [] y h = h
keeps_decided k (x ∷ xs) y h = keeps_decided (deny k x) xs y (deny_decided_case k x y (is_open (k x)) h)

put_self_case : (k : Known) (l : Lit) (y : ℕ) (t : Bool) → t ≡ true → is_open (cond t (Some l.positive) (k y)) ≡ false
put_self_case k l y true h = refl
put_self_case k l y false h = absurd (false≢true h)

deny_self_case : (k : Known) (x : ℕ) (b : Bool) → is_open (k x) ≡ b → is_open ((cond b (put k (not_x x)) k) x) ≡ false
deny_self_case k x true h = put_self_case k (not_x x) x (eqb x x) (test_same x)
deny_self_case k x false h = h

pub denied_decided : (k : Known) (xs : List ℕ) (y : ℕ) → In y xs → is_open (deny_all k xs y) ≡ false
denied_decided k [] y h = absurd h
denied_decided k (x ∷ xs) y (inl e) =
    keeps_decided (deny k x) xs y (subst (λ z. is_open (deny k x z) ≡ false) (sym e) (deny_self_case k x (is_open (k x)) refl))
denied_decided k (x ∷ xs) y (inr i) = denied_decided (deny k x) xs y i

deny_none : (k : Known) (x : ℕ) → is_open (k x) ≡ false → deny k x ≡ k
deny_none k x h = ap (λ b. cond b (put k (not_x x)) k) h

pub one_true : (k : Known) (xs ts : List ℕ) → many_of ts ≡ many.One → by_true_ones k xs ts ≡ Goes (deny_all k xs)
one_true k xs [] h = cc
one_true k xs (t ∷ []) h = refl
one_true k xs (t ∷ u ∷ ts) h = cc

pub group_once : (k : Known) (xs : List ℕ) → many_of (true_ones k xs) ≡ many.One → group_step k xs ≡ Goes (learn k (opened k xs))
group_once k xs h = one_true k xs (true_ones k xs) h ∙ ap Goes (sym (learn_opened k xs))

learn_decided : (k : Known) (ls : List Lit) (y : ℕ) → is_open (k y) ≡ false → is_open (learn k ls y) ≡ false
learn_decided k [] y h = h
learn_decided k (l ∷ ls) y h = learn_decided (put k l) ls y (put_decided_case k l y (eqb y l.variable) h)

front_nil : (a b : List Lit) → [] ≡ a ++ b → a ≡ []
front_nil [] b e = refl
front_nil (l ∷ a) b e = absurd (omega (arith, ap length e))

-- a front of what a group opens leaves the rest to be denied
abbrev Left : Known → List ℕ → List Lit → Type 0
Left k xs a = (deny_all (learn k a) xs ≡ deny_all k xs) × ((y : ℕ) → says (learn k a y) true ≡ says (k y) true)

left_none : (k : Known) (xs : List ℕ) (a : List Lit) → a ≡ [] → Left k xs a
left_none k xs a e = subst (Left k xs) (sym e) (refl, λ y. refl)

left_decided : (k : Known) (x : ℕ) (xs : List ℕ) (a : List Lit) → is_open (k x) ≡ false → Left k xs a → Left k (x ∷ xs) a
left_decided k x xs a d l =
    (ap (λ g. deny_all g xs) (deny_none (learn k a) x (learn_decided k a x d)) ∙ l.0 ∙ ap (λ g. deny_all g xs) (sym (deny_none k x d)), l.1)

left_open : (k : Known) (x : ℕ) (xs : List ℕ) (l : Lit) (a : List Lit) → l ≡ not_x x → is_open (k x) ≡ true → Left (put k (not_x x)) xs a → Left k (x ∷ xs) (l ∷ a)
left_open k x xs l a e o h =
    let g : Known = put k (not_x x) in
    let d : is_open (g x) ≡ false = put_self_case k (not_x x) x (eqb x x) (test_same x) in
    let opens : deny k x ≡ g = ap (λ b. cond b (put k (not_x x)) k) o in
    subst (λ m. Left k (x ∷ xs) (m ∷ a)) (sym e)
    (ap (λ f. deny_all f xs) (deny_none (learn g a) x (learn_decided g a x d)) ∙ h.0 ∙ ap (λ f. deny_all f xs) (sym opens), λ y. h.1 y ∙ says_put_case k x y (eqb y x) refl o)

pub head_lit : (l m : Lit) (ls ms : List Lit) → l ∷ ls ≡ m ∷ ms → l ≡ m
head_lit l m ls ms e = cc

pub tail_lits : (l m : Lit) (ls ms : List Lit) → l ∷ ls ≡ m ∷ ms → ls ≡ ms
tail_lits l m ls ms e = cc

left_first : (k : Known) (x : ℕ) (xs : List ℕ) (a b : List Lit) → is_open (k x) ≡ true → ((c : List Lit) → opened (put k (not_x x)) xs ≡ c ++ b → Left (put k (not_x x)) xs c) → not_x x ∷ opened (put k (not_x x)) xs ≡ a ++ b → Left k (x ∷ xs) a
left_first k x xs [] b o r e = (refl, λ y. refl)
left_first k x xs (l ∷ a) b o r e =
    left_open k x xs l a (sym (head_lit (not_x x) l (opened (put k (not_x x)) xs) (a ++ b) e)) o (r a (tail_lits (not_x x) l (opened (put k (not_x x)) xs) (a ++ b) e))

left_case : (k : Known) (x : ℕ) (xs : List ℕ) (a b : List Lit) (t : Bool) → is_open (k x) ≡ t → ((g : Known) (c : List Lit) → opened g xs ≡ c ++ b → Left g xs c) → cond t (not_x x ∷ opened (put k (not_x x)) xs) (opened k xs) ≡ a ++ b → Left k (x ∷ xs) a
left_case k x xs a b true o r e = left_first k x xs a b o (r (put k (not_x x))) e
left_case k x xs a b false o r e = left_decided k x xs a o (r k a e)

left_front : (k : Known) (xs : List ℕ) (a b : List Lit) → opened k xs ≡ a ++ b → Left k xs a
left_front k [] a b e = left_none k [] a (front_nil a b e)
left_front k (x ∷ xs) a b e = left_case k x xs a b (is_open (k x)) refl (λ g c. left_front g xs c b) e

pub group_again : (k : Known) (xs : List ℕ) → many_of (true_ones k xs) ≡ many.One → Again (λ g. group_step g xs) k (opened k xs)
group_again k xs h = λ front rest e.
    let left = left_front k xs front rest e in
    let g : Known = learn k front in
    let ones : true_ones g xs ≡ true_ones k xs = true_ones_same g k xs left.1 in
    one_true g xs (true_ones g xs) (ap many_of ones ∙ h) ∙ ap Goes (left.0 ∙ sym (learn_opened k xs))

-- one variable more

opened_one_case : (k : Known) (x : ℕ) (xs : List ℕ) (b : Bool) → cond b (not_x x ∷ opened (put k (not_x x)) xs) (opened k xs) ≡ cond b (not_x x ∷ []) [] ++ opened (learn k (cond b (not_x x ∷ []) [])) xs
opened_one_case k x xs true = refl
opened_one_case k x xs false = refl

pub opened_one : (k : Known) (x : ℕ) (xs : List ℕ) → opened k (x ∷ xs) ≡ opened k (x ∷ []) ++ opened (learn k (opened k (x ∷ []))) xs
opened_one k x xs = opened_one_case k x xs (is_open (k x))

hinted-append : (h : ℕ) (ls ms : List Lit) → hinted h (ls ++ ms) ≡ hinted h ls ++ hinted h ms
hinted-append h [] ms = refl
hinted-append h (l ∷ ls) ms = ap (λ es. record { lit = l; why = Hint h } ∷ es) (hinted-append h ls ms)

pub lits-hinted : (h : ℕ) (ls : List Lit) → lits_of (hinted h ls) ≡ ls
lits-hinted h [] = refl
lits-hinted h (l ∷ ls) = ap (λ ms. l ∷ ms) (lits-hinted h ls)

pub known-hinted : (es fs : List Entry) (h : ℕ) (ls : List Lit) → fs ≡ es ++ hinted h ls → known_from fs ≡ learn (known_from es) ls
known-hinted es fs h ls e = ap known_from e ∙ (known-append es (hinted h ls) ∙ ap (learn (known_from es)) (lits-hinted h ls))

pub opened_more : (es fs : List Entry) (h : ℕ) (xs : List ℕ) (i x : ℕ) → i < length xs → x ≡ get_or xs i 0 → fs ≡ es ++ hinted h (opened (known_from es) (x ∷ [])) → fs ++ hinted h (opened (known_from fs) (drop (i + 1) xs)) ≡ es ++ hinted h (opened (known_from es) (drop i xs))
opened_more es fs h xs i x lt e f =
    let k : Known = known_from es in
    let new : List Lit = opened k (x ∷ []) in
    let rest : List ℕ = drop (i + 1) xs in
    let known : known_from fs ≡ learn k new = known-hinted es fs h new f in
    let whole : opened k (drop i xs) ≡ opened k (x ∷ rest) = at_drop_more (opened k) xs i 0 lt ∙ ap (λ y. opened k (y ∷ rest)) (sym e) in
    let left : fs ++ hinted h (opened (known_from fs) rest) ≡ (es ++ hinted h new) ++ hinted h (opened (learn k new) rest) = ap (λ gs. gs ++ hinted h (opened (known_from fs) rest)) f ∙ ap (λ g. (es ++ hinted h new) ++ hinted h (opened g rest)) known in
    let right : es ++ hinted h (opened k (drop i xs)) ≡ es ++ (hinted h new ++ hinted h (opened (learn k new) rest)) = ap (λ ls. es ++ hinted h ls) (whole ∙ opened_one k x rest) ∙ ap (λ gs. es ++ gs) (hinted-append h new (opened (learn k new) rest)) in
    left ∙ (append_assoc es (hinted h new) (hinted h (opened (learn k new) rest)) ∙ sym right)

pub front_kept : (n : ℕ) (es fs gs hs : List Entry) → fs ≡ es ++ gs → n ≤ length es → take n es ≡ hs → (take n fs ≡ hs) × (n ≤ length fs)
front_kept n es fs gs hs f le e =
    let len : length fs ≡ length es + length gs = ap length f ∙ length-append es gs in
    (ap (take n) f ∙ (take-append-le n es gs le ∙ e), omega arith)

-- a group that isn't silent and has one true variable opens some

opened_some_case : (k : Known) (x : ℕ) (xs : List ℕ) (b : Bool) → (all_decided k xs ≡ false → 0 < length (opened k xs)) → cond b false (all_decided k xs) ≡ false → 0 < length (cond b (not_x x ∷ opened (put k (not_x x)) xs) (opened k xs))
opened_some_case k x xs true r h = omega arith
opened_some_case k x xs false r h = r h

opened_some : (k : Known) (xs : List ℕ) → all_decided k xs ≡ false → 0 < length (opened k xs)
opened_some k [] h = absurd (false≢true (sym h))
opened_some k (x ∷ xs) h = opened_some_case k x xs (is_open (k x)) (opened_some k xs) h

opened_one_true : (k : Known) (xs ts : List ℕ) → many_of ts ≡ many.One → silent_by k xs ts ≡ false → 0 < length (opened k xs)
opened_one_true k xs [] m h = let x : ◌≡◌ {A = Many} many.None many.One = m in cc
opened_one_true k xs (t ∷ []) m h = opened_some k xs h
opened_one_true k xs (t ∷ u ∷ ts) m h = let x : ◌≡◌ {A = Many} many.More many.One = m in cc

pub group_opens : (k : Known) (xs : List ℕ) → many_of (true_ones k xs) ≡ many.One → silent_by k xs (true_ones k xs) ≡ false → 0 < length (opened k xs)
group_opens k xs m h = opened_one_true k xs (true_ones k xs) m h
