-- Numbers, literals and hints, word by word: what is read is what is written.
use Rattle.std.proofs.Common.{◌≡◌, ◌≢◌, ℕ, ◌+◌, ◌-◌, ◌*◌, ◌^◌, ◌<◌, ◌≤◌, Bool, true, false, ◌&&◌, cond, eqb, ltb, List, [], ◌∷◌, ◌++◌, map, length, get_or, refl, sym, ap, ap₂, ◌∙◌, subst, arith, rules, Option, Some, None}
use Rattle.std.specs.List.{All}
use Rattle.std.specs.Char.{is_ascii_digit}
use Rattle.std.specs.Str.{all_ascii_digits}
use Rattle.std.specs.Fmt.{decimal}
use Rattle.std.proofs.lemmas.Fmt.{decimal_nonempty, first_decimal, digits_decimal, digits_value-decimal, decimal-digits_value, decimal_digit}
use Rattle.std.proofs.lemmas.Str.Parse.{IsNumeralModel, numerals_by_fold}
use Rattle.std.proofs.lemmas.List.Elements.{All-nil, All-cons, All-head, All-tail}
use Rattle.std.proofs.lemmas.Bool.Decides.{nat_tests}
use Rattle.std.proofs.lemmas.Bool.{and_parts}
use Rattle.zi_text.specs.Numeral.{number_from}
use Rattle.zi_formula.specs.declared.formula.Lit.{Lit}
use Rattle.zi_proof.specs.declared.proof.Lemma.{Lemma}
use Rattle.zi_proof.specs.declared.proof.Block.{Block}
use Rattle.zi_proof.specs.ProofText.{InRange, LemmaNumbered, BlockNumbered, zero_word, lit_word, hint_words, lemma_words, block_words}
use Rattle.zi_proof.specs.Reading.{digits_on, number_of, signed, lit_of, is_zero, last_hint, more_hints, hints_of, more_lits, lits_of, with_hints, lemma_with, lemma_of, with_rest, first_number, whole_block, block_behind, block_with, block_of}

own : IsNumeralModel (λ ds. all_ascii_digits ds ≡ true) (number_from 0)
own = numerals_by_fold _ (search rules) number_from (search rules)

number_from_le : (n : ℕ) (ds : List ℕ) → n ≤ number_from n ds
number_from_le n [] = omega arith
number_from_le n (d ∷ ds) = omega (arith, number_from_le (10 * n + (d - 48)) ds)

-- digits whose number is small are read
digits_read : (n : ℕ) (ds : List ℕ) → all_ascii_digits ds ≡ true → number_from n ds < 2 ^ 32 → digits_on n ds ≡ Some (number_from n ds)
digits_read n [] p small = refl
digits_read n (d ∷ ds) p small =
    let fits : ltb (10 * n + (d - 48)) (2 ^ 32) ≡ true = grind (arith, nat_tests, number_from_le (10 * n + (d - 48)) ds) in
    let digit = (and_parts (is_ascii_digit d) (all_ascii_digits ds) p).0 in
    ap₂ (λ a b. cond (a && b) (digits_on (10 * n + (d - 48)) ds) None) digit fits
    ∙ digits_read (10 * n + (d - 48)) ds (and_parts (is_ascii_digit d) (all_ascii_digits ds) p).1 small

-- what is read from digits is their number
abbrev pub Digits : ℕ → ℕ → List ℕ → Type 0
Digits n m ds = (all_ascii_digits ds ≡ true) × (number_from n ds ≡ m) × (m < 2 ^ 32)

more_digits : (n m d : ℕ) (ds : List ℕ) (a b : Bool) → is_ascii_digit d ≡ a → ltb (10 * n + (d - 48)) (2 ^ 32) ≡ b → (10 * n + (d - 48) < 2 ^ 32 → digits_on (10 * n + (d - 48)) ds ≡ Some m → Digits (10 * n + (d - 48)) m ds)
    → cond (a && b) (digits_on (10 * n + (d - 48)) ds) None ≡ Some m → Digits n m (d ∷ ds)
more_digits n m d ds true true p q r e =
    let fits : 10 * n + (d - 48) < 2 ^ 32 = grind (arith, nat_tests) in
    let k : Digits (10 * n + (d - 48)) m ds = r fits e in
    (ap (λ x. x && all_ascii_digits ds) p ∙ k.0, k.1, k.2)
more_digits n m d ds true false p q r e = cc
more_digits n m d ds false b p q r e = cc

digits_told : (n m : ℕ) (ds : List ℕ) → n < 2 ^ 32 → digits_on n ds ≡ Some m → Digits n m ds
digits_told n m [] small e =
    let same : n ≡ m = cc in
    (refl, same, omega arith)
digits_told n m (d ∷ ds) small e =
    more_digits n m d ds (is_ascii_digit d) (ltb (10 * n + (d - 48)) (2 ^ 32)) refl refl (λ fits k. digits_told (10 * n + (d - 48)) m ds fits k) e

-- a number that was read is spelled by its decimal digits
number_case : (n d : ℕ) (ds : List ℕ) (b : Bool) → eqb d 48 ≡ b → cond b None (digits_on 0 (d ∷ ds)) ≡ Some n → (d ∷ ds ≡ decimal n) × InRange n
number_case n d ds true p e = cc
number_case n d ds false p e =
    let k : Digits 0 n (d ∷ ds) = digits_told 0 n (d ∷ ds) (omega arith) e in
    let ne : d ≢ 48 = grind (arith, nat_tests) in
    let spelled : decimal (number_from 0 (d ∷ ds)) ≡ d ∷ ds = decimal-digits_value own (d ∷ ds) k.0 (omega arith) (λ z. absurd (ne z)) (omega (arith, k.1, k.2)) in
    let same : decimal n ≡ d ∷ ds = sym (ap decimal k.1) ∙ spelled in
    let positive : n ≡ 0 → ⊥ = λ z. ne (ap (λ w. get_or w 0 0) (sym same ∙ ap decimal z ∙ decimal_digit 0 (omega arith))) in
    (sym same, (omega arith, k.2))

pub number_told : (w : List ℕ) (n : ℕ) → number_of w ≡ Some n → (w ≡ decimal n) × InRange n
number_told [] n e = cc
number_told (d ∷ ds) n e = number_case n d ds (eqb d 48) refl e

number_by : (n : ℕ) (w : List ℕ) → w ≡ decimal n → InRange n → number_of w ≡ Some n
number_by n [] e r = absurd (omega (arith, ap length e, decimal_nonempty n (omega arith)))
number_by n (d ∷ ds) e r =
    let small : n < 2 ^ 64 = omega arith in
    let first : 48 < get_or (d ∷ ds) 0 0 = subst (λ w. 48 < get_or w 0 0) (sym e) (first_decimal n r.0 small) in
    let test : eqb d 48 ≡ false = grind (arith, nat_tests) in
    let digits : all_ascii_digits (d ∷ ds) ≡ true = ap all_ascii_digits e ∙ digits_decimal own n small in
    let value : number_from 0 (d ∷ ds) ≡ n = ap (number_from 0) e ∙ digits_value-decimal own n small in
    ap (λ b. cond b None (digits_on 0 (d ∷ ds))) test ∙ digits_read 0 (d ∷ ds) digits (omega (arith, value)) ∙ ap Some value

-- a number is read from its decimal digits
pub number_read : (n : ℕ) → InRange n → number_of (decimal n) ≡ Some n
number_read n r = number_by n (decimal n) refl r

-- literals

signed_told : (b : Bool) (w : List ℕ) (l : Lit) (o : Option ℕ) → number_of w ≡ o → signed b o ≡ Some l → (l.positive ≡ b) × (w ≡ decimal l.variable) × InRange l.variable
signed_told b w l None p e = cc
signed_told b w l (Some n) p e =
    let same : ◌≡◌ {A = Lit} (record { variable = n; positive = b }) l = cc in
    let k = number_told w n p in
    subst (λ m. (m.positive ≡ b) × (w ≡ decimal m.variable) × InRange m.variable) same (refl, k.0, k.1)

positive_word : (l : Lit) (w : List ℕ) → (l.positive ≡ true) × (w ≡ decimal l.variable) × InRange l.variable → (w ≡ lit_word l) × InRange l.variable
positive_word l w k = (k.1 ∙ sym (ap (λ b. cond b (decimal l.variable) (45 ∷ decimal l.variable)) k.0), k.2)

negative_word : (l : Lit) (w : List ℕ) → (l.positive ≡ false) × (w ≡ decimal l.variable) × InRange l.variable → (45 ∷ w ≡ lit_word l) × InRange l.variable
negative_word l w k = (ap (λ x. 45 ∷ x) k.1 ∙ sym (ap (λ b. cond b (decimal l.variable) (45 ∷ decimal l.variable)) k.0), k.2)

lit_case : (d : ℕ) (ds : List ℕ) (l : Lit) (b : Bool) → eqb d 45 ≡ b → cond b (signed false (number_of ds)) (signed true (number_of (d ∷ ds))) ≡ Some l → (d ∷ ds ≡ lit_word l) × InRange l.variable
lit_case d ds l true p e =
    let k = negative_word l ds (signed_told false ds l (number_of ds) refl e) in
    let same : d ≡ 45 = grind (arith, nat_tests) in
    (ap (λ x. x ∷ ds) same ∙ k.0, k.1)
lit_case d ds l false p e = positive_word l (d ∷ ds) (signed_told true (d ∷ ds) l (number_of (d ∷ ds)) refl e)

pub lit_told : (w : List ℕ) (l : Lit) → lit_of w ≡ Some l → (w ≡ lit_word l) × InRange l.variable
lit_told [] l e = cc
lit_told (d ∷ ds) l e = lit_case d ds l (eqb d 45) refl e

same_sign : (l : Lit) (b : Bool) → l.positive ≡ b → ◌≡◌ {A = Lit} (record { variable = l.variable; positive = b }) l
same_sign l b e = ap (λ x. record { variable = l.variable; positive = x }) (sym e)

plain_lit : (l : Lit) (w : List ℕ) → w ≡ decimal l.variable → InRange l.variable → l.positive ≡ true → lit_of w ≡ Some l
plain_lit l [] e r p = absurd (omega (arith, ap length e, decimal_nonempty l.variable (omega arith)))
plain_lit l (d ∷ ds) e r p =
    let first : 48 < get_or (d ∷ ds) 0 0 = subst (λ w. 48 < get_or w 0 0) (sym e) (first_decimal l.variable r.0 (omega arith)) in
    let test : eqb d 45 ≡ false = grind (arith, nat_tests) in
    ap (λ b. cond b (signed false (number_of ds)) (signed true (number_of (d ∷ ds)))) test
    ∙ ap (signed true) (number_by l.variable (d ∷ ds) e r) ∙ ap Some (same_sign l true p)

lit_by : (l : Lit) (b : Bool) → l.positive ≡ b → InRange l.variable → lit_of (cond b (decimal l.variable) (45 ∷ decimal l.variable)) ≡ Some l
lit_by l true p r = plain_lit l (decimal l.variable) refl r p
lit_by l false p r = ap (signed false) (number_read l.variable r) ∙ ap Some (same_sign l false p)

pub lit_read : (l : Lit) → InRange l.variable → lit_of (lit_word l) ≡ Some l
lit_read l r = lit_by l l.positive refl r

-- the word 0

zero_case : (d : ℕ) → eqb d 48 ≡ true → d ∷ [] ≡ zero_word
zero_case d p = let same : d ≡ 48 = grind (arith, nat_tests) in ap (λ x. x ∷ []) same

pub zero_told : (w : List ℕ) → is_zero w ≡ true → w ≡ zero_word
zero_told [] e = cc
zero_told (d ∷ []) e = zero_case d e
zero_told (d ∷ c ∷ ds) e = cc

-- no number is the word 0, and no literal
number_not_zero : (w : List ℕ) (n : ℕ) (b : Bool) → is_zero w ≡ b → number_of w ≡ Some n → b ≡ false
number_not_zero w n true p e =
    let z : number_of zero_word ≡ Some n = sym (ap number_of (zero_told w p)) ∙ e in
    cc
number_not_zero w n false p e = refl

lit_not_zero : (w : List ℕ) (l : Lit) (b : Bool) → is_zero w ≡ b → lit_of w ≡ Some l → b ≡ false
lit_not_zero w l true p e =
    let z : lit_of zero_word ≡ Some l = sym (ap lit_of (zero_told w p)) ∙ e in
    cc
lit_not_zero w l false p e = refl

-- hints

last_told : (ws : List (List ℕ)) (hs : List ℕ) → last_hint ws ≡ Some hs → (ws ≡ []) × (hs ≡ [])
last_told [] hs e = let same : hs ≡ [] = cc in (refl, same)
last_told (w ∷ ws) hs e = cc

abbrev pub Hints : List (List ℕ) → List ℕ → Type 0
Hints ws hs = (ws ≡ hint_words hs) × All InRange hs

more_told : (w : List ℕ) (ws : List (List ℕ)) (hs : List ℕ) (o : Option ℕ) (r : Option (List ℕ)) → number_of w ≡ o → ((gs : List ℕ) → r ≡ Some gs → Hints ws gs) → more_hints o r ≡ Some hs → Hints (w ∷ ws) hs
more_told w ws hs None r p k e = cc
more_told w ws hs (Some n) None p k e = cc
more_told w ws hs (Some n) (Some gs) p k e =
    let same : n ∷ gs ≡ hs = cc in
    let a = number_told w n p in
    let h : Hints ws gs = k gs refl in
    subst (Hints (w ∷ ws)) same (ap₂ (λ x xs. x ∷ xs) a.0 h.0, All-cons InRange n gs a.1 h.1)

hints_case : (w : List ℕ) (ws : List (List ℕ)) (hs : List ℕ) (b : Bool) → is_zero w ≡ b → ((gs : List ℕ) → hints_of ws ≡ Some gs → Hints ws gs) → cond b (last_hint ws) (more_hints (number_of w) (hints_of ws)) ≡ Some hs → Hints (w ∷ ws) hs
hints_case w ws hs true p k e =
    let a = last_told ws hs e in
    let z = zero_told w p in
    let words : w ∷ ws ≡ hint_words hs = ap₂ (λ x xs. x ∷ xs) z a.0 ∙ sym (ap hint_words a.1) in
    (words, subst (All InRange) (sym a.1) (All-nil InRange))
hints_case w ws hs false p k e = more_told w ws hs (number_of w) (hints_of ws) refl k e

pub hints_told : (ws : List (List ℕ)) (hs : List ℕ) → hints_of ws ≡ Some hs → Hints ws hs
hints_told [] hs e = cc
hints_told (w ∷ ws) hs e = hints_case w ws hs (is_zero w) refl (hints_told ws) e

pub hints_read : (hs : List ℕ) → All InRange hs → hints_of (hint_words hs) ≡ Some hs
hints_read [] a = refl
hints_read (h ∷ hs) a =
    let n = number_read h (All-head InRange h hs a) in
    let z = number_not_zero (decimal h) h (is_zero (decimal h)) refl n in
    ap (λ b. cond b (last_hint (hint_words hs)) (more_hints (number_of (decimal h)) (hints_of (hint_words hs)))) z
    ∙ ap₂ more_hints n (hints_read hs (All-tail InRange h hs a))

-- the literals of a lemma

abbrev pub LitInRange : Lit → Type 0
LitInRange l = InRange l.variable

abbrev pub Lits : List (List ℕ) → List Lit → List (List ℕ) → Type 0
Lits ws ls vs = (ws ≡ map lit_word ls ++ zero_word ∷ vs) × All LitInRange ls

abbrev pub first_part : List Lit × List (List ℕ) → List Lit
first_part p = p.0

abbrev pub second_part : List Lit × List (List ℕ) → List (List ℕ)
second_part p = p.1

some_same : (p q : List Lit × List (List ℕ)) → ◌≡◌ {A = Option (List Lit × List (List ℕ))} (Some p) (Some q) → p ≡ q
some_same p q e = cc

more_lits_told : (w : List ℕ) (ws : List (List ℕ)) (ls : List Lit) (vs : List (List ℕ)) (o : Option Lit) (r : Option (List Lit × List (List ℕ))) → lit_of w ≡ o → ((ms : List Lit) (us : List (List ℕ)) → r ≡ Some (ms, us) → Lits ws ms us) → more_lits o r ≡ Some (ls, vs) → Lits (w ∷ ws) ls vs
more_lits_told w ws ls vs None r p k e = cc
more_lits_told w ws ls vs (Some l) None p k e = cc
more_lits_told w ws ls vs (Some l) (Some (ms, us)) p k e =
    let same = some_same (l ∷ ms, us) (ls, vs) e in
    let a = lit_told w l p in
    let h : Lits ws ms us = k ms us refl in
    subst (λ q. Lits (w ∷ ws) (first_part q) (second_part q)) same (ap₂ (λ x xs. x ∷ xs) a.0 h.0, All-cons LitInRange l ms a.1 h.1)

lits_case : (w : List ℕ) (ws : List (List ℕ)) (ls : List Lit) (vs : List (List ℕ)) (b : Bool) → is_zero w ≡ b → ((ms : List Lit) (us : List (List ℕ)) → lits_of ws ≡ Some (ms, us) → Lits ws ms us) → cond b (Some ([], ws)) (more_lits (lit_of w) (lits_of ws)) ≡ Some (ls, vs) → Lits (w ∷ ws) ls vs
lits_case w ws ls vs true p k e =
    let same = some_same ([], ws) (ls, vs) e in
    subst (λ q. Lits (w ∷ ws) (first_part q) (second_part q)) same (ap (λ x. x ∷ ws) (zero_told w p), All-nil LitInRange)
lits_case w ws ls vs false p k e = more_lits_told w ws ls vs (lit_of w) (lits_of ws) refl k e

pub lits_told : (ws : List (List ℕ)) (ls : List Lit) (vs : List (List ℕ)) → lits_of ws ≡ Some (ls, vs) → Lits ws ls vs
lits_told [] ls vs e = cc
lits_told (w ∷ ws) ls vs e = lits_case w ws ls vs (is_zero w) refl (lits_told ws) e

pub lits_read : (ls : List Lit) (vs : List (List ℕ)) → All LitInRange ls → lits_of (map lit_word ls ++ zero_word ∷ vs) ≡ Some (ls, vs)
lits_read [] vs a = refl
lits_read (l ∷ ls) vs a =
    let n = lit_read l (All-head LitInRange l ls a) in
    let z = lit_not_zero (lit_word l) l (is_zero (lit_word l)) refl n in
    let rest = map lit_word ls ++ zero_word ∷ vs in
    ap (λ b. cond b (Some ([], rest)) (more_lits (lit_of (lit_word l)) (lits_of rest))) z
    ∙ ap₂ more_lits n (lits_read ls vs (All-tail LitInRange l ls a))

-- lemmas

with_told : (ls : List Lit) (vs : List (List ℕ)) (m : Lemma) (r : Option (List ℕ)) → hints_of vs ≡ r → All LitInRange ls → with_hints ls r ≡ Some m → (map lit_word ls ++ zero_word ∷ vs ≡ lemma_words m) × LemmaNumbered m
with_told ls vs m None p a e = cc
with_told ls vs m (Some hs) p a e =
    let same : ◌≡◌ {A = Lemma} (record { lits = ls; hints = hs }) m = cc in
    let h = hints_told vs hs p in
    subst (λ x. (map lit_word ls ++ zero_word ∷ vs ≡ lemma_words x) × LemmaNumbered x) same (ap (λ ws. map lit_word ls ++ zero_word ∷ ws) h.0, (a, h.1))

lemma_case : (ws : List (List ℕ)) (m : Lemma) (r : Option (List Lit × List (List ℕ))) → lits_of ws ≡ r → lemma_with r ≡ Some m → (ws ≡ lemma_words m) × LemmaNumbered m
lemma_case ws m None p e = cc
lemma_case ws m (Some (ls, vs)) p e =
    let a = lits_told ws ls vs p in
    let k = with_told ls vs m (hints_of vs) refl a.1 e in
    (a.0 ∙ k.0, k.1)

pub lemma_told : (ws : List (List ℕ)) (m : Lemma) → lemma_of ws ≡ Some m → (ws ≡ lemma_words m) × LemmaNumbered m
lemma_told ws m e = lemma_case ws m (lits_of ws) refl e

pub lemma_read : (m : Lemma) → LemmaNumbered m → lemma_of (lemma_words m) ≡ Some m
lemma_read m r =
    ap lemma_with (lits_read m.lits (hint_words m.hints) r.0) ∙ ap (with_hints m.lits) (hints_read m.hints r.1)

-- blocks

abbrev pub number_part : ℕ × List (List ℕ) → ℕ
number_part p = p.0

abbrev pub rest_part : ℕ × List (List ℕ) → List (List ℕ)
rest_part p = p.1

pair_same : (p q : ℕ × List (List ℕ)) → ◌≡◌ {A = Option (ℕ × List (List ℕ))} (Some p) (Some q) → p ≡ q
pair_same p q e = cc

first_told : (ws : List (List ℕ)) (n : ℕ) (vs : List (List ℕ)) (w : List ℕ) (o : Option ℕ) → number_of w ≡ o → ◌≡◌ {A = Option (ℕ × List (List ℕ))} (with_rest ws o) (Some (n, vs)) → (w ∷ ws ≡ decimal n ∷ vs) × InRange n
first_told ws n vs w None p e = cc
first_told ws n vs w (Some k) p e =
    let r = number_told w k p in
    subst (λ q. (w ∷ ws ≡ decimal (number_part q) ∷ rest_part q) × InRange (number_part q)) (pair_same (k, ws) (n, vs) e) (ap (λ x. x ∷ ws) r.0, r.1)

number_first : (ws : List (List ℕ)) (n : ℕ) (vs : List (List ℕ)) → first_number ws ≡ Some (n, vs) → (ws ≡ decimal n ∷ vs) × InRange n
number_first [] n vs e = cc
number_first (w ∷ ws) n vs e = first_told ws n vs w (number_of w) refl e

abbrev pub ToldBlock : List (List ℕ) → Block → Type 0
ToldBlock ws b = (ws ≡ block_words b) × BlockNumbered b

whole_told : (p c : ℕ) (vs : List (List ℕ)) (b : Block) (r : Option (List ℕ)) → InRange p → InRange c → hints_of vs ≡ r → whole_block p c r ≡ Some b → ToldBlock (decimal p ∷ decimal c ∷ vs) b
whole_told p c vs b None i j q e = cc
whole_told p c vs b (Some hs) i j q e =
    let same : ◌≡◌ {A = Block} (record { place = p; candidate = c; hints = hs }) b = cc in
    let h = hints_told vs hs q in
    subst (ToldBlock (decimal p ∷ decimal c ∷ vs)) same (ap (λ ws. decimal p ∷ decimal c ∷ ws) h.0, (i, j, h.1))

behind_told : (p : ℕ) (vs : List (List ℕ)) (b : Block) (r : Option (ℕ × List (List ℕ))) → InRange p → first_number vs ≡ r → block_behind p r ≡ Some b → ToldBlock (decimal p ∷ vs) b
behind_told p vs b None i q e = cc
behind_told p vs b (Some (c, us)) i q e =
    let k = number_first vs c us q in
    let t = whole_told p c us b (hints_of us) i k.1 refl e in
    (ap (λ ws. decimal p ∷ ws) k.0 ∙ t.0, t.1)

block_case : (ws : List (List ℕ)) (b : Block) (r : Option (ℕ × List (List ℕ))) → first_number ws ≡ r → block_with r ≡ Some b → ToldBlock ws b
block_case ws b None q e = cc
block_case ws b (Some (p, vs)) q e =
    let k = number_first ws p vs q in
    let t = behind_told p vs b (first_number vs) k.1 refl e in
    (k.0 ∙ t.0, t.1)

pub block_told : (ws : List (List ℕ)) (b : Block) → block_of ws ≡ Some b → ToldBlock ws b
block_told ws b e = block_case ws b (first_number ws) refl e

pub block_read : (b : Block) → BlockNumbered b → block_of (block_words b) ≡ Some b
block_read b r =
    ap (λ o. block_with (with_rest (decimal b.candidate ∷ hint_words b.hints) o)) (number_read b.place r.0)
    ∙ ap (λ o. block_behind b.place (with_rest (hint_words b.hints) o)) (number_read b.candidate r.1)
    ∙ ap (whole_block b.place b.candidate) (hints_read b.hints r.2)
