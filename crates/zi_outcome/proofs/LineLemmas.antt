-- The lines, in their pieces.
use Rattle.std.proofs.Common.{◌≡◌, ℕ, zero, suc, ◌+◌, ◌*◌, ◌/◌, ◌%◌, ◌^◌, ◌<◌, ◌≤◌, Bool, true, false, cond, List, [], ◌∷◌, ◌++◌, refl, sym, ap, subst, ◌∙◌, arith, append_assoc, pow-suc, Result, Err}
use Rattle.std.specs.Prelude.{◌==◌, nat_lt, codes}
use Rattle.std.specs.Fmt.{decimal, digits, digits_onto, digit_glyph}
use Rattle.std.proofs.lemmas.Bool.Decides.{nat_tests}
use Rattle.zi_outside.specs.Views.{Sinking}
use Rattle.zi_outside.specs.declared.sink.SinkFault.{SinkFault}
use Rattle.zi_outcome.specs.Writing.{PutsAll}
use Rattle.zi_outcome.proofs.WritingLemmas.{then_put, put_stops}

-- the digits of a number are those of its tenth, and one more
onto_join : (b : Bool) (g : ℕ) (d : List ℕ → List ℕ) (acc : List ℕ) → ((xs : List ℕ) → d xs ≡ d [] ++ xs) → cond b (g ∷ acc) (d (g ∷ acc)) ≡ cond b (g ∷ []) (d (g ∷ [])) ++ acc
onto_join true g d acc h = refl
onto_join false g d acc h = h (g ∷ acc) ∙ sym (append_assoc (d []) (g ∷ []) acc) ∙ ap (λ ds. ds ++ acc) (sym (h (g ∷ [])))

onto-append : (k n : ℕ) (acc : List ℕ) → digits_onto k 10 false n acc ≡ digits_onto k 10 false n [] ++ acc
onto-append zero n acc = refl
onto-append (suc k) n acc = onto_join (n / 10 == 0) (digit_glyph false (n % 10)) (digits_onto k 10 false (n / 10)) acc (λ xs. onto-append k (n / 10) xs)

enough : (k n : ℕ) (acc : List ℕ) → n < 10 ^ suc k → digits_onto (suc k) 10 false n acc ≡ digits_onto (suc (suc k)) 10 false n acc
enough zero n acc h = let e : (n / 10 == 0) ≡ true = grind (arith, nat_tests) in rw e refl
enough (suc k) n acc h =
    let p : 10 ^ suc (suc k) ≡ 10 * 10 ^ suc k = pow_tens (suc k) in
    let small : n / 10 < 10 ^ suc k = tenth n (10 ^ suc k) (rw p at h) in
    ap (λ ds. cond (n / 10 == 0) (digit_glyph false (n % 10) ∷ acc) ds) (enough k (n / 10) (digit_glyph false (n % 10) ∷ acc) small)
  where
    tenth : (n p : ℕ) → n < 10 * p → n / 10 < p
    tenth n p h = omega arith

    pow_tens : (k : ℕ) → 10 ^ suc k ≡ 10 * 10 ^ k
    pow_tens k = omega (arith, pow-suc 10 k)

pub decimal_small : (n : ℕ) → n < 10 → decimal n ≡ (48 + n) ∷ []
unfolding digits
decimal_small n h =
    let e : (n / 10 == 0) ≡ true = grind (arith, nat_tests) in
    let m : n % 10 ≡ n = omega arith in
    let f : nat_lt n 10 ≡ true = grind (arith, nat_tests) in
    rw (e, m, f) refl

pub decimal_more : (n : ℕ) → 10 ≤ n → n < 2 ^ 64 → decimal n ≡ decimal (n / 10) ++ (48 + n % 10) ∷ []
unfolding digits
decimal_more n h fits =
    let e : (n / 10 == 0) ≡ false = grind (arith, nat_tests) in
    let f : nat_lt (n % 10) 10 ≡ true = grind (arith, nat_tests) in
    let small : n / 10 < 10 ^ 63 = omega arith in
    rw (e, f) (enough 62 (n / 10) ((48 + n % 10) ∷ []) small ∙ onto-append 64 (n / 10) ((48 + n % 10) ∷ []))

pub number_stops : (old : Sinking) (n : ℕ) (e : SinkFault) (new : Sinking) → 10 ≤ n → n < 2 ^ 64 → PutsAll old (decimal (n / 10)) (Err e) new → PutsAll old (decimal n) (Err e) new
number_stops old n e new h fits p = subst (λ t. PutsAll old t (Err e) new) (sym (decimal_more n h fits)) (put_stops old (decimal (n / 10)) ((48 + n % 10) ∷ []) e new p)

pub ruleset numbers = (then_put, number_stops, decimal_small, decimal_more)

-- the line of a feed that is too long, in its pieces
long_line : (uri n : List ℕ) → codes "zi: " ++ (uri ++ codes " is longer than " ++ n ++ codes " bytes") ++ codes "\n" ≡ (codes "zi: " ++ uri) ++ (codes " is longer than " ++ n ++ codes " bytes\n")
long_line uri n = simp append_assoc

pub told_long : (old : Sinking) (uri n : List ℕ) (r : Result (Unit {0}) SinkFault) (new : Sinking)
    → PutsAll old ((codes "zi: " ++ uri) ++ (codes " is longer than " ++ n ++ codes " bytes\n")) r new
    → PutsAll old (codes "zi: " ++ (uri ++ codes " is longer than " ++ n ++ codes " bytes") ++ codes "\n") r new
told_long old uri n r new p = subst (λ t. PutsAll old t r new) (sym (long_line uri n)) p

-- the line of a bad feed, in its pieces
bad_line : (uri fault : List ℕ) → codes "zi: " ++ (codes "bad feed " ++ uri ++ codes ": " ++ fault) ++ codes "\n" ≡ (codes "zi: bad feed " ++ uri ++ codes ": ") ++ (fault ++ codes "\n")
bad_line uri fault = simp append_assoc

pub told_bad : (old : Sinking) (uri fault : List ℕ) (r : Result (Unit {0}) SinkFault) (new : Sinking)
    → PutsAll old ((codes "zi: bad feed " ++ uri ++ codes ": ") ++ (fault ++ codes "\n")) r new
    → PutsAll old (codes "zi: " ++ (codes "bad feed " ++ uri ++ codes ": " ++ fault) ++ codes "\n") r new
told_bad old uri fault r new p = subst (λ t. PutsAll old t r new) (sym (bad_line uri fault)) p

-- the line of a limit that is passed, in its pieces
many_line : (n what : List ℕ) → codes "zi: " ++ (codes "more than " ++ n ++ what) ++ codes "\n" ≡ codes "zi: more than " ++ n ++ (what ++ codes "\n")
many_line n what = simp append_assoc

pub told_many : (old : Sinking) (n what : List ℕ) (r : Result (Unit {0}) SinkFault) (new : Sinking)
    → PutsAll old (codes "zi: more than " ++ n ++ (what ++ codes "\n")) r new
    → PutsAll old (codes "zi: " ++ (codes "more than " ++ n ++ what) ++ codes "\n") r new
told_many old n what r new p = subst (λ t. PutsAll old t r new) (sym (many_line n what)) p

-- the line of a search that is spent, in its pieces
spent_line : (n : List ℕ) → codes "zi: " ++ (codes "search spent after " ++ n ++ codes " lemmas") ++ codes "\n" ≡ codes "zi: search spent after " ++ n ++ codes " lemmas\n"
spent_line n = simp append_assoc

pub told_spent : (old : Sinking) (n : List ℕ) (r : Result (Unit {0}) SinkFault) (new : Sinking)
    → PutsAll old (codes "zi: search spent after " ++ n ++ codes " lemmas\n") r new
    → PutsAll old (codes "zi: " ++ (codes "search spent after " ++ n ++ codes " lemmas") ++ codes "\n") r new
told_spent old n r new p = subst (λ t. PutsAll old t r new) (sym (spent_line n)) p

-- a value and what is said of it, in their pieces
pub told_then : (old : Sinking) (value what : List ℕ) (r : Result (Unit {0}) SinkFault) (new : Sinking)
    → PutsAll old (codes "zi: " ++ value ++ (what ++ codes "\n")) r new → PutsAll old (codes "zi: " ++ (value ++ what) ++ codes "\n") r new
told_then old value what r new p = subst (λ t. PutsAll old (codes "zi: " ++ t) r new) (sym (append_assoc value what (codes "\n"))) p

-- two names and what is said of them, in their pieces
names_line : (name what found : List ℕ) → codes "zi: " ++ (name ++ what ++ found) ++ codes "\n" ≡ (codes "zi: " ++ name) ++ (what ++ found ++ codes "\n")
names_line name what found = simp append_assoc

pub told_names : (old : Sinking) (name what found : List ℕ) (r : Result (Unit {0}) SinkFault) (new : Sinking)
    → PutsAll old ((codes "zi: " ++ name) ++ (what ++ found ++ codes "\n")) r new → PutsAll old (codes "zi: " ++ (name ++ what ++ found) ++ codes "\n") r new
told_names old name what found r new p = subst (λ t. PutsAll old t r new) (sym (names_line name what found)) p

-- the line of bytes that aren't as many as was said, in its pieces
sizes_line : (href got said : List ℕ) → codes "zi: " ++ (href ++ codes " has " ++ got ++ codes " bytes, not " ++ said) ++ codes "\n" ≡ (codes "zi: " ++ href) ++ ((codes " has " ++ got) ++ (codes " bytes, not " ++ said ++ codes "\n"))
sizes_line href got said = simp append_assoc

pub told_sizes : (old : Sinking) (href got said : List ℕ) (r : Result (Unit {0}) SinkFault) (new : Sinking)
    → PutsAll old ((codes "zi: " ++ href) ++ ((codes " has " ++ got) ++ (codes " bytes, not " ++ said ++ codes "\n"))) r new
    → PutsAll old (codes "zi: " ++ (href ++ codes " has " ++ got ++ codes " bytes, not " ++ said) ++ codes "\n") r new
told_sizes old href got said r new p = subst (λ t. PutsAll old t r new) (sym (sizes_line href got said)) p
