-- Texts cut at a byte.
use Rattle.std.proofs.Common.{◌≡◌, ◌≢◌, ℕ, suc, ◌<◌, true, false, List, [], ◌∷◌, ◌++◌, length, get_or, refl, arith}
use Rattle.std.specs.Prelude.{◌==◌}
use Rattle.std.proofs.lemmas.Bool.Decides.{nat_tests}
use Rattle.zi_text.specs.Pieces.{pieces}

-- c stands nowhere in the text
abbrev pub Lacks : ℕ → List ℕ → Type 0
Lacks c xs = (i : ℕ) → i < length xs → get_or xs i 0 ≢ c

lacks-tail : (c x : ℕ) (xs : List ℕ) → Lacks c (x ∷ xs) → Lacks c xs
lacks-tail c x xs h i lt = h (suc i) (omega arith)

pub differs : (c x : ℕ) (xs : List ℕ) → Lacks c (x ∷ xs) → (x == c) ≡ false
differs c x xs h = let ne : x ≢ c = h 0 (omega arith) in grind (arith, nat_tests)

pub pieces-none : (c : ℕ) (xs : List ℕ) → Lacks c xs → pieces c xs ≡ (xs, [])
pieces-none c [] h = refl
pieces-none c (x ∷ xs) h = rw (differs c x xs h, pieces-none c xs (lacks-tail c x xs h)) refl

pub pieces-first : (c : ℕ) (xs ys : List ℕ) → Lacks c xs → pieces c (xs ++ c ∷ ys) ≡ (xs, (pieces c ys).0 ∷ (pieces c ys).1)
pieces-first c [] ys h = let e : (c == c) ≡ true = grind (arith, nat_tests) in rw e refl
pieces-first c (x ∷ xs) ys h = rw (differs c x xs h, pieces-first c xs ys (lacks-tail c x xs h)) refl
