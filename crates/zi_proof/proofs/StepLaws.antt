-- What a step's parts come to, and what a write to the marks makes known.
use Rattle.std.proofs.Common.{◌≡◌, ℕ, Bool, true, false, cond, List, [], ◌∷◌, refl, ap}
use Rattle.zi_formula.specs.declared.formula.Lit.{Lit}
use Rattle.zi_proof.specs.Known.{Known, put, is_true, by_standing, Fails, Goes}
use Rattle.zi_proof.specs.Taken.{many_of}
use Rattle.zi_proof.specs.declared.steps.Many.{Many}
use Rattle.zi_proof.specs.declared.steps.Many.TheVariants as many

-- how many are true, when one was met before, or none
abbrev pub many_after : Bool → List ℕ → Many
many_after false xs = many_of xs
many_after true [] = many.One
many_after true (x ∷ xs) = many.More

pub many_after_true : (one : Bool) (x : ℕ) (xs : List ℕ) → one ≡ false → many_after one (x ∷ xs) ≡ many_after true xs
many_after_true true x xs e = cc
many_after_true false x [] e = refl
many_after_true false x (y ∷ ys) e = refl

pub by_standing_true : (k : Known) (l : Lit) (ls : List Lit) → is_true k l ≡ true → by_standing k (l ∷ ls) ≡ Fails
by_standing_true k l [] e = ap (λ b. cond b Fails (Goes (put k l))) e
by_standing_true k l (m ∷ ls) e = refl
