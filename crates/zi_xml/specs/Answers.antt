-- What a machine that reads characters answers, refusing at the first fault. Nothing here knows which texts are right.
use Rattle.std.specs.Prelude.{ℕ, ◌+◌, List, [], ◌∷◌, Option, Some, None, ◌⊎◌}
use Rattle.std.proofs.Common.{inl, inr}

-- step: the state after a character; at_of: the bytes read; found_of: the faults found; shared: how many bytes of a refused
-- character may still stand there; finish: what the text says, where it may end
module _ (S R F : Type 0) (step : S → ℕ → Option S) (at_of : S → ℕ) (found_of : S → List F) (shared : S → ℕ → ℕ) (finish : S → Option R) where
  -- it says this, it has this fault, or it stops at this place
  abbrev pub Answer : Type 0
  Answer = R ⊎ (F ⊎ ℕ)

  abbrev pub at_end : S → Option R → Answer
  at_end s None = inr (inr (at_of s))
  at_end s (Some r) = inl r

  abbrev pub settle : List F → Answer → Answer
  settle [] a = a
  settle (f ∷ fs) a = inr (inl f)

  abbrev pub next_answer : ℕ → Option S → (S → Answer) → Answer
  next_answer k None a = inr (inr k)
  next_answer k (Some t) a = settle (found_of t) (a t)

  -- the answer to what is left
  abbrev pub answer : S → List ℕ → Answer
  answer s [] = at_end s (finish s)
  answer s (c ∷ cs) = next_answer (at_of s + shared s c) (step s c) (λ t. answer t cs)
