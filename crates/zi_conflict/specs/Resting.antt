-- How constraints and lemmas are marked on which the last lemma rests: they are numbered one behind the other, from 0.
use Rattle.std.specs.Prelude.{◌≡◌, ◌⊎◌, ℕ, zero, suc, ◌+◌, ◌<◌, nat_lt, Bool, true, false, cond, ◌&&◌, ◌||◌, List, [], ◌∷◌, ◌++◌, length, slice_index_or, slice_get, Some}
use Rattle.zi_formula.specs.declared.formula.Formula.{Formula}
use Rattle.zi_formula.specs.Form.{has_variable}
use Rattle.zi_proof.specs.declared.proof.Lemma.{Lemma}
use Rattle.zi_proof.specs.declared.proof.Proof.{Proof}
use Rattle.zi_proof.specs.Accepted.{follows, proves}
use Rattle.zi_conflict.specs.Core.{is_hint, only, HasNoModel}

abbrev pub marked : List Bool → ℕ → Bool
marked marks n = slice_index_or marks n false

-- what these hints cite before a place is marked too
pub record AreMarked (limit : ℕ) (hints : List ℕ) (old new : List Bool) : Type 0 where
  pub len : length new ≡ length old
  pub are : (n : ℕ) → marked new n ≡ marked old n || (nat_lt n limit && has_variable hints (suc n))

-- each marked lemma of these, the first of which has this number, has all marked that its hints cite before it
abbrev pub IsClosed : List Bool → ℕ → List Lemma → Type 0
IsClosed marks n [] = Unit {0}
IsClosed marks n (m ∷ ms) =
    (marked marks n ≡ true → (h : ℕ) → h < n → has_variable m.hints (suc h) ≡ true → marked marks h ≡ true) × IsClosed marks (suc n) ms

-- Behind so many constraints stand the lemmas. The last is marked, and all on which a marked one rests; and the constraints that are marked
-- are hints of lemmas.
pub record Rests (count : ℕ) (ms : List Lemma) (marks : List Bool) : Type 0 where
  pub len : length marks ≡ count + length ms
  pub closed : IsClosed marks count ms
  pub last : (n : ℕ) → suc n ≡ length ms → marked marks (count + n) ≡ true
  pub hints : (n : ℕ) → n < count → marked marks n ≡ true → is_hint ms (suc n) ≡ true

-- the items of a list whose marks are set
abbrev pub picked : List Bool → List ℕ → List ℕ
picked [] ns = []
picked (b ∷ bs) [] = []
picked (b ∷ bs) (n ∷ ns) = cond b (n ∷ picked bs ns) (picked bs ns)

-- the numbers below one
abbrev pub numbers_from : ℕ → ℕ → List ℕ
numbers_from n zero = []
numbers_from n (suc k) = n ∷ numbers_from (suc n) k

abbrev pub numbers_to : ℕ → List ℕ
numbers_to k = numbers_from 0 k

-- the second list with some items left out
abbrev pub IsPart : List ℕ → List ℕ → Type 0
IsPart ms [] = ms ≡ []
IsPart ms (n ∷ ns) = IsPart ms ns ⊎ ((rest : List ℕ) × (ms ≡ n ∷ rest) × IsPart rest ns)

-- Where a proof refutes the constraints of some numbers, these are those among them that it uses and that leave no model.
abbrev pub RestsOn : Proof → List ℕ → List ℕ → Type 0
RestsOn p ns ms =
    IsPart ms ns × ((n : ℕ) → has_variable ms n ≡ true → (k : ℕ) × (slice_get ns k ≡ Some n) × (is_hint p.lemmas (suc k) ≡ true))
    × ((f : Formula) → follows (only f ns) p.lemmas ≡ true → proves [] p.lemmas ≡ true → HasNoModel (only f ms))

-- some of these numbers, which leave no model
abbrev pub IsCoreOf : Formula → List ℕ → List ℕ → Type 0
IsCoreOf f ns ms = IsPart ms ns × HasNoModel (only f ms)

-- the last of so many lemmas is marked, behind so many constraints, none of which is
pub record Begun (count lemmas : ℕ) (marks : List Bool) : Type 0 where
  pub len : length marks ≡ count + lemmas
  pub last : (n : ℕ) → suc n ≡ lemmas → marked marks (count + n) ≡ true
  pub none : (n : ℕ) → n < count → marked marks n ≡ false
