-- What a formula must be for a call to take it.
use Rattle.std.specs.Prelude.{◌≡◌, ◌==◌, ℕ, ◌-◌, ◌<◌, ◌≤◌, ◌^◌, Bool, true, false, not, cond, ◌&&◌, List, [], ◌∷◌, length}
use Rattle.std.specs.List.{All}
use Rattle.zi_formula.specs.declared.formula.Lit.{Lit}
use Rattle.zi_formula.specs.declared.formula.Constraint.{Constraint}
use Rattle.zi_formula.specs.declared.formula.Constraint.TheVariants.{Clause, AtMostOne}
use Rattle.zi_formula.specs.declared.formula.Formula.{Formula}

-- every variable is one of 1 to n
abbrev pub VarsWithin : ℕ → List ℕ → Type 0
VarsWithin n xs = All (λ x. (1 ≤ x) × (x ≤ n)) xs

abbrev pub LitsWithin : ℕ → List Lit → Type 0
LitsWithin n ls = All (λ l. (1 ≤ l.variable) × (l.variable ≤ n)) ls

abbrev pub ConstraintWithin : ℕ → Constraint → Type 0
ConstraintWithin n (Clause ls) = LitsWithin n ls
ConstraintWithin n (AtMostOne xs) = VarsWithin n xs

-- the variables are numbered from 1 to f.variables
abbrev pub Within : Formula → Type 0
Within f = All (λ c. ConstraintWithin f.variables c) f.constraints

-- two literals of one variable that say the same
abbrev pub same_lit : Lit → Lit → Bool
same_lit a b = (a.variable == b.variable) && cond a.positive b.positive (not b.positive)

-- the literal is one of the list
abbrev pub has_lit : List Lit → Lit → Bool
has_lit [] l = false
has_lit (m ∷ ms) l = cond (same_lit m l) true (has_lit ms l)

-- every literal of the second list is in the first
abbrev pub has_all : List Lit → List Lit → Bool
has_all ms [] = true
has_all ms (l ∷ ls) = has_lit ms l && has_all ms ls

-- the number is one of the list
abbrev pub has_variable : List ℕ → ℕ → Bool
has_variable [] x = false
has_variable (y ∷ ys) x = cond (y == x) true (has_variable ys x)

-- no literal stands twice
abbrev pub Once : List Lit → Type 0
Once [] = Unit {0}
Once (l ∷ ls) = (has_lit ls l ≡ false) × Once ls

-- no variable stands twice
abbrev pub OnceVars : List ℕ → Type 0
OnceVars [] = Unit {0}
OnceVars (x ∷ xs) = (has_variable xs x ≡ false) × OnceVars xs

abbrev pub ItemsOnce : Constraint → Type 0
ItemsOnce (Clause ls) = Once ls
ItemsOnce (AtMostOne xs) = OnceVars xs

-- no clause has a literal twice and no group a variable twice
abbrev pub OnceAll : List Constraint → Type 0
OnceAll [] = Unit {0}
OnceAll (c ∷ cs) = ItemsOnce c × OnceAll cs

-- The conditions on a formula: its variables are numbered from 1 on, no constraint has an item twice, and there are few
-- enough constraints that their numbers and those of lemmas fit 32 bits.
pub record WellFormed (f : Formula) : Type 0 where
  pub within : Within f
  pub once : OnceAll f.constraints
  pub few : length f.constraints < 2 ^ 32 - 1
