-- What is taken as true while hints are walked, and what one constraint makes of it.
use Rattle.std.specs.Prelude.{ℕ, ◌==◌, Bool, true, false, not, cond, List, [], ◌∷◌, Option, Some, None}
use Rattle.zi_formula.specs.declared.formula.Lit.{Lit}
use Rattle.zi_formula.specs.declared.formula.Constraint.{Constraint}
use Rattle.zi_formula.specs.declared.formula.Constraint.TheVariants.{Clause, AtMostOne}

-- each variable is taken as true, taken as false, or undecided
abbrev pub Known : Type 0
Known = ℕ → Option Bool

abbrev pub nothing : Known
nothing x = None

-- the literal is taken as true too
abbrev pub put : Known → Lit → Known
put k l x = cond (x == l.variable) (Some l.positive) (k x)

-- nothing is known of the variable any more
abbrev pub without : Known → ℕ → Known
without k y x = cond (x == y) None (k x)

-- what is known of a variable says that it is `b`
abbrev pub says : Option Bool → Bool → Bool
says None b = false
says (Some true) b = b
says (Some false) b = not b

abbrev pub is_open : Option Bool → Bool
is_open None = true
is_open (Some b) = false

abbrev pub is_true : Known → Lit → Bool
is_true k l = says (k l.variable) l.positive

abbrev pub is_false : Known → Lit → Bool
is_false k l = says (k l.variable) (not l.positive)

-- what a constraint makes of what is known: nothing that is allowed, a contradiction, or more that is known
pub data Outcome : Type 0 where
  Fails : Outcome
  Contradiction : Outcome
  Goes : Known → Outcome

-- the literals of a clause that aren't false
abbrev pub standing : Known → List Lit → List Lit
standing k [] = []
standing k (l ∷ ls) = cond (is_false k l) (standing k ls) (l ∷ standing k ls)

-- Where all literals are false, that is the contradiction. Where exactly one is undecided and the rest
-- are false, that one becomes true.
abbrev pub by_standing : Known → List Lit → Outcome
by_standing k [] = Contradiction
by_standing k (l ∷ []) = cond (is_true k l) Fails (Goes (put k l))
by_standing k (l ∷ m ∷ ls) = Fails

abbrev pub clause_step : Known → List Lit → Outcome
clause_step k ls = by_standing k (standing k ls)

-- the variables of a group that are true
abbrev pub true_ones : Known → List ℕ → List ℕ
true_ones k [] = []
true_ones k (x ∷ xs) = cond (says (k x) true) (x ∷ true_ones k xs) (true_ones k xs)

-- an undecided variable becomes false
abbrev pub deny : Known → ℕ → Known
deny k x = cond (is_open (k x)) (put k (record { variable = x; positive = false })) k

abbrev pub deny_all : Known → List ℕ → Known
deny_all k [] = k
deny_all k (x ∷ xs) = deny_all (deny k x) xs

-- Where two variables are true, that is the contradiction. Where exactly one is, the others that are
-- undecided become false.
abbrev pub by_true_ones : Known → List ℕ → List ℕ → Outcome
by_true_ones k xs [] = Fails
by_true_ones k xs (x ∷ []) = Goes (deny_all k xs)
by_true_ones k xs (x ∷ y ∷ ys) = Contradiction

abbrev pub group_step : Known → List ℕ → Outcome
group_step k xs = by_true_ones k xs (true_ones k xs)

abbrev pub step : Known → Constraint → Outcome
step k (Clause ls) = clause_step k ls
step k (AtMostOne xs) = group_step k xs
