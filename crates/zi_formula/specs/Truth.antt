-- What a formula says of an assignment, which gives every variable, by its number, true or false: propositional logic in
-- conjunctive normal form, as DIMACS CNF has it, with groups of which at most one variable is true.
use Rattle.std.specs.Prelude.{◌≡◌, ℕ, ◌-◌, Bool, true, false, not, cond, ◌&&◌, ◌||◌, List, [], ◌∷◌, slice_index_or}
use Rattle.zi_formula.specs.declared.formula.Lit.{Lit}
use Rattle.zi_formula.specs.declared.formula.Constraint.{Constraint}
use Rattle.zi_formula.specs.declared.formula.Constraint.TheVariants.{Clause, AtMostOne}
use Rattle.zi_formula.specs.declared.formula.Formula.{Formula}

-- the literal of the same variable that says the contrary
abbrev pub opposite : Lit → Lit
opposite l = record { variable = l.variable; positive = not l.positive }

-- a literal is true where its variable has the truth value that it says
abbrev pub lit_true : (ℕ → Bool) → Lit → Bool
lit_true v l = cond l.positive (v l.variable) (not (v l.variable))

-- some literal is true
abbrev pub clause_true : (ℕ → Bool) → List Lit → Bool
clause_true v [] = false
clause_true v (l ∷ ls) = lit_true v l || clause_true v ls

-- no variable of the list is true
abbrev pub none_true : (ℕ → Bool) → List ℕ → Bool
none_true v [] = true
none_true v (x ∷ xs) = cond (v x) false (none_true v xs)

-- at most one variable of the list is true
abbrev pub group_true : (ℕ → Bool) → List ℕ → Bool
group_true v [] = true
group_true v (x ∷ xs) = cond (v x) (none_true v xs) (group_true v xs)

abbrev pub constraint_true : (ℕ → Bool) → Constraint → Bool
constraint_true v (Clause ls) = clause_true v ls
constraint_true v (AtMostOne xs) = group_true v xs

-- every constraint of the list is true
abbrev pub all_true : (ℕ → Bool) → List Constraint → Bool
all_true v [] = true
all_true v (c ∷ cs) = constraint_true v c && all_true v cs

-- a model of a formula: an assignment that makes every constraint true
abbrev pub Models : (ℕ → Bool) → Formula → Type 0
Models v f = all_true v f.constraints ≡ true

-- the assignment that a list of values gives to the variables 1, 2 and so on
abbrev pub assigned : List Bool → ℕ → Bool
assigned values x = slice_index_or values (x - 1) false
