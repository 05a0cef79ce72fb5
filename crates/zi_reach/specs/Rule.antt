-- The rule of the decider: which literal it picks, by what is known. `n` is the number of variables and `k` what is known.
use Rattle.std.specs.Prelude.{◌≡◌, ◌≤◌, ℕ, Bool, true, false, cond, ◌&&◌, ◌||◌, nat_le, List, [], ◌∷◌, Option, Some, None, is_some, slice_get}
use Rattle.zi_formula.specs.declared.formula.Lit.{Lit}
use Rattle.zi_proof.specs.Known.{Known, is_open}
use Rattle.zi_sat.specs.Least.{least_open}
use Rattle.zi_reach.specs.declared.rule.Face.{Face}
use Rattle.zi_reach.specs.declared.rule.Turn.{Turn}

-- what the first item gives that gives anything
abbrev pub or_else : Option ℕ → Option ℕ → Option ℕ
or_else None o = o
or_else (Some x) o = Some x

abbrev pub first_given : {A : Type 0} → (A → Option ℕ) → List A → Option ℕ
first_given f [] = None
first_given f (x ∷ xs) = or_else (f x) (first_given f xs)

-- it is one of the variables
abbrev pub within : ℕ → ℕ → Bool
within n x = nat_le 1 x && nat_le x n

-- the variable, where it is true; where it is undecided
abbrev pub true_by : Option Bool → ℕ → Option ℕ
true_by None x = None
true_by (Some true) x = Some x
true_by (Some false) x = None

abbrev pub open_by : Option Bool → ℕ → Option ℕ
open_by None x = Some x
open_by (Some b) x = None

abbrev pub if_true : ℕ → Known → ℕ → Option ℕ
if_true n k x = cond (within n x) (true_by (k x) x) None

abbrev pub if_open : ℕ → Known → ℕ → Option ℕ
if_open n k x = cond (within n x) (open_by (k x) x) None

abbrev pub IsUndecided : ℕ → Known → ℕ → Type 0
IsUndecided n k x = (1 ≤ x) × (x ≤ n) × (is_open (k x) ≡ true)

-- one of its candidates is chosen
abbrev pub is_chosen : ℕ → Known → Face → Bool
is_chosen n k f = is_some (first_given (if_true n k) f.variables)

-- it is wanted in any case, or one of those that want it is chosen
abbrev pub is_wanted : ℕ → Known → Face → Bool
is_wanted n k f = f.root || is_some (first_given (if_true n k) f.wanted_by)

abbrev pub wished : ℕ → Known → Option ℕ → Option ℕ
wished n k None = None
wished n k (Some x) = if_open n k x

-- where it is wanted and none of its candidates is chosen: the wished one, or the first, that is undecided
abbrev pub of_face : ℕ → Known → Option ℕ → Face → Option ℕ
of_face n k wish f =
    cond (is_chosen n k f) None (cond (is_wanted n k f) (or_else (wished n k wish) (first_given (if_open n k) f.variables)) None)

abbrev pub of_found : ℕ → Known → Option ℕ → Option Face → Option ℕ
of_found n k wish None = None
of_found n k wish (Some f) = of_face n k wish f

abbrev pub of_turn : ℕ → Known → List Face → Turn → Option ℕ
of_turn n k fs t = of_found n k t.wish (slice_get fs t.face)

abbrev pub picked : Option ℕ → Option Lit → Option Lit
picked None r = r
picked (Some x) r = Some (record { variable = x; positive = true })

-- that candidate of the first interface in the order which has one; else the opposite of the first undecided variable
abbrev pub reach_picks : List Face → List Turn → ℕ → Known → Option Lit
reach_picks fs ts n k = picked (first_given (of_turn n k fs) ts) (least_open n k)
