-- The numbers of variables as a table, and the constraints of a formula as they are counted or written one after another.
use Rattle.std.specs.Prelude.{◌≡◌, ℕ, ◌+◌, nat_lt, ◌<◌, ◌≤◌, ◌^◌, Bool, true, List, [], ◌∷◌, ◌++◌, map}
use Rattle.zi_universe.specs.declared.types.Interface.{Interface}
use Rattle.zi_formula.specs.declared.formula.Constraint.{Constraint}
use Rattle.zi_build.specs.declared.variables.Variable.{Variable}
use Rattle.zi_build.specs.declared.variables.Variable.TheVariants.{Choosing, Using, SixtyFour}
use Rattle.zi_build.specs.declared.variables.VariableTable.{VariableTable}
use Rattle.zi_build.specs.declared.writing.Writer.{Writer}
use Rattle.zi_build.specs.declared.writing.Plan.{Plan}
use Rattle.zi_choice.specs.Vars.{Var, Cand, Cmd, Wide, total, own_candidates, own_commands, all_commands, var_count}
use Rattle.zi_build.specs.Clauses.{Rule, constraint_of, literals, most_literals}

-- a variable as a value
abbrev pub as_var : Variable → Var
as_var (Choosing i c) = Cand i c
as_var (Using i c m) = Cmd i c m
as_var SixtyFour = Wide

-- Where each item's numbers begin, where each takes so many and the first item's begin here.
abbrev pub starts : {A : Type 0} → (A → ℕ) → ℕ → List A → List ℕ
starts f n [] = []
starts f n (x ∷ xs) = n ∷ starts f (n + f x) xs

-- the same of the commands of each candidate, interface by interface
abbrev pub command_starts : ℕ → List Interface → List (List ℕ)
command_starts n [] = []
command_starts n (x ∷ u) = starts own_commands n x.candidates ∷ command_starts (n + all_commands x) u

-- The numbers of each interface's first candidate, of each candidate's first command, and of the last variable.
pub record IsTable (u : List Interface) (t : VariableTable) : Type 0 where
  pub candidates : t.candidates ≡ starts own_candidates 1 u
  pub commands : t.commands ≡ command_starts (1 + total own_candidates u) u
  pub last : t.last ≡ var_count u
  pub few : var_count u < 2 ^ 32

abbrev pub plan_of : Plan → List Interface
plan_of p = p.universe.now

-- what is written for a universe stands on tables of it
pub record IsPlan (p : Plan) : Type 0 where
  pub names : p.names.now ≡ plan_of p
  pub table : IsTable (plan_of p) p.table.now

-- the limit is passed
abbrev pub is_full : Writer → Bool
is_full w = nat_lt most_literals w.size

-- These constraints have been counted, and kept if they are to be, as long as their literals are within the limit.
pub record Holds (keeps : Bool) (w : Writer) (cs : List Constraint) : Type 0 where
  pub few : w.size ≤ most_literals → (literals cs ≡ w.size) × (keeps ≡ true → w.constraints ≡ cs)
  pub many : most_literals < w.size → most_literals < literals cs

-- These are behind those that were.
abbrev pub Puts : Bool → Writer → List Constraint → Writer → Type 0
Puts keeps v ds w = (cs : List Constraint) → Holds keeps v cs → Holds keeps w (cs ++ ds)

-- The constraints of these rules are.
abbrev pub Adds : Bool → List Interface → Writer → List Rule → Writer → Type 0
Adds keeps u v rs w = Puts keeps v (map (constraint_of u) rs) w
