-- The constraints of a universe and a requirement, in their order, by what their literals say, and then as a formula.
use Rattle.std.specs.Prelude.{ℕ, zero, suc, ◌==◌, ◌+◌, Bool, true, false, not, cond, ◌&&◌, if◌then◌else◌, List, [], ◌∷◌, ◌++◌, length, map, bytes_eq, Option, Some, None}
use Rattle.std.specs.List.{list_all, position_from}
use Rattle.zi_version.specs.Range.{admits}
use Rattle.zi_policy.specs.declared.types.Width.{Width}
use Rattle.zi_policy.specs.declared.types.Width.TheVariants.{Any, Bits32, Bits64}
use Rattle.zi_parts.specs.declared.types.Dep.{Dep}
use Rattle.zi_parts.specs.declared.types.DepKind.{DepKind}
use Rattle.zi_parts.specs.declared.types.DepKind.TheVariants.{Essential, Recommended, Restricts}
use Rattle.zi_parts.specs.declared.types.Command.{Command}
use Rattle.zi_universe.specs.declared.types.Requirement.{Requirement}
use Rattle.zi_universe.specs.declared.types.Candidate.{Candidate}
use Rattle.zi_universe.specs.declared.types.Interface.{Interface}
use Rattle.zi_universe.specs.Candidates.{asks}
use Rattle.zi_choice.specs.Choice.{number, needs_of}
use Rattle.zi_choice.specs.Valid.{group}
use Rattle.zi_formula.specs.declared.formula.Lit.{Lit}
use Rattle.zi_formula.specs.declared.formula.Constraint.{Constraint}
use Rattle.zi_formula.specs.declared.formula.Constraint.TheVariants.{Clause, AtMostOne}
use Rattle.zi_formula.specs.declared.formula.Formula.{Formula}
use Rattle.zi_choice.specs.Vars.{Var, Cand, Cmd, Wide, candidates_of, var_number, var_count}

abbrev pub same_var : Var → Var → Bool
same_var (Cand i c) (Cand j d) = i == j && c == d
same_var (Cand i c) (Cmd j d n) = false
same_var (Cand i c) Wide = false
same_var (Cmd i c m) (Cand j d) = false
same_var (Cmd i c m) (Cmd j d n) = i == j && (c == d && m == n)
same_var (Cmd i c m) Wide = false
same_var Wide (Cand j d) = false
same_var Wide (Cmd j d n) = false
same_var Wide Wide = true

-- A literal by what it says: the variable holds, or doesn't.
pub record Says : Type 0 where
  pub of : Var
  pub holds : Bool

abbrev pub yes : Var → Says
yes x = record { of = x; holds = true }

abbrev pub no : Var → Says
no x = record { of = x; holds = false }

-- A constraint by what it says: one of these is so, or at most one of these holds.
pub data Rule : Type 0 where
  Some_of : List Says → Rule
  One_of : List Var → Rule

abbrev pub same_says : Says → Says → Bool
same_says l m = same_var l.of m.of && cond l.holds m.holds (not m.holds)

abbrev pub without : Says → List Says → List Says
without l [] = []
without l (m ∷ ms) = cond (same_says l m) (without l ms) (m ∷ without l ms)

-- a literal that would stand twice stands once, at its first place
abbrev pub once : List Says → List Says
once [] = []
once (l ∷ ls) = l ∷ without l (once ls)

abbrev pub clause : List Says → Rule
clause ls = Some_of (once ls)

-- what is said of each item by its place, the first with this one, one after another
abbrev pub each : {A B : Type 0} → ℕ → (ℕ → A → List B) → List A → List B
each n f [] = []
each n f (x ∷ xs) = f n x ++ each (suc n) f xs

abbrev pub keep : {A : Type 0} → Bool → A → List A
keep true x = x ∷ []
keep false x = []

-- the version is admitted by every range of the dependency
abbrev pub is_admitted : Dep → Candidate → Bool
is_admitted d k = list_all (λ r. admits r k.imp.version) d.ranges

-- what is said of each candidate at the interface of a number; nothing where there is none
abbrev pub at_target : {B : Type 0} → List Interface → (ℕ → ℕ → Candidate → List B) → Option ℕ → List B
at_target u f None = []
at_target u f (Some j) = each 0 (f j) (candidates_of u j)

-- what is said of each candidate of the interface that a dependency is on
abbrev pub among : {B : Type 0} → List Interface → Dep → (ℕ → ℕ → Candidate → List B) → List B
among u d f = at_target u f (number u d.interface)

abbrev pub admitted_one : Dep → ℕ → ℕ → Candidate → List Says
admitted_one d j e k = keep (is_admitted d k) (yes (Cand j e))

abbrev pub refused_one : Var → Dep → ℕ → ℕ → Candidate → List Rule
refused_one y d j e k = keep (not (is_admitted d k)) (clause (no y ∷ no (Cand j e) ∷ []))

-- An essential dependency has one of the admitted candidates; any other one none of those that aren't admitted.
abbrev pub admission : List Interface → Var → Dep → DepKind → List Rule
admission u y d Essential = clause (no y ∷ among u d (admitted_one d)) ∷ []
admission u y d Recommended = among u d (refused_one y d)
admission u y d Restricts = among u d (refused_one y d)

-- the place of the command of a name among those of a candidate
abbrev pub command_place : Candidate → List ℕ → Option ℕ
command_place k name = position_from (λ (m : Command). bytes_eq m.name name) 0 k.imp.commands

-- the literal that the command of a candidate is used, where it has one
abbrev pub having : ℕ → ℕ → Option ℕ → List Says
having j e None = []
having j e (Some m) = yes (Cmd j e m) ∷ []

abbrev pub named_one : Var → Dep → List ℕ → ℕ → ℕ → Candidate → List Rule
named_one y d name j e k =
    keep (is_admitted d k) (clause (no y ∷ no (Cand j e) ∷ having j e (command_place k name)))

abbrev pub naming : List Interface → Var → Dep → List (List ℕ) → List Rule
naming u y d [] = []
naming u y d (name ∷ names) = among u d (named_one y d name) ++ naming u y d names

-- the commands that a dependency names; one that only restricts names none
abbrev pub named_by : Dep → List (List ℕ)
named_by d = if asks d then d.commands else []

-- what a variable needs where it needs a dependency
abbrev pub need : List Interface → Var → Dep → List Rule
need u y d = admission u y d d.kind ++ naming u y d (named_by d)

abbrev pub needs : List Interface → Var → List Dep → List Rule
needs u y [] = []
needs u y (d ∷ ds) = need u y d ++ needs u y ds

abbrev pub of_width : Var → Width → List Rule
of_width y Any = []
of_width y Bits32 = clause (no y ∷ no Wide ∷ []) ∷ []
of_width y Bits64 = clause (no y ∷ yes Wide ∷ []) ∷ []

abbrev pub of_command : List Interface → ℕ → ℕ → ℕ → Command → List Rule
of_command u i c n m = clause (no (Cmd i c n) ∷ yes (Cand i c) ∷ []) ∷ needs u (Cmd i c n) (needs_of m)

abbrev pub of_candidate : List Interface → ℕ → ℕ → Candidate → List Rule
of_candidate u i c k =
    of_width (Cand i c) (group k) ++ (needs u (Cand i c) k.imp.deps ++ each 0 (of_command u i c) k.imp.commands)

abbrev pub of_interface : List Interface → ℕ → Interface → List Rule
of_interface u i x = each 0 (of_candidate u i) x.candidates

abbrev pub two_or_more : ℕ → Bool
two_or_more zero = false
two_or_more (suc zero) = false
two_or_more (suc (suc n)) = true

abbrev pub one_var : ℕ → ℕ → Candidate → List Var
one_var i c k = Cand i c ∷ []

abbrev pub group_of : ℕ → Interface → List Rule
group_of i x = keep (two_or_more (length x.candidates)) (One_of (each 0 (one_var i) x.candidates))

abbrev pub root_one : ℕ → Candidate → List Says
root_one c k = yes (Cand 0 c) ∷ []

abbrev pub wanted_one : List ℕ → ℕ → Candidate → List Rule
wanted_one name c k = clause (no (Cand 0 c) ∷ having 0 c (command_place k name)) ∷ []

abbrev pub of_requirement : List Interface → Option (List ℕ) → List Rule
of_requirement u None = []
of_requirement u (Some name) = each 0 (wanted_one name) (candidates_of u 0)

-- the constraints in their order
abbrev pub rules : List Interface → Requirement → List Rule
rules u req =
    clause (each 0 root_one (candidates_of u 0)) ∷ (of_requirement u req.command ++ (each 0 group_of u ++ each 0 (of_interface u) u))

abbrev pub lit_of : List Interface → Says → Lit
lit_of u l = record { variable = var_number u l.of; positive = l.holds }

abbrev pub constraint_of : List Interface → Rule → Constraint
constraint_of u (Some_of ls) = Clause (map (lit_of u) ls)
constraint_of u (One_of xs) = AtMostOne (map (var_number u) xs)

abbrev pub formula : List Interface → Requirement → Formula
formula u req = record { variables = var_count u; constraints = map (constraint_of u) (rules u req) }

-- the literals that are counted against the limit
abbrev pub size_of : Constraint → ℕ
size_of (Clause ls) = length ls
size_of (AtMostOne xs) = length xs

abbrev pub literals : List Constraint → ℕ
literals [] = zero
literals (c ∷ cs) = size_of c + literals cs

abbrev pub most_literals : ℕ
most_literals = 8000000
