-- The rule of the walk's decider: which literal it picks, by what is known.
use Rattle.std.specs.Prelude.{ℕ, Bool, true, cond, List, [], ◌∷◌, suc, Option, Some, None}
use Rattle.zi_formula.specs.declared.formula.Lit.{Lit}
use Rattle.zi_universe.specs.declared.types.Requirement.{Requirement}
use Rattle.zi_universe.specs.declared.types.Interface.{Interface}
use Rattle.zi_choice.specs.Choice.{Choice}
use Rattle.zi_choice.specs.Walk.{Place, Walk}
use Rattle.zi_choice.proofs.ThereLaws.{walk_there}
use Rattle.zi_proof.specs.Known.{Known, says, is_open}
use Rattle.zi_sat.specs.Least.{first_of, least_open}
use Rattle.zi_choice.specs.Vars.{Var, Cand, candidates_of, var_number}
use Rattle.zi_build.specs.Clauses.{yes, lit_of}

-- the first place of a list, counted on from a number, that passes a test
abbrev pub first_where : {A : Type 0} → (ℕ → Bool) → ℕ → List A → Option ℕ
first_where test n [] = None
first_where test n (x ∷ xs) = cond (test n) (Some n) (first_where test (suc n) xs)

abbrev pub is_chosen : List Interface → Known → ℕ → ℕ → Bool
is_chosen u k i c = says (k (var_number u (Cand i c))) true

abbrev pub is_undecided : List Interface → Known → ℕ → ℕ → Bool
is_undecided u k i c = is_open (k (var_number u (Cand i c)))

-- what is known to be chosen, for each interface from a number on
abbrev pub chosen_from : List Interface → Known → ℕ → List Interface → Choice
chosen_from u k n [] = []
chosen_from u k n (x ∷ xs) = first_where (is_chosen u k n) 0 x.candidates ∷ chosen_from u k (suc n) xs

abbrev pub so_far : List Interface → Known → Choice
so_far u k = chosen_from u k 0 u

-- the walk of a choice, which has one and no other
abbrev pub walk_of : List Interface → Requirement → Choice → Walk
walk_of u req s = (walk_there u req s).0

-- the first undecided candidate at a place where none is chosen
abbrev pub open_at : List Interface → Known → Place → Option ℕ
open_at u k p = first_where (is_undecided u k p.interface) 0 (candidates_of u p.interface)

abbrev pub if_none : Option ℕ → Option ℕ → Option ℕ
if_none None o = o
if_none (Some c) o = None

abbrev pub waits_at : List Interface → Known → Place → Option ℕ
waits_at u k p = if_none p.pick (open_at u k p)

-- the first undecided candidate of the first undecided place
abbrev pub or_else : Option ℕ → ℕ → Option Var → Option Var
or_else None i r = r
or_else (Some c) i r = Some (Cand i c)

abbrev pub first_open : List Interface → Known → List Place → Option Var
first_open u k [] = None
first_open u k (p ∷ ps) = or_else (waits_at u k p) p.interface (first_open u k ps)

abbrev pub as_lit : List Interface → Option Var → Option Lit
as_lit u None = None
as_lit u (Some x) = Some (lit_of u (yes x))

-- The first undecided candidate in rank order at the first undecided place of the walk; once the walk is decided, the
-- opposite of the first undecided variable.
abbrev pub walk_picks : List Interface → Requirement → ℕ → Known → Option Lit
walk_picks u req n k = first_of (as_lit u (first_open u k (walk_of u req (so_far u k)).places)) (least_open n k)
