-- What a search by the rule finds.
use Rattle.std.specs.Prelude.{◌≡◌, ◌⊎◌, ℕ, true, List, [], Some, None, IsSome, All}
use Rattle.zi_formula.specs.Truth.{Models}
use Rattle.zi_proof.specs.declared.proof.Lemma.{Lemma}
use Rattle.zi_proof.specs.Known.{nothing}
use Rattle.zi_proof.specs.Accepted.{citable, follows}
use Rattle.zi_sat.specs.declared.entry.Entry.{Entry}
use Rattle.zi_sat.specs.Trail.{lits_of, OpenAll}
use Rattle.zi_sat.specs.Moves.{Lawful}
use Rattle.zi_sat.specs.Ends.{values_of, AreDecided, NoModelHere}
use Rattle.zi_universe.specs.declared.types.Requirement.{Requirement}
use Rattle.zi_universe.specs.declared.types.Interface.{Interface}
use Rattle.zi_choice.specs.Choice.{Choice, Fits, pick, candidate_at}
use Rattle.zi_choice.specs.Walk.{Place, Walk, Walks, is_listed}
use Rattle.zi_choice.specs.Valid.{IsValid}
use Rattle.zi_choice.specs.Best.{IsBest}
use Rattle.zi_choice.specs.Vars.{Cand, var_count, var_number, candidates_of}
use Rattle.zi_build.specs.Clauses.{formula}
use Rattle.zi_walk.specs.Rule.{walk_picks}

-- The choice of a trail: the true candidates of the interfaces to which its own walk comes.
pub record IsHeld (u : List Interface) (req : Requirement) (es : List Entry) (s : Choice) : Type 0 where
  pub fits : Fits u s
  pub walk : Walk
  pub walks : Walks u req s walk
  pub are_true : (i c : ℕ) → pick s i ≡ Some c → (is_listed walk i ≡ true) × IsSome (candidate_at u i c) × (values_of es (var_number u (Cand i c)) ≡ true)
  pub are_chosen : (i c : ℕ) → is_listed walk i ≡ true → IsSome (candidate_at u i c) → values_of es (var_number u (Cand i c)) ≡ true → pick s i ≡ Some c

-- A trail that came about by the rule, on which every variable is decided and whose values are a model: its choice is the
-- best one.
abbrev pub SearchFindsBest : Type 0
SearchFindsBest =
    (u : List Interface) (req : Requirement) (ms : List Lemma) (es : List Entry) (s : Choice) →
    follows (formula u req) ms ≡ true →
    Lawful (citable (formula u req).constraints ms) (formula u req).constraints (walk_picks u req (var_count u)) es →
    OpenAll nothing (lits_of es) →
    AreDecided (var_count u) es →
    Models (values_of es) (formula u req) →
    IsHeld u req es s →
    IsBest u req s

-- the first candidate of the interface is chosen; none where there is no candidate
abbrev pub IsFirst : List Interface → Place → Type 0
IsFirst u p = (p.pick ≡ Some 0) ⊎ ((p.pick ≡ None) × (candidates_of u p.interface ≡ []))

-- Where the choice with the first candidate at every place of its walk is valid, some model has all literals of a trail that
-- came about by the rule: so a search doesn't stop there.
abbrev pub FirstIsKept : Type 0
FirstIsKept =
    (u : List Interface) (req : Requirement) (ms : List Lemma) (es : List Entry) (s : Choice) →
    follows (formula u req) ms ≡ true →
    Lawful (citable (formula u req).constraints ms) (formula u req).constraints (walk_picks u req (var_count u)) es →
    OpenAll nothing (lits_of es) →
    (valid : IsValid u req s) →
    All (IsFirst u) valid.walk.places →
    ¬ NoModelHere (formula u req) es
