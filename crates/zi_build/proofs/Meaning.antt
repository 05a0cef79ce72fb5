-- What the constraints say of an assignment to the variables, family by family, as facts without clauses.
use Rattle.std.proofs.Common.{◌≡◌, ℕ, ◌<◌, Bool, true, false, List, [], ◌∷◌, length, Option, Some, None}
use Rattle.std.specs.Prelude.{slice_get}
use Rattle.zi_policy.specs.declared.types.Width.TheVariants.{Bits32, Bits64}
use Rattle.zi_parts.specs.declared.types.Dep.{Dep}
use Rattle.zi_parts.specs.declared.types.DepKind.TheVariants.{Essential}
use Rattle.zi_parts.specs.declared.types.Command.{Command}
use Rattle.zi_universe.specs.declared.types.Requirement.{Requirement}
use Rattle.zi_universe.specs.declared.types.Candidate.{Candidate}
use Rattle.zi_universe.specs.declared.types.Interface.{Interface}
use Rattle.zi_choice.specs.Choice.{number, needs_of, command_place}
use Rattle.zi_choice.specs.Walk.{wanted}
use Rattle.zi_choice.specs.Valid.{group}
use Rattle.zi_choice.specs.Vars.{Var, Cand, Cmd, Wide, candidates_of}
use Rattle.zi_build.specs.Clauses.{is_admitted, named_by}

-- the candidate of an interface, at its place
abbrev pub IsAt : List Interface → ℕ → ℕ → Candidate → Type 0
IsAt u i c k = slice_get (candidates_of u i) c ≡ Some k

-- the command is there, and its variable is true
abbrev pub UsesOne : (Var → Bool) → ℕ → ℕ → Option ℕ → Type 0
UsesOne w j e None = ⊥
UsesOne w j e (Some n) = w (Cmd j e n) ≡ true

abbrev pub Uses : (Var → Bool) → ℕ → ℕ → Candidate → List (List ℕ) → Type 0
Uses w j e k [] = Unit {0}
Uses w j e k (name ∷ names) = UsesOne w j e (command_place k name) × Uses w j e k names

-- an admitted candidate of the interface that a dependency is on is true
pub record HasOne (u : List Interface) (w : Var → Bool) (d : Dep) : Type 0 where
  pub interface : ℕ
  pub candidate : ℕ
  pub item : Candidate
  pub target : number u d.interface ≡ Some interface
  pub there : IsAt u interface candidate item
  pub admitted : is_admitted d item ≡ true
  pub is_true : w (Cand interface candidate) ≡ true

-- what a variable that is true needs where it needs a dependency
pub record DepMeans (u : List Interface) (w : Var → Bool) (d : Dep) : Type 0 where
  pub essential : d.kind ≡ Essential → HasOne u w d
  pub refused : (d.kind ≡ Essential → ⊥) → (j e : ℕ) (k : Candidate) → number u d.interface ≡ Some j → IsAt u j e k → w (Cand j e) ≡ true → is_admitted d k ≡ true
  pub named : (j e : ℕ) (k : Candidate) → number u d.interface ≡ Some j → IsAt u j e k → is_admitted d k ≡ true → w (Cand j e) ≡ true → Uses w j e k (named_by d)

abbrev pub AllMean : List Interface → (Var → Bool) → List Dep → Type 0
AllMean u w [] = Unit {0}
AllMean u w (d ∷ ds) = DepMeans u w d × AllMean u w ds

-- a candidate of the root is true
pub record HasRoot (u : List Interface) (w : Var → Bool) : Type 0 where
  pub candidate : ℕ
  pub item : Candidate
  pub there : IsAt u 0 candidate item
  pub is_true : w (Cand 0 candidate) ≡ true

abbrev pub AtMostOneOf : (Var → Bool) → ℕ → ℕ → Type 0
AtMostOneOf w i n = (c d : ℕ) → c < n → d < n → w (Cand i c) ≡ true → w (Cand i d) ≡ true → c ≡ d

-- what the constraints of one candidate say
pub record CandidateMeans (u : List Interface) (w : Var → Bool) (i c : ℕ) (k : Candidate) : Type 0 where
  pub bits64 : w (Cand i c) ≡ true → group k ≡ Bits64 → w Wide ≡ true
  pub bits32 : w (Cand i c) ≡ true → group k ≡ Bits32 → w Wide ≡ false
  pub deps : w (Cand i c) ≡ true → AllMean u w k.imp.deps
  pub commands : (n : ℕ) (m : Command) → slice_get k.imp.commands n ≡ Some m → w (Cmd i c n) ≡ true → (w (Cand i c) ≡ true) × AllMean u w (needs_of m)

pub record Means (u : List Interface) (req : Requirement) (w : Var → Bool) : Type 0 where
  pub root : HasRoot u w
  pub root_has : (c : ℕ) (k : Candidate) → IsAt u 0 c k → w (Cand 0 c) ≡ true → Uses w 0 c k (wanted req.command)
  pub one : (i : ℕ) → AtMostOneOf w i (length (candidates_of u i))
  pub each : (i c : ℕ) (k : Candidate) → IsAt u i c k → CandidateMeans u w i c k
