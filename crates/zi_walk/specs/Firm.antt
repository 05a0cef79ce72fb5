-- What the decider has taken in of the trail, and which places of its walk stay as they are on every longer one.
use Rattle.std.specs.Prelude.{◌≡◌, ◌≤◌, ◌<◌, ◌⊎◌, ℕ, true, false, List, [], length, take, slice_get, Option, Some, None, IfSome, IfNone}
use Rattle.zi_formula.specs.declared.formula.Lit.{Lit}
use Rattle.zi_proof.specs.Known.{Known, is_open}
use Rattle.zi_sat.specs.declared.entry.Entry.{Entry}
use Rattle.zi_sat.specs.Trail.{known_from}
use Rattle.zi_sat.specs.Ends.{AreDecided}
use Rattle.zi_universe.specs.declared.types.Requirement.{Requirement}
use Rattle.zi_universe.specs.declared.types.Interface.{Interface}
use Rattle.zi_choice.specs.Tasks.{place_at}
use Rattle.zi_choice.specs.Vars.{Cand, candidates_of, var_number}
use Rattle.zi_walk.specs.Rule.{so_far, waits_at, or_else, as_lit, walk_picks}
use Rattle.zi_walk.specs.declared.path.Stop.{Stop}
use Rattle.zi_walk.specs.declared.standing.Standing.{Standing}
use Rattle.zi_walk.specs.declared.standing.Standing.TheVariants.{Settled, Stuck}
use Rattle.zi_walk.specs.declared.standing.Blocked.{Blocked}
use Rattle.zi_walk.specs.declared.standing.Blocked.TheVariants.{Open, Unsettled}
use Rattle.zi_walk.specs.declared.kept.Kept.{Kept}
use Rattle.zi_walk.specs.Kept.{Stand, stand_of, waiting, left_of, back_at, IsReady, IsEmpty, PathIs}

-- The candidate is known to be chosen, and those before it not to be; or, where there is none, all are known not to be chosen.
abbrev pub Firm : List Interface → Known → ℕ → Option ℕ → Type 0
Firm u k i None = (d : ℕ) → d < length (candidates_of u i) → k (var_number u (Cand i d)) ≡ Some false
Firm u k i (Some c) = (c < length (candidates_of u i)) × (k (var_number u (Cand i c)) ≡ Some true) × ((d : ℕ) → d < c → k (var_number u (Cand i d)) ≡ Some false)

-- as many entries as the place says make its choice firm
abbrev pub IsFirm : List Interface → List Entry → Stop → Type 0
IsFirm u es x = (x.known ≤ length es) × Firm u (known_from (take x.known es)) x.interface x.pick

abbrev pub AreFirm : List Interface → List Entry → List Stop → Type 0
AreFirm u es xs = (n : ℕ) (x : Stop) → slice_get xs n ≡ Some x → IsFirm u es x

-- the walk can go back, and each place that it followed is firm
pub record OnWay (u : List Interface) (req : Requirement) (es : List Entry) (z : Stand) : Type 0 where
  pub path : PathIs u req z
  pub firm : AreFirm u es z.stops

-- a literal of one of so many variables, which is undecided
abbrev pub IsUndecided : ℕ → Known → Lit → Type 0
IsUndecided n k l = (1 ≤ l.variable) × (l.variable ≤ n) × (is_open (k l.variable) ≡ true)

-- the literal that the first undecided candidate is chosen at the place, where none is known to be; else nothing is said
abbrev pub IsBlockedBy : List Interface → ℕ → Known → ℕ → Blocked → Type 0
IsBlockedBy u n k i (Open l) = (Some l ≡ as_lit u (or_else (waits_at u k (place_at (so_far u k) i)) i None)) × IsUndecided n k l
IsBlockedBy u n k i Unsettled = Unit {0}

abbrev pub StandsSo : List Interface → ℕ → Known → ℕ → Standing → Type 0
StandsSo u n k i (Settled o) = Firm u k i o
StandsSo u n k i (Stuck b) = IsBlockedBy u n k i b

-- the walk waits at a place that is so
abbrev pub IsBlocked : List Interface → ℕ → Known → Stand → Blocked → Type 0
IsBlocked u n k z b = (i : ℕ) × (waiting z ≡ Some i) × IsBlockedBy u n k i b

-- nothing is left to be done
pub record IsDone (z : Stand) : Type 0 where
  pub ready : IsReady z
  pub empty : left_of z ≡ []

-- the literal that the rule picks, which is undecided; none, only where all variables are decided
pub record IsPicked (u : List Interface) (req : Requirement) (n : ℕ) (es : List Entry) (r : Option Lit) : Type 0 where
  pub is : r ≡ walk_picks u req n (known_from es)
  pub undecided : IfSome r (λ l. IsUndecided n (known_from es) l)
  pub none : IfNone r (AreDecided n es)

-- the first places are made firm by so many entries
abbrev pub AreWithin : List Stop → ℕ → ℕ → Type 0
AreWithin xs n len = (m : ℕ) (x : Stop) → m < n → slice_get xs m ≡ Some x → x.known ≤ len

-- it stays where all are, else it goes back to one before which all are
abbrev pub GoesBack : Stand → Stand → ℕ → Type 0
GoesBack y z len = ((z ≡ y) × AreWithin y.stops (length y.stops) len) ⊎ ((n : ℕ) × (x : Stop) × (slice_get y.stops n ≡ Some x) × (z ≡ back_at y n x) × AreWithin y.stops n len)

-- its walk has come nowhere, or it is on its way by what was taken in; and up to the low mark all variables are decided by that
pub record KeptIs (u : List Interface) (req : Requirement) (k : Kept) : Type 0 where
  pub path : IsEmpty (stand_of k.path) ⊎ OnWay u req k.taken.items (stand_of k.path)
  pub low : AreDecided k.low k.taken.items
