-- What holds of reasons as such.
use Rattle.std.specs.Prelude.{◌≡◌, ◌≢◌, ℕ, suc, List, length, take, slice_get, Some}
use Rattle.zi_proof.specs.declared.proof.Block.{Block}
use Rattle.zi_proof.specs.declared.proof.Certificate.{Certificate}
use Rattle.zi_universe.specs.declared.types.Requirement.{Requirement}
use Rattle.zi_universe.specs.declared.types.Candidate.{Candidate}
use Rattle.zi_universe.specs.declared.types.Interface.{Interface}
use Rattle.zi_choice.specs.declared.traced.Stop.{Stop}
use Rattle.zi_choice.specs.declared.traced.Stop.TheVariants.{Came}
use Rattle.zi_choice.specs.Choice.{Choice, pick, candidate_at}
use Rattle.zi_choice.specs.Valid.{IsValid}
use Rattle.zi_choice.specs.Stops.{AreStops, AgreeBefore, places_of}
use Rattle.zi_choice.specs.Vars.{Cand, var_number}
use Rattle.zi_certificate.specs.Certificates.{Excludes}
use Rattle.zi_why.specs.Reasons.{reason}
use Rattle.zi_why.specs.declared.report.Reason.{Reason}
use Rattle.zi_why.specs.declared.report.Reason.TheVariants.{Version, Lacking, Bits, Against, Needs, Search}

-- a reason that speaks of no search
abbrev pub IsPlain : Reason → Type 0
IsPlain (Version by) = Unit {0}
IsPlain (Lacking command) = Unit {0}
IsPlain (Bits by) = Unit {0}
IsPlain (Against interface) = Unit {0}
IsPlain (Needs interface) = Unit {0}
IsPlain (Search hints) = ⊥

-- A place of the walk of a choice, by its stop, and a candidate of its interface.
pub record Passed (u : List Interface) (req : Requirement) (s : Choice) : Type 0 where
  pub stops : List Stop
  pub are : AreStops u req s stops
  pub at : ℕ
  pub interface : ℕ
  pub here : slice_get stops at ≡ Some (Came interface)
  pub number : ℕ
  pub candidate : Candidate
  pub there : candidate_at u interface number ≡ Some candidate

-- the number of the place, from 1: how many places are listed up to it
abbrev pub place_number : (u : List Interface) (req : Requirement) (s : Choice) → Passed u req s → ℕ
place_number u req s p = length (places_of s (take (suc p.at) p.stops))

abbrev pub reason_of : (u : List Interface) (req : Requirement) (s : Choice) → Passed u req s → ℕ → Reason
reason_of u req s p hints = reason u req s (take p.at p.stops) p.interface p.candidate hints

-- Where a reason that speaks of no search is given for a candidate at a place, no valid choice that agrees on all earlier
-- places has the candidate there.
abbrev pub ReasonsAreTrue : Type 0
ReasonsAreTrue =
    (u : List Interface) (req : Requirement) (s t : Choice) (p : Passed u req s) (hints : ℕ) → IsPlain (reason_of u req s p hints)
    → IsValid u req t → AgreeBefore p.stops p.at s t → pick t p.interface ≢ Some p.number

-- a block is that of a place and a candidate there
pub record IsBlockOf (u : List Interface) (req : Requirement) (s : Choice) (p : Passed u req s) (b : Block) : Type 0 where
  pub place : b.place ≡ place_number u req s p
  pub candidate : b.candidate ≡ var_number u (Cand p.interface p.number)

-- Where a certificate has a block for a candidate at a place, no valid choice that agrees on all earlier places has the
-- candidate there.
abbrev pub BlocksAreTrue : Type 0
BlocksAreTrue =
    (u : List Interface) (req : Requirement) (s t : Choice) (c : Certificate) (p : Passed u req s) (n : ℕ) (b : Block)
    → Excludes u req s c → slice_get c.blocks n ≡ Some b → IsBlockOf u req s p b
    → IsValid u req t → AgreeBefore p.stops p.at s t → pick t p.interface ≢ Some p.number
