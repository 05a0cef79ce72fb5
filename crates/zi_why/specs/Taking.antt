-- Blocks that are gone through one by one, each with its report.
use Rattle.std.specs.Prelude.{◌≡◌, ℕ, suc, List, [], ◌∷◌, ◌++◌, length, take, drop}
use Rattle.zi_proof.specs.declared.proof.Block.{Block}
use Rattle.zi_universe.specs.declared.types.Candidate.{Candidate}
use Rattle.zi_universe.specs.declared.types.Requirement.{Requirement}
use Rattle.zi_universe.specs.declared.types.Interface.{Interface}
use Rattle.zi_choice.specs.declared.traced.Stop.{Stop}
use Rattle.zi_choice.specs.declared.traced.Stop.TheVariants.{Came, Needed}
use Rattle.zi_choice.specs.Choice.{Choice, pick}
use Rattle.zi_choice.specs.Stops.{places_of}
use Rattle.zi_choice.specs.Vars.{Cand, candidates_of, var_number}
use Rattle.zi_choice.specs.Tables.{Each}
use Rattle.zi_build.specs.Clauses.{each, keep}
use Rattle.zi_certificate.specs.Certificates.{is_passed}
use Rattle.zi_why.specs.declared.report.Report.{Report}
use Rattle.zi_why.specs.declared.setting.Setting.{Setting}
use Rattle.zi_why.specs.Known.{universe_of, picks_of}
use Rattle.zi_why.specs.Reports.{AreReports}

-- what a block is of: the number of its place, and the candidate's variable
pub record Due : Type 0 where
  pub place : ℕ
  pub candidate : ℕ

abbrev pub due_one : List Interface → Choice → ℕ → ℕ → ℕ → Candidate → List Due
due_one u s n i c k = keep (is_passed (pick s i) c) (record { place = n; candidate = var_number u (Cand i c) })

abbrev pub due_at : List Interface → Choice → ℕ → ℕ → List Due
due_at u s n i = each 0 (due_one u s n i) (candidates_of u i)

-- the blocks that are due for these stops, the first place having this number
abbrev pub due_from : List Interface → Choice → ℕ → List Stop → List Due
due_from u s n [] = []
due_from u s n (Came i ∷ xs) = due_at u s n i ++ due_from u s (suc n) xs
due_from u s n (Needed i name ∷ xs) = due_from u s n xs

abbrev pub IsDue : Due → Block → Type 0
IsDue d b = (b.place ≡ d.place) × (b.candidate ≡ d.candidate)

-- The blocks up to one have their reports, and from there on these are due.
pub record Reported (u : List Interface) (req : Requirement) (s : Choice) (bs : List Block) (ds : List Due) (rs : List Report) : Type 0 where
  pub done : List Block
  pub left : List Block
  pub are : bs ≡ done ++ left
  pub reports : AreReports u req s done rs
  pub due : Each IsDue ds left

abbrev pub ReportedOn : Setting → List Due → List Report → Type 0
ReportedOn on ds rs = Reported (universe_of on) on.req.now (picks_of on) on.blocks.now ds rs

-- the reports for these come to the others
abbrev pub Took : Setting → List Due → List Report → List Report → Type 0
Took on ds a b = (more : List Due) → ReportedOn on (ds ++ more) a → ReportedOn on more b

-- the number of the place of a stop
abbrev pub place_at : Setting → ℕ → ℕ
place_at on n = length (places_of (picks_of on) (take (suc n) on.stops.now))

-- the number of the next place, behind the stops before one
abbrev pub next_place : Setting → ℕ → ℕ
next_place on n = suc (length (places_of (picks_of on) (take n on.stops.now)))

abbrev pub due_left : Setting → ℕ → List Due
due_left on n = due_from (universe_of on) (picks_of on) (next_place on n) (drop n on.stops.now)
