-- A report for each block of a certificate.
use Rattle.std.specs.Prelude.{◌≡◌, List, length}
use Rattle.zi_proof.specs.declared.proof.Block.{Block}
use Rattle.zi_universe.specs.declared.types.Requirement.{Requirement}
use Rattle.zi_universe.specs.declared.types.Interface.{Interface}
use Rattle.zi_choice.specs.Choice.{Choice}
use Rattle.zi_choice.specs.Tables.{Each}
use Rattle.zi_why.specs.Laws.{Passed, IsBlockOf, reason_of}
use Rattle.zi_why.specs.declared.report.Report.{Report}

-- A report is that of a block: it has the block's place and candidate, and the reason of that candidate there.
pub record IsReport (u : List Interface) (req : Requirement) (s : Choice) (b : Block) (r : Report) : Type 0 where
  pub passed : Passed u req s
  pub of : IsBlockOf u req s passed b
  pub place : r.place ≡ b.place
  pub candidate : r.candidate ≡ b.candidate
  pub is : r.reason ≡ reason_of u req s passed (length b.hints)

-- one for each, in order
abbrev pub AreReports : List Interface → Requirement → Choice → List Block → List Report → Type 0
AreReports u req s bs rs = Each (IsReport u req s) bs rs

-- a block has one report at most
abbrev pub ReportIsOne : Type 0
ReportIsOne =
    (u : List Interface) (req : Requirement) (s : Choice) (b : Block) (r q : Report) → IsReport u req s b r → IsReport u req s b q → r ≡ q
