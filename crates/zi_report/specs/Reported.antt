-- What a report on a choice says.
use Rattle.std.specs.Prelude.{◌≡◌, ℕ, List}
use Rattle.zi_proof.specs.declared.proof.Certificate.{Certificate}
use Rattle.zi_universe.specs.declared.types.Requirement.{Requirement}
use Rattle.zi_universe.specs.declared.types.Interface.{Interface}
use Rattle.zi_choice.specs.Choice.{Choice}
use Rattle.zi_choice.specs.Walk.{Walk, Walks}
use Rattle.zi_why.specs.declared.report.Report.{Report}
use Rattle.zi_why.specs.Reports.{AreReports}
use Rattle.zi_report.specs.Text.{report_text}

-- The text is that of the choice's walk and of the reports for a certificate's blocks.
pub record IsReported (u : List Interface) (req : Requirement) (s : Choice) (c : Certificate) (text : List ℕ) : Type 0 where
  pub walk : Walk
  pub walks : Walks u req s walk
  pub reports : List Report
  pub are : AreReports u req s c.blocks reports
  pub is : text ≡ report_text u walk.places reports
