use Rattle.zi_due.proofs.CrowdedLemmas.{taken_finds_none}
use Rattle.zi_due.proofs.AddingEnds.{add_command}
use Rattle.zi_due.proofs.PurgingEnds.{purge_command}
use Rattle.zi_due.proofs.LaunchEnds.{launch_ends}
use Rattle.zi_due.proofs.ChosenEnds.{download_command, run_command}
use Rattle.zi_due.proofs.CompleteLemmas.{completes}
use Rattle.zi_due.proofs.laws.taken_finds_none.Goals as goal

pub returns : goal.returns
returns c = taken_finds_none
