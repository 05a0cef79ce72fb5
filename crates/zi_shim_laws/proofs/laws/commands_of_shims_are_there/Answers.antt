use Rattle.zi_shim_laws.proofs.ProgramLaws.{chosen_programs}
use Rattle.zi_shim_laws.proofs.laws.commands_of_shims_are_there.Goals as goal

pub returns : goal.returns
returns c = chosen_programs
