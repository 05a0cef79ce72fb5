use Rattle.zi_shim_laws.proofs.SelectionLaws.{read_names, chosen_names}
use Rattle.zi_shim_laws.proofs.laws.names_of_shims_are_right.Goals as goal

pub returns-clause-read : goal.returns-clause-read
returns-clause-read c = read_names c.what_is_read_keeps.ensures.chars

pub returns-clause-chosen : goal.returns-clause-chosen
returns-clause-chosen c = chosen_names c.what_is_read_keeps.ensures.chars
