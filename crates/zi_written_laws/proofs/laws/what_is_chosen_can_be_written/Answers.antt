use Rattle.zi_written_laws.proofs.EndLaws.{can_be_written}
use Rattle.zi_written_laws.proofs.laws.what_is_chosen_can_be_written.Goals as goal

pub returns : goal.returns
returns c = can_be_written c.what_is_read_keeps.ensures.chars
