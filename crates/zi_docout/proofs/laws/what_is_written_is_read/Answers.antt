use Rattle.zi_docout.proofs.BackLaws.{read_back}
use Rattle.zi_docout.proofs.laws.what_is_written_is_read.Goals as goal

pub returns : goal.returns
returns c = read_back c.one_answer.ensures
