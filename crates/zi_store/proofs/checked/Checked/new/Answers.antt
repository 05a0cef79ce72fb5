use Rattle.zi_store.proofs.KeptLemmas.{nothing_kept}
use Rattle.zi_store.proofs.checked.Checked.new.Goals as goal

pub returns : goal.returns
returns c = λ n kept. nothing_kept c.new.result c.new.ensures.empty n kept
