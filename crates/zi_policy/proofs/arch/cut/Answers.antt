use Rattle.zi_policy.proofs.ArchLemmas.{cut_parts}
use Rattle.zi_policy.proofs.arch.cut.Goals as goal

pub returns : goal.returns
returns c = cut_parts c.args.text.now c.split_once.result c.split_once.ensures.cases
