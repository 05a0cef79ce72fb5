use Rattle.zi_words.proofs.StoreLemmas.{verify_wrong, verify_ended}
use Rattle.zi_words.proofs.store.verify.Goals as goal

pub returns-in-Err : goal.returns-in-Err
returns-in-Err c = verify_wrong c.args.words.now c.in-Err.refusal c.in-Err.ensures

pub returns : goal.returns
returns c = verify_ended c.args.words.now c.in-Ok.read.1.now c.in-Ok.read.0 c.ended.result c.in-Ok.ensures.0 c.in-Ok.ensures.1 c.ended.ensures
