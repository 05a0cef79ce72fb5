use Rattle.zi_words.proofs.StoreLemmas.{add_wrong, add_files_wrong, add_right}
use Rattle.zi_words.proofs.store.add.Goals as goal

pub returns-in-Err : goal.returns-in-Err
returns-in-Err c = add_wrong c.args.words.now c.in-Err.refusal c.in-Err.ensures

pub returns-in-Ok-paths : goal.returns-in-Ok-paths
returns-in-Ok-paths c =
    add_right c.args.words.now c.in-Ok.read.1.now c.in-Ok-paths.files c.in-Ok.read.0 c.in-Ok.ensures.0 c.in-Ok.ensures.1 c.in-Ok-paths.ensures

pub returns-in-Err-paths : goal.returns-in-Err-paths
returns-in-Err-paths c =
    add_files_wrong c.args.words.now c.in-Ok.read.1.now c.in-Ok.read.0 c.in-Err-paths.refusal c.in-Ok.ensures.0 c.in-Ok.ensures.1 c.in-Err-paths.ensures
