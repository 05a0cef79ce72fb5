use Rattle.zi_words.proofs.PieceLemmas.{no_slash, past_slash}
use Rattle.zi_words.proofs.store.behind_slash.Goals as goal

pub returns-in-None : goal.returns-in-None
returns-in-None c = no_slash c.args.path.now c.split_once.result c.split_once.ensures.cases c.in-None.is

pub returns-in-Some : goal.returns-in-Some
returns-in-Some c = past_slash c.args.path.now c.in-Some.field-0-0 c.in-Some.behind c.in-Some.ensures.cases
