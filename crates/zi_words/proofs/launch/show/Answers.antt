use Rattle.zi_words.proofs.LaunchLemmas.{show_none, show_ended}
use Rattle.zi_words.proofs.launch.show.Goals as goal

pub returns-in_default : goal.returns-in_default
returns-in_default c = show_none c.args.words.now c.in_default.ensures.cases

pub returns : goal.returns
returns c =
    show_ended c.args.words.now c.in-Some.behind.now c.in-Some.word.now c.in_ok-file.file c.ended.result c.in-Some.ensures.cases.0 c.in_ok-file.ensures c.ended.ensures
