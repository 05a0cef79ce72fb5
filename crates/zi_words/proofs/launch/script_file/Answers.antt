use Rattle.zi_words.specs.declared.request.Request.TheVariants as request
use Rattle.zi_words.proofs.LaunchLemmas.{launch_none, launch_right}
use Rattle.zi_words.proofs.launch.script_file.Goals as goal

pub returns-in_default : goal.returns-in_default
returns-in_default c = launch_none request.ScriptLaunch c.args.words.now c.in_default.ensures.cases

pub returns : goal.returns
returns c =
    launch_right request.ScriptLaunch c.args.words.now c.in-Some.behind.now c.in_ok-user.user c.in-Some.file.now c.in_ok-file.file c.in-Some.ensures.cases.0 c.in_ok-file.ensures c.in_ok-user.ensures
