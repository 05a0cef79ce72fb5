use Rattle.std.proofs.Common.{sym, ap, ◌∙◌, option_copied}
use Rattle.std.proofs.lemmas.Result.{IfOk-weaker}
use Rattle.zi_feed.specs.Impls.{with_main}
use Rattle.zi_feed.proofs.along.commands_along.Goals as goal

pub commands_and_main-requires : goal.commands_and_main-requires
commands_and_main-requires c = c.requires.run

pub returns : goal.returns
returns c = IfOk-weaker c.commands_and_main.result _ _ (λ cs h. h ∙ ap (with_main (option_copied c.args.main)) (sym c.requires.latest_alone)) c.commands_and_main.ensures
