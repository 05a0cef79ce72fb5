use Rattle.std.proofs.Common.{ap, ◌∙◌, option_copied}
use Rattle.std.proofs.lemmas.Result.{IfOk-weaker}
use Rattle.zi_feed.specs.Active.{kept_own}
use Rattle.zi_feed.proofs.along.own_of.Goals as goal

pub returns : goal.returns
returns c = IfOk-weaker c.kept_own.result _ _ (λ o h. h ∙ ap (kept_own (option_copied c.args.policy)) c.in_ok-own.ensures) c.kept_own.ensures
