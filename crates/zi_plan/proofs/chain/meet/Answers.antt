use Rattle.std.proofs.Common.{◌∙◌}
use Rattle.zi_plan.specs.Chain.{is_same}
use Rattle.zi_plan.specs.Steps.{has, wanted_seen}
use Rattle.zi_plan.proofs.TableLaws.{wanted_for}
use Rattle.zi_feed.proofs.LatestLaws.{cond_or}
use Rattle.zi_plan.proofs.chain.meet.Goals as goal

pub returns : goal.returns
returns c = λ other. c.in_ok-insert.ensures.updates.0 (wanted_for other) ∙ cond_or (is_same (wanted_seen c.args.wanted) other) (has c.args.met.now.keys other)
