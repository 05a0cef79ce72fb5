use Rattle.zi_universe.proofs.WholeLemmas.{same_task}
use Rattle.zi_refused.proofs.terms.Terms.new.Goals as goal

pub returns : goal.returns
returns c = same_task c.args.req.now c.args.policy.now c.in_ok-stored.stored.keys c.args.stored.now c.in_ok-rows.rows c.args.packages.now c.in_ok-stored.ensures c.in_ok-rows.ensures
