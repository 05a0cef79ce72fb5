use Rattle.zi_universe.proofs.WholeLemmas.{same_task}
use Rattle.zi_universe.proofs.wanted.Wanted.new.Goals as goal

pub invariant_of-result : goal.invariant_of-result
invariant_of-result c = (rw c.as_slice.ensures at c.in_ok-stabilities.ensures, rw c.as_slice-2.ensures at c.in_ok-limits.ensures)

pub returns : goal.returns
returns c = same_task c.args.req.now c.args.policy.now c.in_ok-stored.stored.keys c.args.stored.now c.in_ok-rows.rows c.args.packages.now c.in_ok-stored.ensures c.in_ok-rows.ensures
