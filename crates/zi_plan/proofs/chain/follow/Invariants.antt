use Rattle.std.proofs.Common.{map}
use Rattle.zi_plan.specs.Steps.{has, wanted_seen, link_seen}
use Rattle.zi_plan.proofs.ChainLaws.{IsFollowed, unmet}
use Rattle.zi_plan.proofs.chain.follow.Given as goal

abbrev pub invariant-loop-link : goal.invariant-loop-link
invariant-loop-link l = IsFollowed l.table (wanted_seen l.from) (wanted_seen l.wanted) l.met.keys (map link_seen l.links.items)

abbrev pub decreases-loop-link : goal.decreases-loop-link
decreases-loop-link l = unmet (has l.met.keys) l.table
