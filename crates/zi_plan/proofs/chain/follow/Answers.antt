use Rattle.std.proofs.Common.{map, ap}
use Rattle.zi_plan.specs.Steps.{wanted_seen, link_seen}
use Rattle.zi_plan.proofs.ChainLaws.{followed_start, followed_refused, followed_more, followed_end, fewer}
use Rattle.zi_plan.proofs.chain.follow.Goals as goal

pub loop-link-init : goal.loop-link-init
loop-link-init c = followed_start c.args.table.now (wanted_seen c.args.from) c.new-met.result.keys (map link_seen c.new-links.result.items) c.new-met.ensures.empty (ap (map link_seen) c.new-links.ensures.items)

pub returns-in-Err : goal.returns-in-Err
returns-in-Err c =
    followed_refused c.args.table.now (wanted_seen c.args.from) (wanted_seen c.loop-link.wanted) c.loop-link.met.keys (map link_seen c.loop-link.links.items) c.loop-link.invariant
    c.in-Err.fault c.in-Err.ensures.says

pub returns-in-None : goal.returns-in-None
returns-in-None c =
    followed_end c.args.table.now (wanted_seen c.args.from) (wanted_seen c.loop-link.wanted) c.loop-link.met.keys (map link_seen c.loop-link.links.items) c.loop-link.invariant
    (link_seen c.in-Ok.link) c.in-Ok.ensures.says c.in-None.is (map link_seen c.add_link.new.links.items) c.in_ok-add_link.ensures

pub loop-link-preserved : goal.loop-link-preserved
loop-link-preserved c =
    followed_more c.args.table.now (wanted_seen c.args.from) (wanted_seen c.loop-link.wanted) c.loop-link.met.keys (map link_seen c.loop-link.links.items) c.loop-link.invariant
    (link_seen c.in-Ok.link) c.in-Some.runner c.visit.new.met.keys c.in-Ok.ensures.says c.in-Some.is c.in-Ok.ensures.met
    (wanted_seen c.asked_by-wanted.result) c.asked_by-wanted.ensures (map link_seen c.add_link.new.links.items) c.in_ok-add_link.ensures

pub loop-link-smaller : goal.loop-link-smaller
loop-link-smaller c =
    fewer c.args.table.now (wanted_seen c.loop-link.wanted) (link_seen c.in-Ok.link) c.loop-link.met.keys c.visit.new.met.keys c.in-Ok.ensures.says c.in-Ok.ensures.met
