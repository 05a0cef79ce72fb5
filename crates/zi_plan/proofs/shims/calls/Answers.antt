use Rattle.std.proofs.Common.{◌+◌, map, drop}
use Rattle.zi_outside.specs.Vars.{value_of}
use Rattle.zi_plan.specs.Steps.{bound_seen}
use Rattle.zi_plan.proofs.NextLaws.{at_place, none_left}
use Rattle.zi_plan.proofs.CallLaws.{called_start, called_next, called_refused, called_end}
use Rattle.zi_plan.proofs.shims.calls.Goals as goal

pub loop-bound-init : goal.loop-bound-init
loop-bound-init c = called_start c.args.table.now (value_of c.args.vars.now) (map bound_seen c.args.bounds.now) c.new-calls.result c.new-calls.ensures

pub returns-in-Err : goal.returns-in-Err
returns-in-Err c =
    let all = map bound_seen c.args.bounds.now in
    called_refused c.args.table.now (value_of c.args.vars.now) all (drop c.loop-bound.bound-index all) (drop (c.loop-bound.bound-index + 1) all) c.loop-bound.calls c.put_call.new.calls (bound_seen c.bound-item.result)
    (at_place c.args.bounds.now c.loop-bound.bound-index c.bound-item.result c.loop-bound-test.true c.bound-item.is) c.loop-bound.invariant c.in-Err.fault c.in-Err.ensures

pub loop-bound-preserved : goal.loop-bound-preserved
loop-bound-preserved c =
    let all = map bound_seen c.args.bounds.now in
    called_next c.args.table.now (value_of c.args.vars.now) all (drop c.loop-bound.bound-index all) (drop (c.loop-bound.bound-index + 1) all) c.loop-bound.calls c.put_call.new.calls (bound_seen c.bound-item.result)
    (at_place c.args.bounds.now c.loop-bound.bound-index c.bound-item.result c.loop-bound-test.true c.bound-item.is) c.loop-bound.invariant c.in-Ok.ensures

pub returns : goal.returns
returns c =
    called_end c.args.table.now (value_of c.args.vars.now) (map bound_seen c.args.bounds.now) (drop c.loop-bound.bound-index (map bound_seen c.args.bounds.now)) c.loop-bound.calls
    (none_left c.args.bounds.now c.loop-bound.bound-index c.loop-bound-test.false) c.loop-bound.invariant
