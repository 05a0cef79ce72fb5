use Rattle.std.proofs.Common.{◌+◌, ◌++◌, map, drop, ap, sym, ◌∙◌}
use Rattle.std.proofs.lemmas.List.{append-nil}
use Rattle.zi_plan.specs.Launches.{in_shims, shims_exposed}
use Rattle.zi_plan.specs.Steps.{bound_seen}
use Rattle.zi_plan.proofs.NextLaws.{at_place, none_left}
use Rattle.zi_plan.proofs.applying.shims_exposed.Goals as goal

pub loop-bound-preserved : goal.loop-bound-preserved
loop-bound-preserved c =
    let all = map bound_seen c.args.bounds.now in
    let at = at_place c.args.bounds.now c.loop-bound.bound-index c.bound-item.result c.loop-bound-test.true c.bound-item.is in
    c.loop-bound.invariant ∙ ap (λ bs. c.loop-bound.dirs ++ shims_exposed (in_shims bs c.loop-bound.rest.now)) at
    ∙ c.in_ok-rest.ensures (drop (c.loop-bound.bound-index + 1) all)

pub returns : goal.returns
returns c =
    sym (c.loop-bound.invariant
    ∙ ap (λ bs. c.loop-bound.dirs ++ shims_exposed (in_shims bs c.loop-bound.rest.now)) (none_left c.args.bounds.now c.loop-bound.bound-index c.loop-bound-test.false)
    ∙ append-nil c.loop-bound.dirs)
