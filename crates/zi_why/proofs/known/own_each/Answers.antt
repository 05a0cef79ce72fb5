use Rattle.std.proofs.Common.{◌∙◌, ◌++◌, map, take, refl, length}
use Rattle.zi_choice.proofs.TaskLaws.{slice_some}
use Rattle.zi_why.specs.Reasons.{owned_by}
use Rattle.zi_why.proofs.KnownLaws.{owned_none, owned_next, owned_whole}
use Rattle.zi_why.proofs.known.own_each.Goals as goal

pub loop-dep-init : goal.loop-dep-init
loop-dep-init c = record { len = refl; rows = λ os h. owned_none c.args.names.now c.args.rows.now.items os c.args.owner c.args.deps.now h }

pub loop-dep-preserved : goal.loop-dep-preserved
loop-dep-preserved c = record {
  len = c.own.ensures.len ∙ c.loop-dep.invariant.len;
  rows = λ os h. owned_next c.args.names.now c.own.new.rows.items os c.args.owner c.args.deps.now c.loop-dep.dep-index c.dep-item.result (slice_some c.args.deps.now c.loop-dep.dep-index c.dep-item.result c.loop-dep-test.true c.dep-item.is)
      (c.in_ok-own.ensures.ok (os ++ map (owned_by c.args.owner) (take c.loop-dep.dep-index c.args.deps.now)) (c.loop-dep.invariant.rows os h));
}

pub returns-clause-ok : goal.returns-clause-ok
returns-clause-ok c os h = owned_whole c.args.names.now c.loop-dep.rows.items os c.args.owner c.args.deps.now c.loop-dep.dep-index (length c.args.deps.now) refl c.loop-dep-test.false (c.loop-dep.invariant.rows os h)
