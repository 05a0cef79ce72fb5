use Rattle.std.proofs.Common.{◌∙◌, ◌++◌, map, take, refl}
use Rattle.zi_why.specs.Reasons.{owned_by}
use Rattle.zi_why.proofs.KnownLaws.{owned_none, owned_next, owned_whole}
use Rattle.zi_why.proofs.known.own_all.Goals as goal

pub loop-n-init : goal.loop-n-init
loop-n-init c = record { len = refl; rows = λ os h. owned_none c.args.names.now c.args.rows.now.items os c.args.owner c.args.deps.now h }

pub loop-n-preserved : goal.loop-n-preserved
loop-n-preserved c = record {
  len = c.own.ensures.len ∙ c.loop-n.invariant.len;
  rows = λ os h. owned_next c.args.names.now c.own.new.rows.items os c.args.owner c.args.deps.now c.loop-n.n c.at-dep.result.now c.at-dep.ensures
      (c.in_ok-own.ensures.ok (os ++ map (owned_by c.args.owner) (take c.loop-n.n c.args.deps.now)) (c.loop-n.invariant.rows os h));
}

pub returns-clause-ok : goal.returns-clause-ok
returns-clause-ok c os h = owned_whole c.args.names.now c.loop-n.rows.items os c.args.owner c.args.deps.now c.loop-n.n c.len-n-end.result c.len-n-end.ensures c.loop-n-test.false (c.loop-n.invariant.rows os h)
