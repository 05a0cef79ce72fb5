use Rattle.std.proofs.Common.{ap, ◌∙◌}
use Rattle.std.specs.List.{flat_map}
use Rattle.zi_build.specs.Writing.{plan_of, as_var}
use Rattle.zi_build.proofs.WriteLaws.{needs_piece, needs_whole}
use Rattle.zi_build.proofs.kinds.add_inherited.Goals as goal

pub loop-piece-preserved : goal.loop-piece-preserved
loop-piece-preserved c =
    needs_piece c.args.plan.now.keeps (plan_of c.args.plan.now) (as_var c.args.y) c.as_slice-piece-items.result.now c.loop-piece.piece-index c.piece-item.result c.args.w.now c.loop-piece.w c.add_needs.new.w
    c.loop-piece-test.true c.piece-item.is c.loop-piece.invariant c.in_ok-add_needs.ensures

pub returns : goal.returns
returns c =
    needs_whole c.args.plan.now.keeps (plan_of c.args.plan.now) (as_var c.args.y) c.as_slice-piece-items.result.now c.loop-piece.piece-index c.args.deps.now c.args.w.now c.loop-piece.w
    c.loop-piece-test.false (ap (flat_map (λ q. q.now)) c.as_slice-piece-items.ensures.value ∙ c.in_ok-pieces.ensures) c.loop-piece.invariant
