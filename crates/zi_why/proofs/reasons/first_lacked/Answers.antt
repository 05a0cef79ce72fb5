use Rattle.std.proofs.Common.{refl, sym, ◌∙◌}
use Rattle.zi_choice.proofs.TaskLaws.{slice_some}
use Rattle.zi_why.specs.Reasons.{lacks}
use Rattle.zi_why.proofs.FindLaws.{found_here, found_later, found_none}
use Rattle.zi_why.proofs.reasons.first_lacked.Goals as goal

pub loop-name-init : goal.loop-name-init
loop-name-init c = refl

pub returns-then-lacks : goal.returns-then-lacks
returns-then-lacks c =
    found_here (lacks c.args.p.now.is.now) c.args.names.now c.loop-name.name-index c.name-item.result (slice_some c.args.names.now c.loop-name.name-index c.name-item.result c.loop-name-test.true c.name-item.is) c.loop-name.invariant (sym c.lacks.ensures ∙ c.if-lacks.true)

pub loop-name-preserved : goal.loop-name-preserved
loop-name-preserved c =
    found_later (lacks c.args.p.now.is.now) c.args.names.now c.loop-name.name-index c.name-item.result (slice_some c.args.names.now c.loop-name.name-index c.name-item.result c.loop-name-test.true c.name-item.is) c.loop-name.invariant (sym c.lacks.ensures ∙ c.if-lacks.false)

pub returns : goal.returns
returns c = found_none (lacks c.args.p.now.is.now) c.args.names.now c.loop-name.name-index c.loop-name-test.false c.loop-name.invariant
