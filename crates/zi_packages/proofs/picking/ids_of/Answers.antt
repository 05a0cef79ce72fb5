use Rattle.std.proofs.Common.{ap, ◌∙◌, arith}
use Rattle.std.proofs.lemmas.List.{take_all}
use Rattle.zi_packages.specs.Table.{is_listed}
use Rattle.zi_packages.specs.Natives.{ids_of}
use Rattle.zi_packages.proofs.PickLaws.{ids_next}
use Rattle.zi_packages.proofs.picking.ids_of.Goals as goal

pub loop-imp-init : goal.loop-imp-init
loop-imp-init c = λ t. ap (is_listed t) c.new-ids.ensures.empty

pub loop-imp-preserved : goal.loop-imp-preserved
loop-imp-preserved c = ids_next c.args.impls.now c.loop-imp.imp-index c.imp-item.result _ _ _ c.loop-imp-test.true c.imp-item.is c.in_ok-id.ensures c.in_ok-insert.ensures.keys c.loop-imp.invariant

pub returns : goal.returns
returns c = λ t. c.loop-imp.invariant t ∙ ap (λ q. is_listed t (ids_of q)) (take_all c.loop-imp.imp-index c.args.impls.now (let f = c.loop-imp-test.false in omega (arith, f)))
