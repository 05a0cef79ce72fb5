use Rattle.std.proofs.Common.{[], map, ap, ◌∙◌}
use Rattle.std.specs.List.{flat_map}
use Rattle.std.proofs.lemmas.List.{take_all}
use Rattle.zi_plan.specs.Steps.{bound_seen}
use Rattle.zi_plan.proofs.BindingLaws.{of_lent, all_lent, put_more}
use Rattle.zi_plan.proofs.binding.all_bindings.Goals as goal

pub loop-x-preserved : goal.loop-x-preserved
loop-x-preserved c =
    put_more (of_lent c.args.table.now) c.all-placed.result.now c.loop-x.x-index c.x-item.result [] (map bound_seen c.loop-x.out.items) (map bound_seen c.put_placed.new.out.items)
    c.loop-x-test.true c.x-item.is c.loop-x.invariant c.in_ok-put_placed.ensures

pub returns : goal.returns
returns c =
    c.loop-x.invariant ∙ ap (flat_map (of_lent c.args.table.now)) (take_all c.loop-x.x-index c.all-placed.result.now c.loop-x-test.false)
    ∙ all_lent c.args.table.now c.all-placed.result.now c.all-placed.ensures
