use Rattle.zi_plan.proofs.TableLaws.{finds_start, finds_next}
use Rattle.zi_plan.proofs.table.Table.of.Goals as goal

pub loop-x-init : goal.loop-x-init
loop-x-init c = finds_start c.new-selected.result.entries c.new-commands.result.entries c.new-selected.ensures.empty c.new-commands.ensures.empty

pub loop-x-preserved : goal.loop-x-preserved
loop-x-preserved c =
    finds_next c.args.all.now c.loop-x.x-index c.x-item.result c.loop-x.selected.entries c.add.new.selected.entries c.loop-x.commands.entries c.add.new.commands.entries
    c.loop-x-test.true c.x-item.is c.loop-x.invariant c.in_ok-add.ensures
