use Rattle.zi_choice.specs.Tables.{IsTableOf}
use Rattle.zi_choice.proofs.TableLaws.{each_more}
use Rattle.zi_choice.proofs.names.tables_of.Goals as goal

pub loop-k-preserved : goal.loop-k-preserved
loop-k-preserved c =
    each_more IsTableOf c.args.candidates.now c.loop-k.tables _ c.loop-k.k-index c.k-item.result c.in_ok-table.table c.loop-k-test.true c.k-item.is c.in_ok-push.ensures.ok c.loop-k.invariant
    c.in_ok-table.ensures
