use Rattle.std.proofs.Common.{subst}
use Rattle.zi_universe.specs.declared.types.Interface.{Interface}
use Rattle.zi_choice.specs.Tables.{AreTablesOf}
use Rattle.zi_choice.proofs.TableLaws.{each_more}
use Rattle.zi_choice.proofs.names.all_tables_of.Goals as goal

pub loop-x-preserved : goal.loop-x-preserved
loop-x-preserved c =
    each_more (λ (x : Interface) ts. AreTablesOf x.candidates ts) c.interfaces-x-items.result.now c.loop-x.rows _ c.loop-x.x-index c.x-item.result c.in_ok-row.row c.loop-x-test.true c.x-item.is c.in_ok-push.ensures.ok c.loop-x.invariant
    (subst (λ ks. AreTablesOf ks c.in_ok-row.row) c.as_slice.ensures c.in_ok-row.ensures)
