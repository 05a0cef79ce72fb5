use Rattle.std.proofs.Common.{take}
use Rattle.zi_choice.specs.Tables.{AreAllTables}
use Rattle.zi_choice.proofs.names.all_tables_of.Given as goal

abbrev pub invariant-loop-x : goal.invariant-loop-x
invariant-loop-x l = AreAllTables (take l.x-index l.x-items) l.rows
