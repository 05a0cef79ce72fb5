use Rattle.std.proofs.Common.{take}
use Rattle.zi_choice.specs.Tables.{AreTablesOf}
use Rattle.zi_choice.proofs.names.tables_of.Given as goal

abbrev pub invariant-loop-k : goal.invariant-loop-k
invariant-loop-k l = AreTablesOf (take l.k-index l.candidates) l.tables
