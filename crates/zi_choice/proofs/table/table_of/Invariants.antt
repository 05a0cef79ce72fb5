use Rattle.std.proofs.Common.{take}
use Rattle.zi_choice.specs.Tables.{AreTheirPlaces}
use Rattle.zi_choice.proofs.table.table_of.Given as goal

abbrev pub invariant-loop-place : goal.invariant-loop-place
invariant-loop-place l = AreTheirPlaces (take l.place l.commands) l.places.entries
