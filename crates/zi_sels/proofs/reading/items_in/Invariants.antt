use Rattle.std.proofs.Common.{[]}
use Rattle.std.specs.Prelude.{codes}
use Rattle.zi_feed.specs.Means.{counts_as}
use Rattle.zi_sels.specs.Read.{selection_of}
use Rattle.zi_sels.specs.Notes.{AreRead}
use Rattle.zi_sels.specs.Refused.{selection_fault}
use Rattle.zi_sels.proofs.NoteLaws.{so_far}
use Rattle.zi_sels.proofs.reading.items_in.Given as goal

abbrev pub invariant-loop-e : goal.invariant-loop-e
invariant-loop-e l = AreRead selection_fault selection_of (so_far (counts_as (codes "selection")) l.e-items l.e-index) [] l.fn.fault l.items l.fault
