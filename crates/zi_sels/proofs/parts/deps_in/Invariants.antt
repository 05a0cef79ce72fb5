use Rattle.std.proofs.Common.{None, []}
use Rattle.std.specs.Prelude.{codes}
use Rattle.zi_reading.specs.Ways.{AsWritten}
use Rattle.zi_feed.specs.Feeds.{part_fault}
use Rattle.zi_parts.specs.Values.{dep_of}
use Rattle.zi_feed.specs.Means.{counts_as}
use Rattle.zi_sels.specs.Notes.{AreRead}
use Rattle.zi_sels.proofs.NoteLaws.{so_far}
use Rattle.zi_sels.proofs.parts.deps_in.Given as goal

abbrev pub invariant-loop-e : goal.invariant-loop-e
invariant-loop-e l = AreRead part_fault (dep_of AsWritten) (so_far (counts_as (codes "requires")) l.parts l.e-index) [] l.fn.fault l.deps l.fault
