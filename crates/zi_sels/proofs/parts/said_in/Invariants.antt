use Rattle.std.proofs.Common.{[]}
use Rattle.std.specs.Prelude.{codes}
use Rattle.zi_feed.specs.Feeds.{part_fault}
use Rattle.zi_parts.specs.Digests.{said_digests}
use Rattle.zi_feed.specs.Means.{counts_as}
use Rattle.zi_sels.specs.Notes.{AreRead}
use Rattle.zi_sels.proofs.NoteLaws.{so_far}
use Rattle.zi_sels.proofs.parts.said_in.Given as goal

abbrev pub invariant-loop-e : goal.invariant-loop-e
invariant-loop-e l = AreRead part_fault said_digests (so_far (counts_as (codes "manifest-digest")) l.parts l.e-index) [] l.fn.fault l.said l.fault
