use Rattle.std.proofs.Common.{[]}
use Rattle.zi_feed.specs.Feeds.{part_fault}
use Rattle.zi_parts.specs.Values.{binding_of}
use Rattle.zi_feed.specs.Means.{counts_as_binding}
use Rattle.zi_sels.specs.Notes.{AreRead}
use Rattle.zi_sels.proofs.NoteLaws.{so_far}
use Rattle.zi_sels.proofs.parts.bindings_in.Given as goal

abbrev pub invariant-loop-e : goal.invariant-loop-e
invariant-loop-e l = AreRead part_fault binding_of (so_far counts_as_binding l.parts l.e-index) [] l.fn.fault l.bindings l.fault
