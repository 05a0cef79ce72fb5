use Rattle.std.proofs.Common.{map}
use Rattle.zi_docout.specs.Elements.{Adds}
use Rattle.zi_demo.specs.Feeds.{requires_elem, numbers, numbered}
use Rattle.zi_demo.proofs.feeds.put_numbered.Given as goal

abbrev pub invariant-loop-k : goal.invariant-loop-k
invariant-loop-k l = Adds l.initial.needs l.needs (map requires_elem (map numbered (numbers 1 l.k)))
