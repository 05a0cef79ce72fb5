use Rattle.std.proofs.Common.{length, ◌-◌, ◌≡◌, ◌+◌, drop}
use Rattle.zi_xml.specs.Machine.{common}
use Rattle.zi_doc.proofs.texts.shared_front.Given as goal

abbrev pub invariant-loop-n : goal.invariant-loop-n
invariant-loop-n l = common l.xs l.ys ≡ l.n + common (drop l.n l.xs) (drop l.n l.ys)

abbrev pub decreases-loop-n : goal.decreases-loop-n
decreases-loop-n l = length l.xs - l.n
