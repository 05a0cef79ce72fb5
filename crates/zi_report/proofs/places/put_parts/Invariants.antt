use Rattle.zi_report.proofs.TextLaws.{PutsOn}
use Rattle.zi_report.proofs.places.put_parts.Given as goal

abbrev pub invariant-loop-n : goal.invariant-loop-n
invariant-loop-n l = PutsOn l.of l.places l.reports l.initial.text l.n l.left l.text
