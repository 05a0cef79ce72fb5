use Rattle.zi_universe.specs.Candidates.{asked}
use Rattle.zi_showing.specs.Steps.{asked_in}
use Rattle.zi_showing.proofs.PieceLaws.{AsksFrom, asked_alone, dep_next}
use Rattle.zi_showing.proofs.asking.ask_deps.Given as goal

abbrev pub invariant-loop-n : goal.invariant-loop-n
invariant-loop-n l = AsksFrom asked asked_alone dep_next l.level l.deps l.n (asked_in l.initial.pending.items) (asked_in l.pending.items)

abbrev pub decreases-loop-n : goal.decreases-loop-n
decreases-loop-n l = l.n
