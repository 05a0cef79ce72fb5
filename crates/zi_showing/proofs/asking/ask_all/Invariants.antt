use Rattle.zi_showing.specs.Steps.{asked_in}
use Rattle.zi_showing.proofs.PieceLaws.{AsksFrom, addresses, address_alone, item_next}
use Rattle.zi_showing.proofs.asking.ask_all.Given as goal

abbrev pub invariant-loop-n : goal.invariant-loop-n
invariant-loop-n l = AsksFrom addresses address_alone item_next 0 l.items l.n (asked_in l.initial.pending.items) (asked_in l.pending.items)

abbrev pub decreases-loop-n : goal.decreases-loop-n
decreases-loop-n l = l.n
