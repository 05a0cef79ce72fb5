use Rattle.std.proofs.Common.{map}
use Rattle.zi_address.proofs.AddressLemmas.{IsLeft}
use Rattle.zi_address.proofs.address.settle.Given as goal

abbrev pub invariant-loop-part : goal.invariant-loop-part
invariant-loop-part l =
    (goal.iterator-loop-part).can_next l.part-iterator ×
    (goal.iterator-loop-part).is_finite l.part-iterator ×
    IsLeft (map (λ x. x.now) l.yielded) (map (λ x. x.now) l.parts.items)
