use Rattle.std.proofs.Common.{◌≡◌, ◌≤◌, ◌-◌, length, vec_len}
use Rattle.std.specs.List.{AllWithin}
use Rattle.zi_proof.proofs.marks.wipe.Given as goal

abbrev pub invariant-loop-i : goal.invariant-loop-i
invariant-loop-i l =
    AllWithin (λ c. c.stamp ≤ 0) l.cells.items 0 l.i × (length l.cells.items ≡ length l.initial.cells.items)

abbrev pub decreases-loop-i : goal.decreases-loop-i
decreases-loop-i l = vec_len l.cells - l.i
