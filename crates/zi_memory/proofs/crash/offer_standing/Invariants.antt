use Rattle.std.proofs.Common.{◌≡◌, length, take, reverse}
use Rattle.zi_shelf.specs.Names.{Name}
use Rattle.zi_memory.specs.Comers.{at, pending_of, best, removed_comers, standing_comers}
use Rattle.zi_memory.proofs.crash.offer_standing.Given as goal

abbrev pub invariant-loop-place : goal.invariant-loop-place
invariant-loop-place l = record {
  number : l.number ≡ length l.pending;
  comers : (n : Name) → at l.comers n ≡ best (standing_comers l.pick (pending_of l.pending) (reverse (take l.place l.entries)) (removed_comers l.pick (length l.entries) (pending_of l.pending))) n;
}
