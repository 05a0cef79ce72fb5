use Rattle.std.proofs.Common.{◌≡◌, ◌+◌, length, take}
use Rattle.zi_shelf.specs.Names.{Name}
use Rattle.zi_shelf.specs.Crash.{removed}
use Rattle.zi_memory.specs.Comers.{at, pending_of, first_at, best, removed_comers}
use Rattle.zi_memory.proofs.crash.offer_removed.Given as goal

abbrev pub invariant-loop-number : goal.invariant-loop-number
invariant-loop-number l = record {
  place : l.place ≡ l.standing + length (removed (pending_of (take l.number l.pending)));
  firsts : (n : Name) → at l.firsts n ≡ first_at l.pick.renames n (pending_of (take l.number l.pending));
  comers : (n : Name) → at l.comers n ≡ best (removed_comers l.pick l.standing (pending_of (take l.number l.pending))) n;
}
