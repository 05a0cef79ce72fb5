use Rattle.std.proofs.Common.{◌≡◌, ◌+◌, ◌≤◌, ◌++◌, reverse, length, vec_len, vec_capacity}
use Rattle.zi_memory.specs.Comers.{removed_tops}
use Rattle.zi_memory.proofs.crash.put_removed.Given as goal

abbrev pub invariant-loop-later : goal.invariant-loop-later
invariant-loop-later l = record {
  made : l.sources.items ++ removed_tops (reverse l.pending.items) ≡ l.fn.sources.items ++ removed_tops l.fn.pending.items;
  room : vec_len l.sources + vec_len l.pending ≤ vec_capacity l.sources;
}

abbrev pub decreases-loop-later : goal.decreases-loop-later
decreases-loop-later l = vec_len l.pending
