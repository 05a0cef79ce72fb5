use Rattle.std.proofs.Common.{◌≡◌, ◌+◌, ◌≤◌, ◌++◌, ℕ, true, map, length, Some, slice_get, get_or, vec_len, vec_capacity}
use Rattle.zi_shelf.specs.Names.{Name}
use Rattle.zi_memory.specs.Memory.{are_trees}
use Rattle.zi_memory.specs.Comers.{ArePlaces, moved, no_entry}
use Rattle.zi_memory.specs.declared.crash.Comer.{Comer}
use Rattle.zi_memory.proofs.crash.put_left.Given as goal

abbrev pub invariant-loop-name : goal.invariant-loop-name
invariant-loop-name l = record {
  made : l.left.items ++ map (moved l.fn.sources.items) l.comers.entries ≡ map (moved l.fn.sources.items) l.fn.comers.entries;
  room : vec_len l.left + length l.comers.entries ≤ vec_capacity l.left;
  whole : are_trees l.left.items ≡ true;
  places : ArePlaces l.comers.entries l.sources.items;
  same : (i : ℕ) (n : Name) (c : Comer) → slice_get l.comers.entries i ≡ Some (n, c) → get_or l.sources.items c.place no_entry ≡ get_or l.fn.sources.items c.place no_entry;
}

abbrev pub decreases-loop-name : goal.decreases-loop-name
decreases-loop-name l = length l.comers.entries
