use Rattle.std.proofs.Common.{◌≡◌, map, take}
use Rattle.zi_memory.specs.declared.top_entry.TopEntry.{TopEntry}
use Rattle.zi_memory.proofs.reading.names_of.Given as goal

abbrev pub invariant-loop-entry : goal.invariant-loop-entry
invariant-loop-entry l = l.names ≡ map (λ (e : TopEntry). e.name) (take l.entry-index l.entries)
