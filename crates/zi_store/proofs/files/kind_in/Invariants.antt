use Rattle.std.proofs.Common.{drop}
use Rattle.zi_shelf.specs.Names.{IsIn}
use Rattle.zi_shelf.specs.declared.shelf.EntryKind.{EntryKind}
use Rattle.zi_store.proofs.files.kind_in.Given as goal

abbrev pub invariant-loop-entry : goal.invariant-loop-entry
invariant-loop-entry l = (kind : EntryKind) → IsIn (record { name = l.name; kind = kind }) l.entries → IsIn (record { name = l.name; kind = kind }) (drop l.entry-index l.entries)
