use Rattle.zi_manifest.proofs.EntryLemmas.{no_folder_name}
use Rattle.zi_manifest.proofs.entries.folder_of.Goals as goal

pub returns-in_default-entry_name : goal.returns-in_default-entry_name
returns-in_default-entry_name c = no_folder_name c.args.a c.args.path.now c.in-Some.parent.now c.in-Some.last.now c.in-Some.ensures.0 c.in-Some.ensures.1 c.in_default-entry_name.ensures
