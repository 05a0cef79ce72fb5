use Rattle.zi_manifest.proofs.EntryLemmas.{no_mark}
use Rattle.zi_manifest.proofs.entries.entry_of.Goals as goal

pub returns : goal.returns
returns c = no_mark c.args.a c.args.line.now c.in_default.ensures c.in_default-behind.ensures c.in_default-behind-2.ensures c.in_default-behind-3.ensures
