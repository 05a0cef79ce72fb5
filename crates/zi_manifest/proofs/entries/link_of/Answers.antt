use Rattle.zi_manifest.proofs.EntryLemmas.{no_link_size, no_link_name}
use Rattle.zi_manifest.proofs.entries.link_of.Goals as goal

pub returns-in_default-size_word : goal.returns-in_default-size_word
returns-in_default-size_word c = no_link_size c.args.a c.args.rest.now c.in-Some.hash.now c.in-Some.behind_hash.now c.in-Some.ensures.0 c.in-Some.ensures.1 c.in_default-size_word.ensures

pub returns-in_default-entry_name : goal.returns-in_default-entry_name
returns-in_default-entry_name c =
    let h = c.in-Some in
    let s = c.in-Some-size_word in
    no_link_name c.args.a c.args.rest.now h.hash.now h.behind_hash.now s.size s.behind_size.now h.ensures.0 h.ensures.1 s.ensures.0 s.ensures.1 c.in_default-entry_name.ensures
