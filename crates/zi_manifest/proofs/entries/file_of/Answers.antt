use Rattle.zi_manifest.proofs.EntryLemmas.{no_file_hash, no_file_time, no_file_size, no_file_name}
use Rattle.zi_manifest.proofs.entries.file_of.Goals as goal

pub returns-in_default : goal.returns-in_default
returns-in_default c = no_file_hash c.args.a c.args.exec c.args.rest.now c.in_default.ensures

pub returns-in_default-time_word : goal.returns-in_default-time_word
returns-in_default-time_word c =
    let h = c.in-Some in
    no_file_time c.args.a c.args.exec c.args.rest.now h.hash.now h.behind_hash.now h.ensures.0 h.ensures.1 c.in_default-time_word.ensures

pub returns-in_default-size_word : goal.returns-in_default-size_word
returns-in_default-size_word c =
    let h = c.in-Some in
    let t = c.in-Some-time_word in
    no_file_size c.args.a c.args.exec c.args.rest.now h.hash.now h.behind_hash.now t.mtime t.behind_time.now h.ensures.0 h.ensures.1 t.ensures.0 t.ensures.1 c.in_default-size_word.ensures

pub returns-in_default-entry_name : goal.returns-in_default-entry_name
returns-in_default-entry_name c =
    let h = c.in-Some in
    let t = c.in-Some-time_word in
    let s = c.in-Some-size_word in
    no_file_name c.args.a c.args.exec c.args.rest.now h.hash.now h.behind_hash.now t.mtime t.behind_time.now s.size s.behind_size.now h.ensures.0 h.ensures.1 t.ensures.0 t.ensures.1 s.ensures.0 s.ensures.1 c.in_default-entry_name.ensures
