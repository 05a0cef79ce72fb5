use Rattle.zi_store.proofs.FileLemmas.{kind_is, absent_not, entries_not}
use Rattle.zi_store.proofs.files.kind_under.Goals as goal

pub returns-in-Absent-clause-kind : goal.returns-in-Absent-clause-kind
returns-in-Absent-clause-kind g c d st = absurd (absent_not c.in_ok-ask_entries.field-0 st c.in-Absent.is (c.in_ok-ask_entries.ensures.answer st.state st.keeps st.tells))

pub returns-in-Entries-clause-kind : goal.returns-in-Entries-clause-kind
returns-in-Entries-clause-kind g c d st =
    kind_is c.args.name.now c.in_ok-ask_entries.field-0 c.in-Entries.entries c.as_slice.result.now c.kind_in.result st c.in-Entries.is (c.in_ok-ask_entries.ensures.answer st.state st.keeps st.tells) c.as_slice.ensures c.kind_in.ensures

pub returns-in-Entries-clause-none : goal.returns-in-Entries-clause-none
returns-in-Entries-clause-none g c s honest tells none = absurd (entries_not c.args.top.now c.args.path.now c.in_ok-ask_entries.field-0 c.in-Entries.entries s.shelf c.in-Entries.is (c.in_ok-ask_entries.ensures.answer s honest tells) none)
