use Rattle.zi_store.proofs.FileLemmas.{same_name, other_name, not_here, is_here, is_nowhere}
use Rattle.zi_store.proofs.files.kind_in.Goals as goal

pub returns-then-eq : goal.returns-then-eq
returns-then-eq c =
    let e = c.entry-item.result in
    is_here c.args.entries.now c.loop-entry.entry-index e c.args.name.now c.loop-entry-test.true c.entry-item.is (same_name c.as_str.result.now e.name c.args.name.now c.eq.result c.as_str.ensures c.eq.ensures c.if-eq.true)

pub loop-entry-preserved : goal.loop-entry-preserved
loop-entry-preserved c = λ k within.
    let e = c.entry-item.result in
    not_here c.args.entries.now c.loop-entry.entry-index e c.args.name.now k c.loop-entry-test.true c.entry-item.is
    (other_name c.as_str.result.now e.name c.args.name.now c.eq.result c.as_str.ensures c.eq.ensures c.if-eq.false) (c.loop-entry.invariant k within)

pub returns : goal.returns
returns c = λ k within. is_nowhere c.args.entries.now c.loop-entry.entry-index (record { name = c.args.name.now; kind = k }) c.loop-entry-test.false (c.loop-entry.invariant k within)
