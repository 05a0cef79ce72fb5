use Rattle.zi_tree.specs.Dir.{Dir}
use Rattle.std.proofs.Common.{◌≡◌, false, is_err, sym, subst, inr, slice_set, IsSome}
use Rattle.zi_memory.specs.Fillings.{work_at}
use Rattle.zi_memory.specs.Memory.{IsAt}
use Rattle.zi_shelf.specs.Shelved.{Fill, Did, Fits, Top}
use Rattle.zi_memory.proofs.TopsLemmas.{apart_set}
use Rattle.zi_memory.proofs.WholeLemmas.{whole_set}
use Rattle.zi_memory.proofs.DoingLemmas.{unknown_same}
use Rattle.zi_memory.proofs.FilledLemmas.{name_is, filled_does, misfits, done_then}
use Rattle.zi_shelf.specs.Filling.{trees, filled}
use Rattle.zi_memory.proofs.ReadingLemmas.{unplanned}
use Rattle.zi_memory.proofs.SeenLemmas.{done, fails, was_planned, no_entry, shelf}
use Rattle.zi_memory.proofs.held.Held.fill.Goals as goal

pub returns-then-is_to_fail : goal.returns-then-is_to_fail
returns-then-is_to_fail c =
    let s = c.args.self.now in
    fails s c.args.call (Fill c.args.top.now (work_at c.args.path.now c.args.filling)) c.fail.new.calls c.fail.new.faults c.fail.result c.requires (unknown_same s.entries.items s.pending.items c.args.top.now)
    (was_planned s c.as_slice.result.now c.as_slice-2.result.now c.is_to_fail.result (Fits trees (shelf s) (Fill c.args.top.now (work_at c.args.path.now c.args.filling))) c.as_slice.ensures.value c.as_slice-2.ensures c.is_to_fail.ensures c.if-is_to_fail.true)
    (record { failed = c.fail.ensures.failed; memory = c.fail.ensures.memory; later = c.fail.ensures.later; below = c.fail.ensures.below })

pub returns-in_default : goal.returns-in_default
returns-in_default c =
    let s = c.args.self.now in
    fails s c.args.call (Fill c.args.top.now (work_at c.args.path.now c.args.filling)) c.fail-in_default.new.calls c.fail-in_default.new.faults c.fail-in_default.result c.requires (unknown_same s.entries.items s.pending.items c.args.top.now)
    (inr (no_entry s (λ (e : Top Dir). IsSome (filled (work_at c.args.path.now c.args.filling) e.tree)) c.as_slice-3.result.now c.args.top.now c.as_slice-3.ensures.value c.in_default.ensures))
    (record { failed = c.fail-in_default.ensures.failed; memory = c.fail-in_default.ensures.memory; later = c.fail-in_default.ensures.later; below = c.fail-in_default.ensures.below })

pub returns-then-not-fits : goal.returns-then-not-fits
returns-then-not-fits c =
    let s = c.args.self.now in
    let at = subst (λ l. IsAt c.args.top.now l c.in-Some.i) c.as_slice-3.ensures.value c.in-Some.ensures.1 in
    fails s c.args.call (Fill c.args.top.now (work_at c.args.path.now c.args.filling)) c.fail-then-not-fits.new.calls c.fail-then-not-fits.new.faults c.fail-then-not-fits.result c.requires (unknown_same s.entries.items s.pending.items c.args.top.now)
    (inr (misfits s.entries.items s.pending.items c.args.top.now (work_at c.args.path.now c.args.filling) c.in-Some.i c.index.result.now at c.index.ensures (sym c.if-not-fits.ensures)))
    (record { failed = c.fail-then-not-fits.ensures.failed; memory = c.fail-then-not-fits.ensures.memory; later = c.fail-then-not-fits.ensures.later; below = c.fail-then-not-fits.ensures.below })

pub invariant_of-self-else-is_err : goal.invariant_of-self-else-is_err
invariant_of-self-else-is_err c =
    let s = c.args.self.now in
    let at = subst (λ l. IsAt c.args.top.now l c.in-Some.i) c.as_slice-3.ensures.value c.in-Some.ensures.1 in
    let y = c.fill_entry.new.entry in
    record {
      apart = apart_set s.entries.items c.args.top.now c.in-Some.i y at (name_is s.entries.items c.args.top.now c.in-Some.i c.index_mut.result.now y at c.index_mut.ensures.value c.fill_entry.ensures.name) s.apart;
      whole = whole_set s.entries.items c.in-Some.i y (done_then c.fill_entry.result c.fill_entry.ensures.whole (sym c.if-is_err.ensures.value)) s.whole;
    }

pub returns : goal.returns
returns c =
    let s = c.args.self.now in
    let at = subst (λ l. IsAt c.args.top.now l c.in-Some.i) c.as_slice-3.ensures.value c.in-Some.ensures.1 in
    let is_done : is_err c.fill_entry.result ≡ false = sym c.if-is_err.ensures.value in
    done s (slice_set s.entries.items c.in-Some.i c.fill_entry.new.entry) s.pending.items c.push.new.self (Fill c.args.top.now (work_at c.args.path.now c.args.filling)) Did tt
    (filled_does s.entries.items s.pending.items s.calls c.push.new.self c.args.call c.args.top.now (work_at c.args.path.now c.args.filling) c.in-Some.i c.index_mut.result.now c.fill_entry.new.entry at c.index_mut.ensures.value
    c.fill_entry.ensures.name (done_then c.fill_entry.result c.fill_entry.ensures.unsettled is_done) (done_then c.fill_entry.result c.fill_entry.ensures.ok is_done) c.in_ok-push.ensures.ok c.requires)
    (unplanned s.fail.items c.as_slice.result.now s.entries.items s.pending.items s.calls c.as_slice-2.result.now c.is_to_fail.result Did c.as_slice.ensures.value c.as_slice-2.ensures c.is_to_fail.ensures c.if-is_to_fail.false)
