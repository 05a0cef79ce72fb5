use Rattle.std.proofs.Common.{◌≡◌, ◌<◌, List, length, true, sym, ◌∙◌, ap, subst, inr, slice_set}
use Rattle.zi_memory.specs.declared.top_entry.TopEntry.{TopEntry}
use Rattle.zi_memory.specs.Memory.{IsAt}
use Rattle.zi_shelf.specs.Shelved.{Settle, Did, Fits}
use Rattle.zi_memory.proofs.TopsLemmas.{apart_set, at_name}
use Rattle.zi_memory.proofs.WholeLemmas.{whole_at, whole_set}
use Rattle.zi_tree.specs.Order.{is_tree}
use Rattle.zi_memory.proofs.DoingLemmas.{unknown_same, settled_does}
use Rattle.zi_shelf.specs.Filling.{trees}
use Rattle.zi_memory.proofs.ReadingLemmas.{unplanned}
use Rattle.zi_memory.proofs.SeenLemmas.{done, fails, was_planned, no_top, shelf}
use Rattle.zi_memory.proofs.held.HeldShelf.settle.Goals as goal

pub returns-then-is_to_fail : goal.returns-then-is_to_fail
returns-then-is_to_fail c =
    let s = c.args.self.now in
    record {
      does = fails s c.in_ok-call.call (Settle c.args.top.now) c.fail.new.calls c.fail.new.faults c.fail.result c.in_ok-call.ensures.ok (unknown_same s.entries.items s.pending.items c.args.top.now)
          (was_planned s c.as_slice.result.now c.as_slice-2.result.now c.is_to_fail.result (Fits trees (shelf s) (Settle c.args.top.now)) c.as_slice.ensures.value c.as_slice-2.ensures c.is_to_fail.ensures c.if-is_to_fail.true)
          (record { failed = c.fail.ensures.failed; memory = c.fail.ensures.memory; later = c.fail.ensures.later; below = c.fail.ensures.below });
    }

pub returns-in_default : goal.returns-in_default
returns-in_default c =
    let s = c.args.self.now in
    record {
      does = fails s c.in_ok-call.call (Settle c.args.top.now) c.fail-in_default.new.calls c.fail-in_default.new.faults c.fail-in_default.result c.in_ok-call.ensures.ok (unknown_same s.entries.items s.pending.items c.args.top.now)
          (inr (no_top s c.as_slice-3.result.now c.args.top.now c.as_slice-3.ensures.value c.in_default.ensures))
          (record { failed = c.fail-in_default.ensures.failed; memory = c.fail-in_default.ensures.memory; later = c.fail-in_default.ensures.later; below = c.fail-in_default.ensures.below });
    }

pub invariant_of-self-2 : goal.invariant_of-self-2
invariant_of-self-2 c =
    let s = c.args.self.now in
    let x = c.index_mut.result.now in
    let y : TopEntry = record { name = x.name; tree = x.tree; settled = true } in
    let at = subst (λ l. IsAt c.args.top.now l c.in-Some.i) c.as_slice-3.ensures.value c.in-Some.ensures.1 in
    let name : x.name ≡ c.args.top.now = ap (λ (t : TopEntry). t.name) c.index_mut.ensures.value ∙ at_name s.entries.items c.args.top.now c.in-Some.i x at in
    let inside : c.in-Some.i < length s.entries.items = subst (λ (l : List TopEntry). c.in-Some.i < length l) c.as_slice-3.ensures.value c.in-Some.ensures.0 in
    let tree : is_tree x.tree ≡ true = subst (λ (t : TopEntry). is_tree t.tree ≡ true) (sym c.index_mut.ensures.value) (whole_at s.entries.items c.in-Some.i x inside s.whole) in
    record {
      apart = apart_set s.entries.items c.args.top.now c.in-Some.i y at name s.apart;
      whole = whole_set s.entries.items c.in-Some.i y tree s.whole;
    }

pub returns : goal.returns
returns c =
    let s = c.args.self.now in
    let x = c.index_mut.result.now in
    let at = subst (λ l. IsAt c.args.top.now l c.in-Some.i) c.as_slice-3.ensures.value c.in-Some.ensures.1 in
    record {
      does = done s (slice_set s.entries.items c.in-Some.i (record { name = x.name; tree = x.tree; settled = true })) s.pending.items c.push.new.self (Settle c.args.top.now) Did tt
          (settled_does s.entries.items s.pending.items s.calls c.push.new.self c.in_ok-call.call c.args.top.now c.in-Some.i x at c.index_mut.ensures.value c.in_ok-push.ensures.ok c.in_ok-call.ensures.ok)
          (unplanned s.fail.items c.as_slice.result.now s.entries.items s.pending.items s.calls c.as_slice-2.result.now c.is_to_fail.result Did c.as_slice.ensures.value c.as_slice-2.ensures c.is_to_fail.ensures c.if-is_to_fail.false);
    }
