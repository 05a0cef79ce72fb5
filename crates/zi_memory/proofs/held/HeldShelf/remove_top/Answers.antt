use Rattle.std.proofs.Common.{List, [], ◌∷◌, ◌++◌, ◌∙◌, ap, subst, inl, inr}
use Rattle.zi_memory.specs.declared.top_entry.Later.{Later}
use Rattle.zi_memory.specs.declared.top_entry.Later.TheVariants.{RemovedTop}
use Rattle.zi_memory.specs.Memory.{IsAt}
use Rattle.zi_shelf.specs.Shelved.{RemoveTop, Did, Fits}
use Rattle.zi_memory.proofs.TopsLemmas.{apart_remove}
use Rattle.zi_memory.proofs.WholeLemmas.{whole_remove}
use Rattle.zi_memory.proofs.DoingLemmas.{unknown_same, removed_does}
use Rattle.zi_shelf.specs.Filling.{trees}
use Rattle.zi_memory.proofs.ReadingLemmas.{unplanned}
use Rattle.zi_memory.proofs.SeenLemmas.{done, fails, was_planned, no_top, shelf}
use Rattle.zi_memory.proofs.held.HeldShelf.remove_top.Goals as goal

pub returns-then-is_to_fail : goal.returns-then-is_to_fail
returns-then-is_to_fail c =
    let s = c.args.self.now in
    record {
      does = fails s c.in_ok-call.call (RemoveTop c.args.name.now) c.fail.new.calls c.fail.new.faults c.fail.result c.in_ok-call.ensures.ok (inl (unknown_same s.entries.items s.pending.items c.args.name.now))
          (was_planned s c.as_slice.result.now c.as_slice-2.result.now c.is_to_fail.result (Fits trees (shelf s) (RemoveTop c.args.name.now)) c.as_slice.ensures.value c.as_slice-2.ensures c.is_to_fail.ensures c.if-is_to_fail.true)
          (record { failed = c.fail.ensures.failed; memory = c.fail.ensures.memory; later = c.fail.ensures.later; below = c.fail.ensures.below });
    }

pub returns-in_default : goal.returns-in_default
returns-in_default c =
    let s = c.args.self.now in
    record {
      does = fails s c.in_ok-call.call (RemoveTop c.args.name.now) c.fail-in_default.new.calls c.fail-in_default.new.faults c.fail-in_default.result c.in_ok-call.ensures.ok (inl (unknown_same s.entries.items s.pending.items c.args.name.now))
          (inr (no_top s c.as_slice-3.result.now c.args.name.now c.as_slice-3.ensures.value c.in_default.ensures))
          (record { failed = c.fail-in_default.ensures.failed; memory = c.fail-in_default.ensures.memory; later = c.fail-in_default.ensures.later; below = c.fail-in_default.ensures.below });
    }

pub invariant_of-self-2 : goal.invariant_of-self-2
invariant_of-self-2 c =
    let s = c.args.self.now in
    record {
      apart = rw c.remove-entry.ensures.items (apart_remove s.entries.items c.in-Some.i s.apart);
      whole = rw c.remove-entry.ensures.items (whole_remove s.entries.items c.in-Some.i s.whole);
    }

pub returns : goal.returns
returns c =
    let s = c.args.self.now in
    let at = subst (λ l. IsAt c.args.name.now l c.in-Some.i) c.as_slice-3.ensures.value c.in-Some.ensures.1 in
    record {
      does = done s c.remove-entry.new.self.items c.put_newest.new.pending.items c.push.new.self (RemoveTop c.args.name.now) Did tt
          (removed_does s.entries.items c.remove-entry.new.self.items s.pending.items c.put_newest.new.pending.items s.calls c.push.new.self c.in_ok-call.call c.args.name.now c.in-Some.i c.remove-entry.result at s.apart c.remove-entry.ensures.value
          c.remove-entry.ensures.items (c.put_newest.ensures ∙ ap (λ (l : List Later). l ++ RemovedTop c.remove-entry.result ∷ []) c.in_ok-room_for.ensures.same) c.in_ok-push.ensures.ok c.in_ok-call.ensures.ok)
          (unplanned s.fail.items c.as_slice.result.now s.entries.items s.pending.items s.calls c.as_slice-2.result.now c.is_to_fail.result Did c.as_slice.ensures.value c.as_slice-2.ensures c.is_to_fail.ensures c.if-is_to_fail.false);
    }
