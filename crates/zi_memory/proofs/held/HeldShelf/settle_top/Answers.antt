use Rattle.std.proofs.Common.{refl}
use Rattle.zi_shelf.specs.Shelved.{Did, SettleTop, Fits}
use Rattle.zi_memory.proofs.DoingLemmas.{settled_top_does}
use Rattle.zi_shelf.specs.Filling.{trees}
use Rattle.zi_memory.proofs.ReadingLemmas.{unplanned}
use Rattle.zi_memory.proofs.SeenLemmas.{done, fails, was_planned, shelf}
use Rattle.zi_memory.proofs.held.HeldShelf.settle_top.Goals as goal

pub returns-then-is_to_fail : goal.returns-then-is_to_fail
returns-then-is_to_fail c =
    let s = c.args.self.now in
    record {
      does = fails s c.in_ok-call.call (SettleTop) c.fail.new.calls c.fail.new.faults c.fail.result c.in_ok-call.ensures.ok refl
          (was_planned s c.as_slice.result.now c.as_slice-2.result.now c.is_to_fail.result (Fits trees (shelf s) (SettleTop)) c.as_slice.ensures.value c.as_slice-2.ensures c.is_to_fail.ensures c.if-is_to_fail.true)
          (record { failed = c.fail.ensures.failed; memory = c.fail.ensures.memory; later = c.fail.ensures.later; below = c.fail.ensures.below });
    }

pub returns : goal.returns
returns c =
    let s = c.args.self.now in
    record {
      does = done s s.entries.items c.clear.new.self.items c.push.new.self SettleTop Did tt
          (settled_top_does s.entries.items s.pending.items c.clear.new.self.items s.calls c.push.new.self c.in_ok-call.call c.clear.ensures.items c.in_ok-push.ensures.ok c.in_ok-call.ensures.ok)
          (unplanned s.fail.items c.as_slice.result.now s.entries.items s.pending.items s.calls c.as_slice-2.result.now c.is_to_fail.result Did c.as_slice.ensures.value c.as_slice-2.ensures c.is_to_fail.ensures c.if-is_to_fail.false);
    }
