use Rattle.std.proofs.Common.{◌≡◌, List, false, None, Some, IsSome, sym, ◌∙◌, ap, subst, inl, refl}
use Rattle.zi_memory.specs.declared.top_entry.TopEntry.{TopEntry}
use Rattle.zi_shelf.specs.Names.{put}
use Rattle.zi_memory.specs.Memory.{tops_of}
use Rattle.zi_memory.proofs.DoingLemmas.{is_there, is_free, exists_does, made_does}
use Rattle.zi_shelf.specs.Shelved.{Did, Exists, MakeTop, Fits}
use Rattle.zi_shelf.specs.Filling.{trees}
use Rattle.zi_memory.proofs.ReadingLemmas.{unplanned}
use Rattle.zi_memory.proofs.SeenLemmas.{done, fails, was_planned, shelf}
use Rattle.zi_memory.proofs.held.HeldShelf.make_top.Goals as goal

pub returns-then-is_to_fail : goal.returns-then-is_to_fail
returns-then-is_to_fail c =
    let s = c.args.self.now in
    record {
      does = fails s c.in_ok-call.call (MakeTop c.args.name.now) c.fail.new.calls c.fail.new.faults c.fail.result c.in_ok-call.ensures.ok (inl refl)
          (was_planned s c.as_slice.result.now c.as_slice-2.result.now c.is_to_fail.result (Fits trees (shelf s) (MakeTop c.args.name.now)) c.as_slice.ensures.value c.as_slice-2.ensures c.is_to_fail.ensures c.if-is_to_fail.true)
          (record { failed = c.fail.ensures.failed; memory = c.fail.ensures.memory; later = c.fail.ensures.later; below = c.fail.ensures.below });
    }

pub returns-then-is_some : goal.returns-then-is_some
returns-then-is_some c =
    let s = c.args.self.now in
    let there = subst (λ l. IsSome (tops_of l c.args.name.now)) c.as_slice-3.ensures.value (is_there c.as_slice-3.result.now c.args.name.now c.find_top.result c.find_top.ensures (sym c.is_some.ensures ∙ c.if-is_some.true)) in
    record {
      does = done s s.entries.items s.pending.items c.push.new.self (MakeTop c.args.name.now) Exists tt
          (exists_does s.entries.items s.pending.items s.calls c.push.new.self c.in_ok-call.call c.args.name.now there c.in_ok-push.ensures.ok c.in_ok-call.ensures.ok)
          (unplanned s.fail.items c.as_slice.result.now s.entries.items s.pending.items s.calls c.as_slice-2.result.now c.is_to_fail.result Exists c.as_slice.ensures.value c.as_slice-2.ensures c.is_to_fail.ensures c.if-is_to_fail.false);
    }

pub put_in-requires-clause-free : goal.put_in-requires-clause-free
put_in-requires-clause-free c =
    let free = subst (λ l. tops_of l c.args.name.now ≡ None) c.as_slice-3.ensures.value (is_free c.as_slice-3.result.now c.args.name.now c.find_top.result c.find_top.ensures (sym c.is_some.ensures ∙ c.if-is_some.false)) in
    rw (c.in_ok-room.ensures.same, c.in_ok-from_str.ensures) free

pub returns : goal.returns
returns c =
    let s = c.args.self.now in
    let free = subst (λ l. tops_of l c.args.name.now ≡ None) c.as_slice-3.ensures.value (is_free c.as_slice-3.result.now c.args.name.now c.find_top.result c.find_top.ensures (sym c.is_some.ensures ∙ c.if-is_some.false)) in
    record {
      does = done s c.put_in.new.entries.items s.pending.items c.push-2.new.self (MakeTop c.args.name.now) Did tt
          (made_does s.entries.items c.put_in.new.entries.items s.pending.items s.calls c.push-2.new.self c.in_ok-call.call c.args.name.now c.in_ok-from_str.field-0 c.new.result free c.in_ok-from_str.ensures c.new.ensures
          (c.put_in.ensures.tops ∙ ap (λ (l : List TopEntry). put (tops_of l) c.in_ok-from_str.field-0 (Some (record { tree = c.new.result; settled = false }))) c.in_ok-room.ensures.same) c.in_ok-push-2.ensures.ok c.in_ok-call.ensures.ok)
          (unplanned s.fail.items c.as_slice.result.now s.entries.items s.pending.items s.calls c.as_slice-2.result.now c.is_to_fail.result Did c.as_slice.ensures.value c.as_slice-2.ensures c.is_to_fail.ensures c.if-is_to_fail.false);
    }
