use Rattle.std.proofs.Common.{◌≡◌, List, [], ◌∷◌, ◌++◌, None, Some, IsSome, refl, sym, ◌∙◌, ap, subst, inl, inr}
use Rattle.zi_memory.specs.declared.top_entry.TopEntry.{TopEntry}
use Rattle.zi_memory.specs.declared.top_entry.Later.{Later}
use Rattle.zi_memory.specs.declared.top_entry.Later.TheVariants.{RenamedTop}
use Rattle.zi_shelf.specs.Names.{put}
use Rattle.zi_memory.specs.Memory.{top_of, tops_of, are_apart, are_trees, IsAt}
use Rattle.zi_shelf.specs.Shelved.{Did, Exists, Rename, Fits}
use Rattle.zi_memory.proofs.TopsLemmas.{apart_remove, free_remove}
use Rattle.zi_memory.proofs.WholeLemmas.{whole_remove}
use Rattle.zi_memory.proofs.DoingLemmas.{is_there, is_free, exists_name_does, renamed_does}
use Rattle.zi_shelf.specs.Filling.{trees}
use Rattle.zi_memory.proofs.ReadingLemmas.{unplanned}
use Rattle.zi_memory.proofs.SeenLemmas.{done, fails, was_planned, no_top, shelf}
use Rattle.zi_memory.proofs.held.HeldShelf.rename.Goals as goal

pub returns-then-is_to_fail : goal.returns-then-is_to_fail
returns-then-is_to_fail c =
    let s = c.args.self.now in
    record {
      does = fails s c.in_ok-call.call (Rename c.args.from.now c.args.to.now) c.fail.new.calls c.fail.new.faults c.fail.result c.in_ok-call.ensures.ok (inl refl)
          (was_planned s c.as_slice.result.now c.as_slice-2.result.now c.is_to_fail.result (Fits trees (shelf s) (Rename c.args.from.now c.args.to.now)) c.as_slice.ensures.value c.as_slice-2.ensures c.is_to_fail.ensures c.if-is_to_fail.true)
          (record { failed = c.fail.ensures.failed; memory = c.fail.ensures.memory; later = c.fail.ensures.later; below = c.fail.ensures.below });
    }

pub returns-in_default : goal.returns-in_default
returns-in_default c =
    let s = c.args.self.now in
    record {
      does = fails s c.in_ok-call.call (Rename c.args.from.now c.args.to.now) c.fail-in_default.new.calls c.fail-in_default.new.faults c.fail-in_default.result c.in_ok-call.ensures.ok (inl refl)
          (inr (no_top s c.as_slice-3.result.now c.args.from.now c.as_slice-3.ensures.value c.in_default.ensures))
          (record { failed = c.fail-in_default.ensures.failed; memory = c.fail-in_default.ensures.memory; later = c.fail-in_default.ensures.later; below = c.fail-in_default.ensures.below });
    }

pub returns-then-is_some : goal.returns-then-is_some
returns-then-is_some c =
    let s = c.args.self.now in
    let from = subst (λ l. IsSome (tops_of l c.args.from.now)) c.as_slice-3.ensures.value (is_there c.as_slice-3.result.now c.args.from.now (Some c.in-Some.i) c.in-Some.ensures refl) in
    let there = subst (λ l. IsSome (tops_of l c.args.to.now)) c.as_slice-4.ensures.value (is_there c.as_slice-4.result.now c.args.to.now c.find_top-2.result c.find_top-2.ensures (sym c.is_some.ensures ∙ c.if-is_some.true)) in
    record {
      does = done s s.entries.items s.pending.items c.push.new.self (Rename c.args.from.now c.args.to.now) Exists tt
          (exists_name_does s.entries.items s.pending.items s.calls c.push.new.self c.in_ok-call.call c.args.from.now c.args.to.now from there c.in_ok-push.ensures.ok c.in_ok-call.ensures.ok)
          (unplanned s.fail.items c.as_slice.result.now s.entries.items s.pending.items s.calls c.as_slice-2.result.now c.is_to_fail.result Exists c.as_slice.ensures.value c.as_slice-2.ensures c.is_to_fail.ensures c.if-is_to_fail.false);
    }

pub put_in-requires-clause-apart : goal.put_in-requires-clause-apart
put_in-requires-clause-apart c =
    let s = c.args.self.now in
    ap are_apart c.remove-entry.ensures.items ∙ apart_remove s.entries.items c.in-Some.i s.apart

pub put_in-requires-clause-free : goal.put_in-requires-clause-free
put_in-requires-clause-free c =
    let s = c.args.self.now in
    let at = subst (λ l. IsAt c.args.from.now l c.in-Some.i) c.as_slice-3.ensures.value c.in-Some.ensures.1 in
    let free = subst (λ l. tops_of l c.args.to.now ≡ None) c.as_slice-4.ensures.value (is_free c.as_slice-4.result.now c.args.to.now c.find_top-2.result c.find_top-2.ensures (sym c.is_some.ensures ∙ c.if-is_some.false)) in
    rw (c.remove-entry.ensures.items, c.in_ok-name.ensures) (free_remove s.entries.items c.args.from.now c.args.to.now c.in-Some.i at free)

pub invariant_of-self-2 : goal.invariant_of-self-2
invariant_of-self-2 c =
    let s = c.args.self.now in
    record {
      apart = c.put_in.ensures.apart;
      whole = c.put_in.ensures.whole (ap are_trees c.remove-entry.ensures.items ∙ whole_remove s.entries.items c.in-Some.i s.whole);
    }

pub returns : goal.returns
returns c =
    let s = c.args.self.now in
    let x = c.remove-entry.result in
    let at = subst (λ l. IsAt c.args.from.now l c.in-Some.i) c.as_slice-3.ensures.value c.in-Some.ensures.1 in
    let free = subst (λ l. tops_of l c.args.to.now ≡ None) c.as_slice-4.ensures.value (is_free c.as_slice-4.result.now c.args.to.now c.find_top-2.result c.find_top-2.ensures (sym c.is_some.ensures ∙ c.if-is_some.false)) in
    record {
      does = done s c.put_in.new.entries.items c.put_newest.new.pending.items c.push-2.new.self (Rename c.args.from.now c.args.to.now) Did tt
          (renamed_does s.entries.items c.put_in.new.entries.items s.pending.items c.put_newest.new.pending.items s.calls c.push-2.new.self c.in_ok-call.call c.args.from.now c.args.to.now c.in_ok-name.name c.in_ok-old.old c.in_ok-new.new c.in-Some.i x at s.apart free
          c.in_ok-name.ensures c.in_ok-old.ensures c.in_ok-new.ensures c.remove-entry.ensures.value
          (c.put_in.ensures.tops ∙ ap (λ (l : List TopEntry). put (tops_of l) c.in_ok-name.name (Some (top_of x))) c.remove-entry.ensures.items)
          (c.put_newest.ensures ∙ ap (λ (l : List Later). l ++ RenamedTop c.in_ok-old.old c.in_ok-new.new ∷ []) c.in_ok-room_for.ensures.same) c.in_ok-push-2.ensures.ok c.in_ok-call.ensures.ok)
          (unplanned s.fail.items c.as_slice.result.now s.entries.items s.pending.items s.calls c.as_slice-2.result.now c.is_to_fail.result Did c.as_slice.ensures.value c.as_slice-2.ensures c.is_to_fail.ensures c.if-is_to_fail.false);
    }
