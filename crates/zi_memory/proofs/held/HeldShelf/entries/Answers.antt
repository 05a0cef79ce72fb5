use Rattle.std.proofs.Common.{◌∙◌, subst, ap, inr, Err, Ok, ◌≡◌, None}
use Rattle.zi_memory.specs.Memory.{IsAt, tops_of}
use Rattle.zi_shelf.specs.Shelved.{Did}
use Rattle.zi_shelf.specs.Reading.{Entries, FitsReading, EntriesAnswer, question_call}
use Rattle.zi_memory.proofs.ReadingLemmas.{unplanned, no_folder, entries_read, reads}
use Rattle.zi_memory.proofs.DoingLemmas.{calls_more}
use Rattle.zi_memory.proofs.SeenLemmas.{read, read_fails, was_planned, shelf}
use Rattle.zi_shelf.specs.Told.{plain_call}
use Rattle.zi_shelf.specs.declared.shelf.Listed.TheVariants.{Absent, Entries as AllEntries}
use Rattle.zi_shelf.specs.declared.call.CallKind.TheVariants as kind
use Rattle.zi_memory.proofs.held.HeldShelf.entries.Goals as goal

pub returns-then-is_to_fail : goal.returns-then-is_to_fail
returns-then-is_to_fail c =
    let s = c.args.self.now in
    record {
      reads = read_fails s c.in_ok-call.call (Entries c.args.top.now c.args.path.now) (EntriesAnswer c.args.top.now c.args.path.now (Err c.fail.result)) c.fail.new.calls c.fail.new.faults c.fail.result (c.in_ok-call.ensures.ok ∙ ap (λ p. plain_call kind.Entries c.args.top.now p) (c.as_str.ensures ∙ c.in_ok-place.ensures)) tt
          (was_planned s c.as_slice.result.now c.as_slice-2.result.now c.is_to_fail.result (FitsReading (shelf s) (Entries c.args.top.now c.args.path.now)) c.as_slice.ensures.value c.as_slice-2.ensures c.is_to_fail.ensures c.if-is_to_fail.true)
          (record { failed = c.fail.ensures.failed; memory = c.fail.ensures.memory; later = c.fail.ensures.later; below = c.fail.ensures.below });
    }

pub returns-in_default : goal.returns-in_default
returns-in_default c =
    let s = c.args.self.now in
    let none = subst (λ l. tops_of l c.args.top.now ≡ None) c.as_slice-3.ensures.value c.in_default.ensures in
    record {
      reads = read s c.push.new.self (Entries c.args.top.now c.args.path.now) Did (EntriesAnswer c.args.top.now c.args.path.now (Ok Absent)) tt
          (reads s.entries.items s.pending.items s.calls c.push.new.self (Entries c.args.top.now c.args.path.now) Did (EntriesAnswer c.args.top.now c.args.path.now (Ok Absent)) none (calls_more s.calls c.push.new.self c.in_ok-call.call (question_call (Entries c.args.top.now c.args.path.now)) c.in_ok-push.ensures.ok (c.in_ok-call.ensures.ok ∙ ap (λ p. plain_call kind.Entries c.args.top.now p) (c.as_str.ensures ∙ c.in_ok-place.ensures))))
          (unplanned s.fail.items c.as_slice.result.now s.entries.items s.pending.items s.calls c.as_slice-2.result.now c.is_to_fail.result Did c.as_slice.ensures.value c.as_slice-2.ensures c.is_to_fail.ensures c.if-is_to_fail.false);
    }

pub returns-in_default-folder_in : goal.returns-in_default-folder_in
returns-in_default-folder_in c =
    let s = c.args.self.now in
    let at = subst (λ l. IsAt c.args.top.now l c.in-Some.i) c.as_slice-3.ensures.value c.in-Some.ensures.1 in
    record {
      reads = read_fails s c.in_ok-call.call (Entries c.args.top.now c.args.path.now) (EntriesAnswer c.args.top.now c.args.path.now (Err c.fail-in_default-folder_in.result)) c.fail-in_default-folder_in.new.calls c.fail-in_default-folder_in.new.faults c.fail-in_default-folder_in.result (c.in_ok-call.ensures.ok ∙ ap (λ p. plain_call kind.Entries c.args.top.now p) (c.as_str.ensures ∙ c.in_ok-place.ensures)) tt
          (inr (no_folder s.entries.items c.args.top.now c.args.path.now c.in-Some.i c.index.result.now at c.index.ensures c.in_default-folder_in.ensures))
          (record { failed = c.fail-in_default-folder_in.ensures.failed; memory = c.fail-in_default-folder_in.ensures.memory; later = c.fail-in_default-folder_in.ensures.later; below = c.fail-in_default-folder_in.ensures.below });
    }

pub returns : goal.returns
returns c =
    let s = c.args.self.now in
    let at = subst (λ l. IsAt c.args.top.now l c.in-Some.i) c.as_slice-3.ensures.value c.in-Some.ensures.1 in
    record {
      reads = read s c.push-2.new.self (Entries c.args.top.now c.args.path.now) Did (EntriesAnswer c.args.top.now c.args.path.now (Ok (AllEntries c.in_ok-listing.listing))) tt
          (entries_read s.entries.items s.pending.items s.calls c.push-2.new.self c.in_ok-call.call c.args.top.now c.as_str.result.now c.args.path.now c.in-Some.i c.index.result.now c.in-Some-folder_in.folder.now c.in_ok-listing.listing at c.index.ensures c.in-Some-folder_in.ensures
          c.in_ok-listing.ensures c.in_ok-push-2.ensures.ok c.in_ok-call.ensures.ok (c.as_str.ensures ∙ c.in_ok-place.ensures))
          (unplanned s.fail.items c.as_slice.result.now s.entries.items s.pending.items s.calls c.as_slice-2.result.now c.is_to_fail.result Did c.as_slice.ensures.value c.as_slice-2.ensures c.is_to_fail.ensures c.if-is_to_fail.false);
    }
