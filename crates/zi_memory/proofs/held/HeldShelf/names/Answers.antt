use Rattle.std.proofs.Common.{◌∙◌, ap, Err, Ok}
use Rattle.zi_shelf.specs.Shelved.{Did}
use Rattle.zi_memory.proofs.ReadingLemmas.{unplanned, names, names_read}
use Rattle.zi_shelf.specs.Reading.{Names, FitsReading, NamesAnswer}
use Rattle.zi_memory.proofs.SeenLemmas.{read, read_fails, was_planned, shelf}
use Rattle.zi_memory.proofs.held.HeldShelf.names.Goals as goal

pub returns-then-is_to_fail : goal.returns-then-is_to_fail
returns-then-is_to_fail c =
    let s = c.args.self.now in
    record {
      reads = read_fails s c.in_ok-call.call (Names) (NamesAnswer (Err c.fail.result)) c.fail.new.calls c.fail.new.faults c.fail.result c.in_ok-call.ensures.ok tt
          (was_planned s c.as_slice.result.now c.as_slice-2.result.now c.is_to_fail.result (FitsReading (shelf s) (Names)) c.as_slice.ensures.value c.as_slice-2.ensures c.is_to_fail.ensures c.if-is_to_fail.true)
          (record { failed = c.fail.ensures.failed; memory = c.fail.ensures.memory; later = c.fail.ensures.later; below = c.fail.ensures.below });
    }

pub returns : goal.returns
returns c =
    let s = c.args.self.now in
    record {
      reads = read s c.push.new.self (Names) Did (NamesAnswer (Ok c.in_ok-names.names)) tt
          (names_read s.entries.items s.pending.items s.calls c.push.new.self c.in_ok-call.call c.in_ok-names.names s.apart (c.in_ok-names.ensures ∙ ap names c.as_slice-3.ensures.value) c.in_ok-push.ensures.ok c.in_ok-call.ensures.ok)
          (unplanned s.fail.items c.as_slice.result.now s.entries.items s.pending.items s.calls c.as_slice-2.result.now c.is_to_fail.result Did c.as_slice.ensures.value c.as_slice-2.ensures c.is_to_fail.ensures c.if-is_to_fail.false);
    }
