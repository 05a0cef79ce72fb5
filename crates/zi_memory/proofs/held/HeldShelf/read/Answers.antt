use Rattle.std.proofs.Common.{◌∙◌, ◌++◌, List, ℕ, ap, subst, take, drop, inr, Err, Ok}
use Rattle.zi_tree.specs.Dir.{Dir}
use Rattle.zi_tree.specs.Paths.{found}
use Rattle.zi_memory.specs.Memory.{IsAt}
use Rattle.zi_shelf.specs.Shelved.{Did, Top}
use Rattle.zi_shelf.specs.Reading.{Read, IsFile, FitsReading, ReadAnswer}
use Rattle.zi_memory.proofs.ReadingLemmas.{unplanned, wrong_kind, file_read, whole_read}
use Rattle.zi_memory.proofs.SeenLemmas.{read, read_fails, was_planned, no_entry, shelf}
use Rattle.zi_shelf.specs.Told.{plain_call}
use Rattle.zi_shelf.specs.declared.call.ShelfCall.{ShelfCall}
use Rattle.zi_shelf.specs.declared.call.CallKind.TheVariants as kind
use Rattle.zi_memory.proofs.held.HeldShelf.read.Goals as goal

pub returns-then-is_to_fail-clause-reads : goal.returns-then-is_to_fail-clause-reads
returns-then-is_to_fail-clause-reads c =
    let s = c.args.self.now in
    read_fails s (record c.in_ok-call.call { offset = c.args.offset; max = c.args.max }) (Read c.args.top.now c.args.path.now c.args.offset c.args.max) (ReadAnswer {T = Unit {0}} (Read c.args.top.now c.args.path.now c.args.offset c.args.max) c.args.into.now.items (Err c.fail.result) c.args.into.now.items) c.fail.new.calls c.fail.new.faults c.fail.result (ap (λ (k : ShelfCall). let l : ShelfCall = record k { offset = c.args.offset; max = c.args.max } in l) (c.in_ok-call.ensures.ok ∙ ap (λ p. plain_call kind.Read c.args.top.now p) (c.as_str.ensures ∙ c.in_ok-place.ensures))) tt
    (was_planned s c.as_slice.result.now c.as_slice-2.result.now c.is_to_fail.result (FitsReading (shelf s) (Read c.args.top.now c.args.path.now c.args.offset c.args.max)) c.as_slice.ensures.value c.as_slice-2.ensures c.is_to_fail.ensures c.if-is_to_fail.true)
    (record { failed = c.fail.ensures.failed; memory = c.fail.ensures.memory; later = c.fail.ensures.later; below = c.fail.ensures.below })

pub returns-in_default-clause-reads : goal.returns-in_default-clause-reads
returns-in_default-clause-reads c =
    let s = c.args.self.now in
    read_fails s (record c.in_ok-call.call { offset = c.args.offset; max = c.args.max }) (Read c.args.top.now c.args.path.now c.args.offset c.args.max) (ReadAnswer {T = Unit {0}} (Read c.args.top.now c.args.path.now c.args.offset c.args.max) c.args.into.now.items (Err c.fail-in_default.result) c.args.into.now.items) c.fail-in_default.new.calls c.fail-in_default.new.faults c.fail-in_default.result (ap (λ (k : ShelfCall). let l : ShelfCall = record k { offset = c.args.offset; max = c.args.max } in l) (c.in_ok-call.ensures.ok ∙ ap (λ p. plain_call kind.Read c.args.top.now p) (c.as_str.ensures ∙ c.in_ok-place.ensures))) tt
    (inr (no_entry s (λ (e : Top Dir). IsFile (found c.args.path.now e.tree)) c.as_slice-3.result.now c.args.top.now c.as_slice-3.ensures.value c.in_default.ensures))
    (record { failed = c.fail-in_default.ensures.failed; memory = c.fail-in_default.ensures.memory; later = c.fail-in_default.ensures.later; below = c.fail-in_default.ensures.below })

pub returns-in_default-file_in-clause-reads : goal.returns-in_default-file_in-clause-reads
returns-in_default-file_in-clause-reads c =
    let s = c.args.self.now in
    let at = subst (λ l. IsAt c.args.top.now l c.in-Some.i) c.as_slice-3.ensures.value c.in-Some.ensures.1 in
    read_fails s (record c.in_ok-call.call { offset = c.args.offset; max = c.args.max }) (Read c.args.top.now c.args.path.now c.args.offset c.args.max) (ReadAnswer {T = Unit {0}} (Read c.args.top.now c.args.path.now c.args.offset c.args.max) c.args.into.now.items (Err c.fail-in_default-file_in.result) c.args.into.now.items) c.fail-in_default-file_in.new.calls c.fail-in_default-file_in.new.faults c.fail-in_default-file_in.result (ap (λ (k : ShelfCall). let l : ShelfCall = record k { offset = c.args.offset; max = c.args.max } in l) (c.in_ok-call.ensures.ok ∙ ap (λ p. plain_call kind.Read c.args.top.now p) (c.as_str.ensures ∙ c.in_ok-place.ensures))) tt
    (inr (wrong_kind (λ (d : Dir). IsFile (found c.args.path.now d)) s.entries.items c.args.top.now c.in-Some.i c.index.result.now at c.index.ensures c.in_default-file_in.ensures))
    (record { failed = c.fail-in_default-file_in.ensures.failed; memory = c.fail-in_default-file_in.ensures.memory; later = c.fail-in_default-file_in.ensures.later; below = c.fail-in_default-file_in.ensures.below })

pub returns-clause-reads : goal.returns-clause-reads
returns-clause-reads c =
    let s = c.args.self.now in
    let at = subst (λ l. IsAt c.args.top.now l c.in-Some.i) c.as_slice-3.ensures.value c.in-Some.ensures.1 in
    let piece = c.piece_of-piece.ensures ∙ ap (λ (l : List ℕ). take c.args.max (drop c.args.offset l)) c.as_slice-4.ensures in
    let made = c.put_piece.ensures ∙ ap (λ (l : List ℕ). l ++ c.piece_of-piece.result.now) c.in_ok-room_in.ensures.same in
    read s c.push.new.self (Read c.args.top.now c.args.path.now c.args.offset c.args.max) Did (ReadAnswer {T = Unit {0}} (Read c.args.top.now c.args.path.now c.args.offset c.args.max) c.args.into.now.items (Ok tt) c.put_piece.new.into.items) tt
    (file_read s.entries.items s.pending.items s.calls c.push.new.self c.in_ok-call.call c.args.top.now c.as_str.result.now c.args.path.now c.args.offset c.args.max c.in-Some.i c.index.result.now c.in-Some-file_in.bytes.now c.piece_of-piece.result.now c.args.into.now.items
    c.put_piece.new.into.items at c.index.ensures c.in-Some-file_in.ensures piece made c.in_ok-push.ensures.ok c.in_ok-call.ensures.ok (c.as_str.ensures ∙ c.in_ok-place.ensures))
    (unplanned s.fail.items c.as_slice.result.now s.entries.items s.pending.items s.calls c.as_slice-2.result.now c.is_to_fail.result Did c.as_slice.ensures.value c.as_slice-2.ensures c.is_to_fail.ensures c.if-is_to_fail.false)

pub returns-clause-whole : goal.returns-clause-whole
returns-clause-whole c =
    let s = c.args.self.now in
    let at = subst (λ l. IsAt c.args.top.now l c.in-Some.i) c.as_slice-3.ensures.value c.in-Some.ensures.1 in
    let piece = c.piece_of-piece.ensures ∙ ap (λ (l : List ℕ). take c.args.max (drop c.args.offset l)) c.as_slice-4.ensures in
    let made = c.put_piece.ensures ∙ ap (λ (l : List ℕ). l ++ c.piece_of-piece.result.now) c.in_ok-room_in.ensures.same in
    whole_read s.entries.items s.pending.items s.calls c.args.top.now c.args.path.now c.args.offset c.args.max c.in-Some.i c.index.result.now c.in-Some-file_in.bytes.now c.piece_of-piece.result.now c.args.into.now.items
    c.put_piece.new.into.items at c.index.ensures c.in-Some-file_in.ensures piece made
