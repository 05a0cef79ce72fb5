use Rattle.std.proofs.Common.{◌∙◌, subst, ap, inr, Err, Ok}
use Rattle.zi_tree.specs.Dir.{Dir}
use Rattle.zi_tree.specs.Paths.{found}
use Rattle.zi_memory.specs.Memory.{IsAt}
use Rattle.zi_shelf.specs.Shelved.{Did, Top}
use Rattle.zi_shelf.specs.Reading.{Target, IsLink, FitsReading, TargetAnswer}
use Rattle.zi_memory.proofs.ReadingLemmas.{unplanned, wrong_kind, link_read}
use Rattle.zi_memory.proofs.SeenLemmas.{read, read_fails, was_planned, no_entry, shelf}
use Rattle.zi_shelf.specs.Told.{plain_call}
use Rattle.zi_shelf.specs.declared.call.CallKind.TheVariants as kind
use Rattle.zi_memory.proofs.held.HeldShelf.target.Goals as goal

pub returns-then-is_to_fail : goal.returns-then-is_to_fail
returns-then-is_to_fail c =
    let s = c.args.self.now in
    record {
      reads = read_fails s c.in_ok-call.call (Target c.args.top.now c.args.path.now) (TargetAnswer c.args.top.now c.args.path.now (Err c.fail.result)) c.fail.new.calls c.fail.new.faults c.fail.result (c.in_ok-call.ensures.ok ∙ ap (λ p. plain_call kind.Target c.args.top.now p) (c.as_str.ensures ∙ c.in_ok-place.ensures)) tt
          (was_planned s c.as_slice.result.now c.as_slice-2.result.now c.is_to_fail.result (FitsReading (shelf s) (Target c.args.top.now c.args.path.now)) c.as_slice.ensures.value c.as_slice-2.ensures c.is_to_fail.ensures c.if-is_to_fail.true)
          (record { failed = c.fail.ensures.failed; memory = c.fail.ensures.memory; later = c.fail.ensures.later; below = c.fail.ensures.below });
    }

pub returns-in_default : goal.returns-in_default
returns-in_default c =
    let s = c.args.self.now in
    record {
      reads = read_fails s c.in_ok-call.call (Target c.args.top.now c.args.path.now) (TargetAnswer c.args.top.now c.args.path.now (Err c.fail-in_default.result)) c.fail-in_default.new.calls c.fail-in_default.new.faults c.fail-in_default.result (c.in_ok-call.ensures.ok ∙ ap (λ p. plain_call kind.Target c.args.top.now p) (c.as_str.ensures ∙ c.in_ok-place.ensures)) tt
          (inr (no_entry s (λ (e : Top Dir). IsLink (found c.args.path.now e.tree)) c.as_slice-3.result.now c.args.top.now c.as_slice-3.ensures.value c.in_default.ensures))
          (record { failed = c.fail-in_default.ensures.failed; memory = c.fail-in_default.ensures.memory; later = c.fail-in_default.ensures.later; below = c.fail-in_default.ensures.below });
    }

pub returns-in_default-link_in : goal.returns-in_default-link_in
returns-in_default-link_in c =
    let s = c.args.self.now in
    let at = subst (λ l. IsAt c.args.top.now l c.in-Some.i) c.as_slice-3.ensures.value c.in-Some.ensures.1 in
    record {
      reads = read_fails s c.in_ok-call.call (Target c.args.top.now c.args.path.now) (TargetAnswer c.args.top.now c.args.path.now (Err c.fail-in_default-link_in.result)) c.fail-in_default-link_in.new.calls c.fail-in_default-link_in.new.faults c.fail-in_default-link_in.result (c.in_ok-call.ensures.ok ∙ ap (λ p. plain_call kind.Target c.args.top.now p) (c.as_str.ensures ∙ c.in_ok-place.ensures)) tt
          (inr (wrong_kind (λ (d : Dir). IsLink (found c.args.path.now d)) s.entries.items c.args.top.now c.in-Some.i c.index.result.now at c.index.ensures c.in_default-link_in.ensures))
          (record { failed = c.fail-in_default-link_in.ensures.failed; memory = c.fail-in_default-link_in.ensures.memory; later = c.fail-in_default-link_in.ensures.later; below = c.fail-in_default-link_in.ensures.below });
    }

pub returns : goal.returns
returns c =
    let s = c.args.self.now in
    let at = subst (λ l. IsAt c.args.top.now l c.in-Some.i) c.as_slice-3.ensures.value c.in-Some.ensures.1 in
    record {
      reads = read s c.push.new.self (Target c.args.top.now c.args.path.now) Did (TargetAnswer c.args.top.now c.args.path.now (Ok c.in_ok-target.target)) tt
          (link_read s.entries.items s.pending.items s.calls c.push.new.self c.in_ok-call.call c.args.top.now c.as_str.result.now c.args.path.now c.in-Some.i c.index.result.now c.in-Some-link_in.target.now c.in_ok-target.target at c.index.ensures c.in-Some-link_in.ensures c.in_ok-target.ensures
          c.in_ok-push.ensures.ok c.in_ok-call.ensures.ok (c.as_str.ensures ∙ c.in_ok-place.ensures))
          (unplanned s.fail.items c.as_slice.result.now s.entries.items s.pending.items s.calls c.as_slice-2.result.now c.is_to_fail.result Did c.as_slice.ensures.value c.as_slice-2.ensures c.is_to_fail.ensures c.if-is_to_fail.false);
    }
