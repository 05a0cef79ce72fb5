use Rattle.std.proofs.Common.{rules, refl, ◌∙◌}
use Rattle.std.proofs.lemmas.Result.{err_from_is_err_and}
use Rattle.zi_manifest.specs.Walk.{shown}
use Rattle.zi_store.specs.Keeping.{is_reading}
use Rattle.zi_store.proofs.KeepingLemmas.{keeps_none, keeps_then, stands_later, rose_later}
use Rattle.zi_store.proofs.WalkLemmas.{failed_passed}
use Rattle.zi_store.proofs.LoopLemmas.{next_asks, left_at, left_none}
use Rattle.zi_store.proofs.WritingLemmas.{write_start, write_more, write_stops, write_end}
use Rattle.zi_store.proofs.SomeTreeLemmas.{leaves_none, leaves_then}
use Rattle.zi_store.proofs.written.write_leaves.Goals as goal

pub loop-entry-init : goal.loop-entry-init
loop-entry-init g c = (
  keeps_none is_reading _,
  λ whole d st t e. write_start c.args.a c.args.at.text.now (shown whole d) _ c.args.written.now e,
  refl,
  leaves_none c.args.a c.args.at.text.now c.args.written.now,
)

pub returns-in_err-write_leaf-clause-walks : goal.returns-in_err-write_leaf-clause-walks
returns-in_err-write_leaf-clause-walks g c whole d st t e =
    let p = err_from_is_err_and c.from_residual.result c.from_residual.ensures.1 in
    let l = c.loop-entry in
    let left = left_at c.args.entries.now l.entry-index c.entry-item.result (search rules) c.entry-item.is in
    write_stops (tt {0}) c.args.a c.args.at.text.now whole d c.entry-item.result _ _ c.args.written.now l.written c.write_leaf.new.written c.write_leaf.new.written.counts.nodes c.write_leaf.new.written.counts.bytes
    c.from_residual.result p.0 c.in_err-write_leaf.field-0.0 p.1 p.2 (stands_later l.invariant.0 st) t (l.invariant.1 whole d st t e) left c.in_err-write_leaf.ensures.walks

pub returns-in_err-write_leaf-clause-keeps : goal.returns-in_err-write_leaf-clause-keeps
returns-in_err-write_leaf-clause-keeps g c = keeps_then c.loop-entry.invariant.0 c.in_err-write_leaf.ensures.keeps

pub returns-in_err-write_leaf-clause-cause : goal.returns-in_err-write_leaf-clause-cause
returns-in_err-write_leaf-clause-cause g c e =
    let p = err_from_is_err_and c.from_residual.result c.from_residual.ensures.1 in
    rose_later _ _ _ c.loop-entry.invariant.0.later (c.in_err-write_leaf.ensures.cause (failed_passed c.from_residual.result p.0 c.in_err-write_leaf.field-0.0 p.1 p.2 e))

pub returns-in_err-write_leaf-clause-sure : goal.returns-in_err-write_leaf-clause-sure
returns-in_err-write_leaf-clause-sure g c sure whole d st t e f =
    let p = err_from_is_err_and c.from_residual.result c.from_residual.ensures.1 in
    let l = c.loop-entry in
    let left = left_at c.args.entries.now l.entry-index c.entry-item.result (search rules) c.entry-item.is in
    next_asks whole d c.entry-item.result _ _ (stands_later l.invariant.0 st) t (l.invariant.1 whole d st t e).at_ left
    (λ x listed tree. c.in_err-write_leaf.ensures.sure (l.invariant.0.stays.sure sure) x listed (failed_passed c.from_residual.result p.0 c.in_err-write_leaf.field-0.0 p.1 p.2 f))

pub loop-entry-preserved : goal.loop-entry-preserved
loop-entry-preserved g c =
    let l = c.loop-entry in
    let left = left_at c.args.entries.now l.entry-index c.entry-item.result (search rules) c.entry-item.is in (
      keeps_then l.invariant.0 c.in_ok-write_leaf.ensures.keeps,
      λ whole d st t e.
          write_more c.args.a c.args.at.text.now whole d c.entry-item.result _ _ c.args.written.now l.written c.write_leaf.new.written
          (stands_later l.invariant.0 st) t (l.invariant.1 whole d st t e) left (λ x listed. (c.in_ok-write_leaf.ensures.walks x listed).1) c.in_ok-write_leaf.ensures.adds,
      c.in_ok-write_leaf.ensures.count (λ e. cc e) ∙ l.invariant.2,
      leaves_then c.args.a c.args.at.text.now c.args.written.now l.written c.write_leaf.new.written l.invariant.3 c.in_ok-write_leaf.ensures.tree,
    )

pub returns-clause-walks : goal.returns-clause-walks
returns-clause-walks g c whole d st t e =
    let l = c.loop-entry in
    (refl, (write_end c.args.a c.args.at.text.now (shown whole d) _ c.args.written.now l.written (left_none c.args.entries.now l.entry-index (search rules)) (l.invariant.1 whole d st t e)).1)

pub returns-clause-adds : goal.returns-clause-adds
returns-clause-adds g c whole d st t e =
    let l = c.loop-entry in
    (write_end c.args.a c.args.at.text.now (shown whole d) _ c.args.written.now l.written (left_none c.args.entries.now l.entry-index (search rules)) (l.invariant.1 whole d st t e)).0

pub returns-clause-keeps : goal.returns-clause-keeps
returns-clause-keeps g c = c.loop-entry.invariant.0

pub returns-clause-tree : goal.returns-clause-tree
returns-clause-tree g c = c.loop-entry.invariant.3
