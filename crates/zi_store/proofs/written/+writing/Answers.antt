use Rattle.std.proofs.Common.{◌≡◌, ◌∙◌, ◌+◌, ◌++◌, true, false, None, Err, sym, subst, rules, refl, [], ◌∷◌}
use Rattle.std.proofs.lemmas.Result.{err_from_is_err_and}
use Rattle.zi_manifest.specs.Walk.{shown}
use Rattle.zi_manifest.specs.Sketch.{sketch, leaf_text, folder_text, folder_line}
use Rattle.zi_manifest.specs.Manifest.{leaf_bad, folder_bad}
use Rattle.std.specs.Option.{option_or}
use Rattle.zi_store.specs.Walking.{leaves_met, folders_met, met}
use Rattle.zi_store.specs.Entries.{inner_met, Walks}
use Rattle.zi_tree.specs.declared.tree.TreeNode.{TreeNode}
use Rattle.zi_tree.specs.declared.tree.TreeNode.TheVariants.{Folder}
use Rattle.zi_shelf.specs.declared.shelf.ShelfFault.TheVariants.{Failed}
use Rattle.zi_store.specs.declared.stop.Stop.TheVariants.{Fault}
use Rattle.zi_store.specs.Written.{Adds}
use Rattle.zi_store.specs.declared.counts.Counts.{Counts}
use Rattle.zi_store.proofs.LeafLemmas.{has_child, child_is, listed_at}
use Rattle.zi_store.proofs.KeepingLemmas.{keeps_then, stands_later, rose_later}
use Rattle.zi_store.proofs.StandingLemmas.{fits_entries}
use Rattle.zi_store.proofs.WalkLemmas.{failed_passed}
use Rattle.zi_store.proofs.LoopLemmas.{next_asks, left_at, left_none}
use Rattle.zi_store.proofs.FolderLemmas.{stops_more, walks_then, unlisted_stops}
use Rattle.zi_store.proofs.WritingLemmas.{folders_start, folders_next, folders_stop, folders_end, inner_none, inner_written, line_then, as_folder}
use Rattle.zi_store.proofs.SomeTreeLemmas.{so_far_none, so_far_more, so_far_all, folders_none, folder_some, named_some}
use Rattle.zi_store.proofs.written.+writing.Goals as goal

pub write_folder-returns-in_err-write_leaves-clause-walks : goal.write_folder-returns-in_err-write_leaves-clause-walks
write_folder-returns-in_err-write_leaves-clause-walks g t c whole d st tree e =
    let p = err_from_is_err_and c.from_residual.result c.from_residual.ensures.1 in
    let s = shown whole d in
    stops_more (tt {0}) (tt {0}) (leaves_met s) (folders_met (c.args.at.depth + 1) s) c.args.written.now.counts.nodes c.args.written.now.counts.bytes c.write_leaves.new.written.counts.nodes c.write_leaves.new.written.counts.bytes c.write_leaves.new.written.counts.nodes c.write_leaves.new.written.counts.bytes
    c.from_residual.result p.0 c.in_err-write_leaves.field-0.0 p.1 p.2 (c.in_err-write_leaves.ensures.walks whole d st tree e)

pub write_folder-returns-in_err-write_leaves-clause-sure : goal.write_folder-returns-in_err-write_leaves-clause-sure
write_folder-returns-in_err-write_leaves-clause-sure g t c sure whole d st tree e f =
    let p = err_from_is_err_and c.from_residual.result c.from_residual.ensures.1 in
    c.in_err-write_leaves.ensures.sure sure whole d st tree e (failed_passed c.from_residual.result p.0 c.in_err-write_leaves.field-0.0 p.1 p.2 f)

pub write_folder-loop-entry-init : goal.write_folder-loop-entry-init
write_folder-loop-entry-init g t c = (
  c.in_ok-write_leaves.ensures.keeps,
  λ whole d st tree e.
      let w = c.in_ok-write_leaves.ensures.walks whole d st tree e in
      folders_start c.args.a c.args.at.text.now c.args.at.depth (shown whole d) _ c.args.written.now c.write_leaves.new.written e (c.in_ok-write_leaves.ensures.adds whole d st tree e) w.1,
  c.in_ok-write_leaves.ensures.count (λ e. cc e),
  so_far_none c.args.a c.args.at.text.now c.args.written.now c.write_leaves.new.written c.in_ok-write_leaves.ensures.tree,
)

pub write_folder-returns-in_err-write_inner-clause-walks : goal.write_folder-returns-in_err-write_inner-clause-walks
write_folder-returns-in_err-write_inner-clause-walks g t c whole d st tree e =
    let p = err_from_is_err_and c.from_residual-in_err-write_inner.result c.from_residual-in_err-write_inner.ensures.1 in
    let l = c.loop-entry in
    let left = left_at c.args.entries.now l.entry-index c.entry-item.result (search rules) c.entry-item.is in
    folders_stop (tt {0}) c.args.a c.args.at.text.now c.args.at.depth whole d c.entry-item.result _ _ c.args.written.now l.written c.write_inner.new.written c.write_inner.new.written.counts.nodes c.write_inner.new.written.counts.bytes
    c.from_residual-in_err-write_inner.result p.0 c.in_err-write_inner.field-0.0 p.1 p.2 (stands_later l.invariant.0 st) tree (l.invariant.1 whole d st tree e) left c.in_err-write_inner.ensures.walks

pub write_folder-returns-in_err-write_inner-clause-keeps : goal.write_folder-returns-in_err-write_inner-clause-keeps
write_folder-returns-in_err-write_inner-clause-keeps g t c = keeps_then c.loop-entry.invariant.0 c.in_err-write_inner.ensures.keeps

pub write_folder-returns-in_err-write_inner-clause-cause : goal.write_folder-returns-in_err-write_inner-clause-cause
write_folder-returns-in_err-write_inner-clause-cause g t c e =
    let p = err_from_is_err_and c.from_residual-in_err-write_inner.result c.from_residual-in_err-write_inner.ensures.1 in
    rose_later _ _ _ c.loop-entry.invariant.0.later (c.in_err-write_inner.ensures.cause (failed_passed c.from_residual-in_err-write_inner.result p.0 c.in_err-write_inner.field-0.0 p.1 p.2 e))

pub write_folder-returns-in_err-write_inner-clause-sure : goal.write_folder-returns-in_err-write_inner-clause-sure
write_folder-returns-in_err-write_inner-clause-sure g t c sure whole d st tree e f =
    let p = err_from_is_err_and c.from_residual-in_err-write_inner.result c.from_residual-in_err-write_inner.ensures.1 in
    let l = c.loop-entry in
    let left = left_at c.args.entries.now l.entry-index c.entry-item.result (search rules) c.entry-item.is in
    next_asks whole d c.entry-item.result _ _ (stands_later l.invariant.0 st) tree (l.invariant.1 whole d st tree e).at_ left
    (λ x listed good. c.in_err-write_inner.ensures.sure (l.invariant.0.stays.sure sure) x listed good (failed_passed c.from_residual-in_err-write_inner.result p.0 c.in_err-write_inner.field-0.0 p.1 p.2 f))

pub write_folder-loop-entry-preserved : goal.write_folder-loop-entry-preserved
write_folder-loop-entry-preserved g t c =
    let l = c.loop-entry in
    let left = left_at c.args.entries.now l.entry-index c.entry-item.result (search rules) c.entry-item.is in (
      keeps_then l.invariant.0 c.in_ok-write_inner.ensures.keeps,
      λ whole d st tree e.
          folders_next c.args.a c.args.at.text.now c.args.at.depth whole d c.entry-item.result _ _ c.args.written.now l.written c.write_inner.new.written
          (stands_later l.invariant.0 st) tree (l.invariant.1 whole d st tree e) left (λ x listed good. (c.in_ok-write_inner.ensures.walks x listed good).1) c.in_ok-write_inner.ensures.adds,
      c.in_ok-write_inner.ensures.count (λ e. cc e) ∙ l.invariant.2,
      so_far_more c.args.a c.args.at.text.now c.args.written.now l.written c.write_inner.new.written l.invariant.3 c.in_ok-write_inner.ensures.tree,
    )

pub write_folder-returns-clause-walks : goal.write_folder-returns-clause-walks
write_folder-returns-clause-walks g t c whole d st tree e =
    let l = c.loop-entry in
    (refl, (folders_end c.args.a c.args.at.text.now c.args.at.depth (shown whole d) _ c.args.written.now l.written (left_none c.args.entries.now l.entry-index (search rules)) (l.invariant.1 whole d st tree e)).1)

pub write_folder-returns-clause-adds : goal.write_folder-returns-clause-adds
write_folder-returns-clause-adds g t c whole d st tree e =
    let l = c.loop-entry in
    (folders_end c.args.a c.args.at.text.now c.args.at.depth (shown whole d) _ c.args.written.now l.written (left_none c.args.entries.now l.entry-index (search rules)) (l.invariant.1 whole d st tree e)).0

pub write_folder-returns-clause-keeps : goal.write_folder-returns-clause-keeps
write_folder-returns-clause-keeps g t c = c.loop-entry.invariant.0

pub write_deeper-returns-in_err-folder-clause-walks : goal.write_deeper-returns-in_err-folder-clause-walks
write_deeper-returns-in_err-folder-clause-walks g t c inside st tree =
    let p = err_from_is_err_and c.from_residual.result c.from_residual.ensures.1 in
    stops_more (tt {0}) (tt {0}) (record { depth = c.args.at.depth; size = 0 } ∷ []) (met c.args.at.depth inside) c.args.written.now.counts.nodes c.args.written.now.counts.bytes c.folder.new.self.nodes c.folder.new.self.bytes c.folder.new.self.nodes c.folder.new.self.bytes
    c.from_residual.result p.0 c.in_err-folder.field-0.0 p.1 p.2 c.in_err-folder.ensures.walks

pub write_deeper-returns-in_err-entries-clause-walks : goal.write_deeper-returns-in_err-entries-clause-walks
write_deeper-returns-in_err-entries-clause-walks g t c inside st tree =
    let p = err_from_is_err_and c.from_residual-in_err-entries.result c.from_residual-in_err-entries.ensures.1 in
    unlisted_stops _ _ (tt {0}) inside (record { depth = c.args.at.depth; size = 0 } ∷ met c.args.at.depth inside) c.args.written.now.counts.nodes c.args.written.now.counts.bytes c.put_folder.new.self.counts.nodes c.put_folder.new.self.counts.bytes
    c.from_residual-in_err-entries.result p.0 c.in_err-entries.field-0.0 p.1 p.2 st c.in_err-entries.ensures.missing c.in_err-entries.ensures.limit

pub write_deeper-returns-in_err-entries-clause-sure : goal.write_deeper-returns-in_err-entries-clause-sure
write_deeper-returns-in_err-entries-clause-sure g t c sure inside st tree e =
    let p = err_from_is_err_and c.from_residual-in_err-entries.result c.from_residual-in_err-entries.ensures.1 in
    c.in_err-entries.ensures.sure sure (fits_entries st) (failed_passed c.from_residual-in_err-entries.result p.0 c.in_err-entries.field-0.0 p.1 p.2 e)

pub write_deeper-returns-clause-walks : goal.write_deeper-returns-clause-walks
write_deeper-returns-clause-walks g t c inside st tree =
    let rest = c.write_folder.ensures.walks false inside (stands_later c.in_ok-entries.ensures.keeps st) tree (c.as_slice.ensures.value ∙ c.in_ok-entries.ensures.entries inside st tree) in
    walks_then (tt {0}) (record { depth = c.args.at.depth; size = 0 } ∷ []) (met c.args.at.depth inside) c.args.written.now.counts.nodes c.args.written.now.counts.bytes c.folder.new.self.nodes c.folder.new.self.bytes c.write_folder.new.written.counts.nodes c.write_folder.new.written.counts.bytes c.write_folder.result
    c.in_ok-folder.ensures.walks.1
    (subst (λ (q : Counts). Walks (tt {0}) (met c.args.at.depth inside) q.nodes q.bytes c.write_folder.result c.write_folder.new.written.counts.nodes c.write_folder.new.written.counts.bytes) c.in_ok-put_folder.ensures.counts rest)

pub write_deeper-returns-clause-adds : goal.write_deeper-returns-clause-adds
write_deeper-returns-clause-adds g t c inside st tree =
    let text = c.args.at.text.now in
    let lines = leaf_text (sketch c.args.a inside) ++ folder_text text (sketch c.args.a inside) in
    let first : Adds c.args.written.now c.put_folder.new.self (folder_line text) None = record { text = c.in_ok-put_folder.ensures.line.text; first = c.in_ok-put_folder.ensures.line.first } in
    line_then c.write_folder.result c.args.written.now c.put_folder.new.self c.write_folder.new.written (folder_line text) lines (option_or (leaf_bad text inside) (folder_bad text inside))
    first (c.write_folder.ensures.adds false inside (stands_later c.in_ok-entries.ensures.keeps st) tree (c.as_slice.ensures.value ∙ c.in_ok-entries.ensures.entries inside st tree))

pub write_deeper-returns-clause-keeps : goal.write_deeper-returns-clause-keeps
write_deeper-returns-clause-keeps g t c = keeps_then c.in_ok-entries.ensures.keeps c.write_folder.ensures.keeps

pub write_deeper-returns-clause-cause : goal.write_deeper-returns-clause-cause
write_deeper-returns-clause-cause g t c e = rose_later _ _ _ c.in_ok-entries.ensures.keeps.later (c.write_folder.ensures.cause e)

pub write_deeper-returns-clause-sure : goal.write_deeper-returns-clause-sure
write_deeper-returns-clause-sure g t c sure inside st tree e =
    c.write_folder.ensures.sure (c.in_ok-entries.ensures.keeps.stays.sure sure) false inside (stands_later c.in_ok-entries.ensures.keeps st) tree (c.as_slice.ensures.value ∙ c.in_ok-entries.ensures.entries inside st tree) e

pub write_inner-returns-then-not-is_folder-clause-adds : goal.write_inner-returns-then-not-is_folder-clause-adds
write_inner-returns-then-not-is_folder-clause-adds g t c x l tree =
    let other : c.is_folder.result ≡ false = search (rules, c.if-not-is_folder.true) in
    inner_none c.args.a c.args.at.text.now c.args.entry.now.name x c.args.entry.now.kind c.args.written.now l.kind (sym c.is_folder.ensures ∙ other)

pub write_inner-returns-in_default-clause-adds : goal.write_inner-returns-in_default-clause-adds
write_inner-returns-in_default-clause-adds g t c x l tree = absurd (c.in_default.not-Some _ (has_child c.args.entry.now.name c.as_str-name.result.now c.args.at.path.now _ c.as_str-name.ensures l.name c.in_ok-path.ensures))

pub write_inner-returns-clause-adds : goal.write_inner-returns-clause-adds
write_inner-returns-clause-adds g t c x l tree =
    let here = child_is c.args.entry.now.name c.as_str-name.result.now _ c.args.at.path.now _ c.as_str-name.ensures (sym c.in-Some.is ∙ c.in_ok-path.ensures) in
    let folder : c.is_folder.result ≡ true = search (rules, c.if-not-is_folder.false) in
    let text = c.as_str.ensures ∙ c.in_ok-text.ensures in
    inner_written c.write_deeper.result c.args.a c.args.at.text.now c.args.entry.now.name c.as_str.result.now c.args.at.path.now _ x c.args.entry.now.kind c.args.written.now c.note.new.self c.write_deeper.new.written
    l.kind (sym c.is_folder.ensures ∙ folder) tree here (listed_at c.args.at.path.now c.args.entry.now x _ here l) (rw c.as_str-name.ensures at text) (rw c.as_str-name.ensures at c.in_ok-note.ensures.noted) (λ i there good. c.write_deeper.ensures.adds i there good)

pub write_inner-returns-clause-walks : goal.write_inner-returns-clause-walks
write_inner-returns-clause-walks g t c x l tree =
    let here = child_is c.args.entry.now.name c.as_str-name.result.now _ c.args.at.path.now _ c.as_str-name.ensures (sym c.in-Some.is ∙ c.in_ok-path.ensures) in
    let folder : c.is_folder.result ≡ true = search (rules, c.if-not-is_folder.false) in
    as_folder (λ (y : TreeNode). Walks (tt {0}) (inner_met c.args.at.depth y) c.args.written.now.counts.nodes c.args.written.now.counts.bytes c.write_deeper.result c.write_deeper.new.written.counts.nodes c.write_deeper.new.written.counts.bytes)
    c.args.at.path.now _ c.args.entry.now.name x c.args.entry.now.kind l.kind (sym c.is_folder.ensures ∙ folder) tree here (listed_at c.args.at.path.now c.args.entry.now x _ here l)
    (λ i there good. subst (λ (q : Counts). Walks (tt {0}) (inner_met c.args.at.depth (Folder i)) q.nodes q.bytes c.write_deeper.result c.write_deeper.new.written.counts.nodes c.write_deeper.new.written.counts.bytes) c.in_ok-note.ensures.counts (c.write_deeper.ensures.walks i there good))

pub write_inner-returns-clause-sure : goal.write_inner-returns-clause-sure
write_inner-returns-clause-sure g t c sure x l tree e =
    let here = child_is c.args.entry.now.name c.as_str-name.result.now _ c.args.at.path.now _ c.as_str-name.ensures (sym c.in-Some.is ∙ c.in_ok-path.ensures) in
    let folder : c.is_folder.result ≡ true = search (rules, c.if-not-is_folder.false) in
    as_folder (λ (y : TreeNode). c.write_deeper.result ≡ Err (Fault Failed) → ⊥)
    c.args.at.path.now _ c.args.entry.now.name x c.args.entry.now.kind l.kind (sym c.is_folder.ensures ∙ folder) tree here (listed_at c.args.at.path.now c.args.entry.now x _ here l)
    (λ i there good. c.write_deeper.ensures.sure sure i there good) e

pub write_folder-returns-clause-tree : goal.write_folder-returns-clause-tree
write_folder-returns-clause-tree g t c = so_far_all c.args.a c.args.at.text.now c.args.written.now c.loop-entry.written c.loop-entry.invariant.3

pub write_deeper-returns-clause-tree : goal.write_deeper-returns-clause-tree
write_deeper-returns-clause-tree g t c =
    let text = c.args.at.text.now in
    let first : Adds c.args.written.now c.put_folder.new.self (folder_line text) None = record { text = c.in_ok-put_folder.ensures.line.text; first = c.in_ok-put_folder.ensures.line.first } in
    folder_some c.write_folder.result c.args.a text c.args.written.now c.put_folder.new.self c.write_folder.new.written first c.write_folder.ensures.tree

pub write_inner-returns-then-not-is_folder-clause-tree : goal.write_inner-returns-then-not-is_folder-clause-tree
write_inner-returns-then-not-is_folder-clause-tree g t c = folders_none c.args.a c.args.at.text.now c.args.written.now

pub write_inner-returns-in_default-clause-tree : goal.write_inner-returns-in_default-clause-tree
write_inner-returns-in_default-clause-tree g t c = folders_none c.args.a c.args.at.text.now c.args.written.now

pub write_inner-returns-clause-tree : goal.write_inner-returns-clause-tree
write_inner-returns-clause-tree g t c =
    let text = c.as_str.ensures ∙ c.in_ok-text.ensures in
    named_some c.write_deeper.result c.args.a c.args.at.text.now c.as_str-name.result.now c.as_str.result.now c.args.written.now c.note.new.self c.write_deeper.new.written text c.in_ok-note.ensures.noted c.write_deeper.ensures.tree
