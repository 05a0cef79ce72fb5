use Rattle.std.proofs.Common.{◌≡◌, ◌∙◌, ◌+◌, false, sym, rules, [], ◌∷◌}
use Rattle.std.proofs.lemmas.Result.{err_from_is_err_and}
use Rattle.zi_manifest.specs.Walk.{shown}
use Rattle.zi_store.specs.Walking.{leaves_met, folders_met, met}
use Rattle.zi_store.specs.Entries.{emptied}
use Rattle.zi_store.proofs.KeepingLemmas.{keeps_then, stands_later, rose_later}
use Rattle.zi_store.proofs.StandingLemmas.{fits_entries}
use Rattle.zi_store.proofs.WalkLemmas.{failed_passed}
use Rattle.zi_store.proofs.LoopLemmas.{filled_start, filled_more, filled_stops, filled_end, next_asks, left_at, left_none}
use Rattle.zi_store.proofs.FolderLemmas.{stops_more, walks_then, unlisted_stops, leaf_stays}
use Rattle.zi_store.proofs.folder.+folders.Goals as goal

pub read_folder-returns-in_err-tree-clause-walks : goal.read_folder-returns-in_err-tree-clause-walks
read_folder-returns-in_err-tree-clause-walks g t c whole d st tree e =
    let p = err_from_is_err_and c.from_residual.result c.from_residual.ensures.1 in
    let s = shown whole d in
    stops_more (emptied s) s (leaves_met s) (folders_met (c.args.depth + 1) s) c.args.counts.now.nodes c.args.counts.now.bytes c.read_leaves.new.counts.nodes c.read_leaves.new.counts.bytes c.read_leaves.new.counts.nodes c.read_leaves.new.counts.bytes
    c.from_residual.result p.0 c.in_err-tree.field-0.0 p.1 p.2 (c.in_err-tree.ensures.walks whole d st tree e)

pub read_folder-returns-in_err-tree-clause-sure : goal.read_folder-returns-in_err-tree-clause-sure
read_folder-returns-in_err-tree-clause-sure g t c sure whole d st tree e f =
    let p = err_from_is_err_and c.from_residual.result c.from_residual.ensures.1 in
    c.in_err-tree.ensures.sure sure whole d st tree e (failed_passed c.from_residual.result p.0 c.in_err-tree.field-0.0 p.1 p.2 f)

pub read_folder-loop-entry-init : goal.read_folder-loop-entry-init
read_folder-loop-entry-init g t c = (
  c.in_ok-tree.ensures.keeps,
  λ whole d st tree e.
      let w = c.in_ok-tree.ensures.walks whole d st tree e in
      filled_start c.args.depth (shown whole d) _ _ c.args.counts.now.nodes c.args.counts.now.bytes c.read_leaves.new.counts.nodes c.read_leaves.new.counts.bytes e w.0 w.1,
  c.in_ok-tree.ensures.count (λ e. cc e),
)

pub read_folder-returns-in_err-read_inner-clause-walks : goal.read_folder-returns-in_err-read_inner-clause-walks
read_folder-returns-in_err-read_inner-clause-walks g t c whole d st tree e =
    let p = err_from_is_err_and c.from_residual-in_err-read_inner.result c.from_residual-in_err-read_inner.ensures.1 in
    let l = c.loop-entry in
    let left = left_at c.args.entries.now l.entry-index c.entry-item.result (search rules) c.entry-item.is in
    filled_stops (shown whole d) c.args.depth whole d c.entry-item.result _ _ l.tree c.args.counts.now.nodes c.args.counts.now.bytes l.counts.nodes l.counts.bytes c.read_inner.new.counts.nodes c.read_inner.new.counts.bytes c.read_inner.new.counts.nodes c.read_inner.new.counts.bytes
    c.from_residual-in_err-read_inner.result p.0 c.in_err-read_inner.field-0.0 p.1 p.2 (stands_later l.invariant.0 st) tree (l.invariant.1 whole d st tree e) left c.in_err-read_inner.ensures.walks

pub read_folder-returns-in_err-read_inner-clause-keeps : goal.read_folder-returns-in_err-read_inner-clause-keeps
read_folder-returns-in_err-read_inner-clause-keeps g t c = keeps_then c.loop-entry.invariant.0 c.in_err-read_inner.ensures.keeps

pub read_folder-returns-in_err-read_inner-clause-cause : goal.read_folder-returns-in_err-read_inner-clause-cause
read_folder-returns-in_err-read_inner-clause-cause g t c e =
    let p = err_from_is_err_and c.from_residual-in_err-read_inner.result c.from_residual-in_err-read_inner.ensures.1 in
    rose_later _ _ _ c.loop-entry.invariant.0.later (c.in_err-read_inner.ensures.cause (failed_passed c.from_residual-in_err-read_inner.result p.0 c.in_err-read_inner.field-0.0 p.1 p.2 e))

pub read_folder-returns-in_err-read_inner-clause-sure : goal.read_folder-returns-in_err-read_inner-clause-sure
read_folder-returns-in_err-read_inner-clause-sure g t c sure whole d st tree e f =
    let p = err_from_is_err_and c.from_residual-in_err-read_inner.result c.from_residual-in_err-read_inner.ensures.1 in
    let l = c.loop-entry in
    let left = left_at c.args.entries.now l.entry-index c.entry-item.result (search rules) c.entry-item.is in
    next_asks whole d c.entry-item.result _ _ (stands_later l.invariant.0 st) tree (l.invariant.1 whole d st tree e).at_ left
    (λ x listed good. c.in_err-read_inner.ensures.sure (l.invariant.0.stays.sure sure) x listed good (failed_passed c.from_residual-in_err-read_inner.result p.0 c.in_err-read_inner.field-0.0 p.1 p.2 f))

pub read_folder-loop-entry-preserved : goal.read_folder-loop-entry-preserved
read_folder-loop-entry-preserved g t c =
    let l = c.loop-entry in
    let left = left_at c.args.entries.now l.entry-index c.entry-item.result (search rules) c.entry-item.is in (
      keeps_then l.invariant.0 c.in_ok-read_inner.ensures.keeps,
      λ whole d st tree e.
          filled_more c.args.depth whole d c.entry-item.result _ _ l.tree c.read_inner.new.tree c.args.counts.now.nodes c.args.counts.now.bytes l.counts.nodes l.counts.bytes c.read_inner.new.counts.nodes c.read_inner.new.counts.bytes
          (stands_later l.invariant.0 st) tree (l.invariant.1 whole d st tree e) left (λ x listed good there. (c.in_ok-read_inner.ensures.walks x listed good there).1) c.in_ok-read_inner.ensures.tree,
      c.in_ok-read_inner.ensures.count (λ e. cc e) ∙ l.invariant.2,
    )

pub read_folder-returns-clause-walks : goal.read_folder-returns-clause-walks
read_folder-returns-clause-walks g t c whole d st tree e =
    let l = c.loop-entry in
    filled_end c.args.depth (shown whole d) _ l.tree c.args.counts.now.nodes c.args.counts.now.bytes l.counts.nodes l.counts.bytes (left_none c.args.entries.now l.entry-index (search rules)) (l.invariant.1 whole d st tree e)

pub read_folder-returns-clause-keeps : goal.read_folder-returns-clause-keeps
read_folder-returns-clause-keeps g t c = c.loop-entry.invariant.0

pub read_deeper-returns-in_err-folder-clause-walks : goal.read_deeper-returns-in_err-folder-clause-walks
read_deeper-returns-in_err-folder-clause-walks g t c inside st tree =
    let p = err_from_is_err_and c.from_residual.result c.from_residual.ensures.1 in
    stops_more (tt {0}) inside (record { depth = c.args.depth; size = 0 } ∷ []) (met c.args.depth inside) c.args.counts.now.nodes c.args.counts.now.bytes c.folder.new.self.nodes c.folder.new.self.bytes c.folder.new.self.nodes c.folder.new.self.bytes
    c.from_residual.result p.0 c.in_err-folder.field-0.0 p.1 p.2 c.in_err-folder.ensures.walks

pub read_deeper-returns-in_err-entries-clause-walks : goal.read_deeper-returns-in_err-entries-clause-walks
read_deeper-returns-in_err-entries-clause-walks g t c inside st tree =
    let p = err_from_is_err_and c.from_residual-in_err-entries.result c.from_residual-in_err-entries.ensures.1 in
    unlisted_stops _ _ inside inside (record { depth = c.args.depth; size = 0 } ∷ met c.args.depth inside) c.args.counts.now.nodes c.args.counts.now.bytes c.folder.new.self.nodes c.folder.new.self.bytes
    c.from_residual-in_err-entries.result p.0 c.in_err-entries.field-0.0 p.1 p.2 st c.in_err-entries.ensures.missing c.in_err-entries.ensures.limit

pub read_deeper-returns-in_err-entries-clause-sure : goal.read_deeper-returns-in_err-entries-clause-sure
read_deeper-returns-in_err-entries-clause-sure g t c sure inside st tree e =
    let p = err_from_is_err_and c.from_residual-in_err-entries.result c.from_residual-in_err-entries.ensures.1 in
    c.in_err-entries.ensures.sure sure (fits_entries st) (failed_passed c.from_residual-in_err-entries.result p.0 c.in_err-entries.field-0.0 p.1 p.2 e)

pub read_deeper-returns-clause-walks : goal.read_deeper-returns-clause-walks
read_deeper-returns-clause-walks g t c inside st tree =
    walks_then inside (record { depth = c.args.depth; size = 0 } ∷ []) (met c.args.depth inside) c.args.counts.now.nodes c.args.counts.now.bytes c.folder.new.self.nodes c.folder.new.self.bytes c.read_folder.new.counts.nodes c.read_folder.new.counts.bytes c.read_folder.result
    c.in_ok-folder.ensures.walks.1
    (c.read_folder.ensures.walks false inside (stands_later c.in_ok-entries.ensures.keeps st) tree (c.as_slice.ensures.value ∙ c.in_ok-entries.ensures.entries inside st tree))

pub read_deeper-returns-clause-keeps : goal.read_deeper-returns-clause-keeps
read_deeper-returns-clause-keeps g t c = keeps_then c.in_ok-entries.ensures.keeps c.read_folder.ensures.keeps

pub read_deeper-returns-clause-cause : goal.read_deeper-returns-clause-cause
read_deeper-returns-clause-cause g t c e = rose_later _ _ _ c.in_ok-entries.ensures.keeps.later (c.read_folder.ensures.cause e)

pub read_deeper-returns-clause-sure : goal.read_deeper-returns-clause-sure
read_deeper-returns-clause-sure g t c sure inside st tree e =
    c.read_folder.ensures.sure (c.in_ok-entries.ensures.keeps.stays.sure sure) false inside (stands_later c.in_ok-entries.ensures.keeps st) tree (c.as_slice.ensures.value ∙ c.in_ok-entries.ensures.entries inside st tree) e

pub read_inner-returns-then-not-is_folder-clause-tree : goal.read_inner-returns-then-not-is_folder-clause-tree
read_inner-returns-then-not-is_folder-clause-tree g t c x l tree there =
    let other : c.is_folder.result ≡ false = search (rules, c.if-not-is_folder.true) in
    leaf_stays x c.args.entry.now.kind c.args.entry.now.name c.args.tree.now l.kind (sym c.is_folder.ensures ∙ other) there
