use Rattle.std.proofs.Common.{◌≡◌, ◌∙◌, ◌++◌, ◌∷◌, [], take, Ok, true, sym, ap, subst, refl, inl, inr, is_some, List}
use Rattle.std.specs.List.{list_all}
use Rattle.std.proofs.lemmas.Result.{err_from_is_err_and}
use Rattle.zi_tree.specs.Order.{is_name}
use Rattle.zi_tree.specs.Paths.{items, node_in}
use Rattle.zi_shelf.specs.Names.{Name}
use Rattle.zi_store.specs.Keeping.{is_reading}
use Rattle.zi_store.specs.FileAnswers.{file_at, Leads}
use Rattle.zi_store.proofs.KeepingLemmas.{keeps_none, keeps_then, rose_later}
use Rattle.zi_store.proofs.FileLemmas.{way_ends, none_left, fits_next, goes_on, reaches_start, plain_part, part_at, take_next}
use Rattle.zi_store.proofs.files.is_file.Goals as goal

pub loop-i-init : goal.loop-i-init
loop-i-init g c = record {
  keeps = keeps_none is_reading _;
  calm = refl;
  front = c.root-folder.ensures;
  reaches = λ s honest tells. reaches_start c.args.top.now c.as_slice-parts.result.now s.shelf;
}

pub loop-i-preserved : goal.loop-i-preserved
loop-i-preserved g c =
    let l = c.loop-i in
    let parts = c.as_slice-parts.result.now in
    let part = c.index-parts-i.result in
    let w = c.in_ok-inner in
    record {
      keeps = keeps_then l.invariant.keeps w.ensures.keeps;
      calm = w.ensures.count (λ e. cc e) ∙ l.invariant.calm;
      front = w.ensures.path c.in-Into.inner (ap Ok c.in-Into.is) ∙ ap (λ (p : List Name). p ++ c.as_str.result.now ∷ []) l.invariant.front ∙ ap (λ (n : Name). take l.i parts ++ n ∷ []) c.as_str.ensures ∙ sym (take_next parts l.i part c.loop-i-test.true c.index-parts-i.is);
      reaches = goes_on c.args.top.now parts l.i part l.folder c.in-Into.inner w.field-0 l.invariant.keeps l.invariant.front c.loop-i-test.true c.index-parts-i.is c.in-Into.is
          (λ d st. subst (λ (n : Name). Leads (node_in n (items d)) w.field-0) c.as_str.ensures (w.ensures.way d st)) l.invariant.reaches;
    }

pub way_from-requires : goal.way_from-requires
way_from-requires g c =
    let parts = c.as_slice-parts.result.now in
    let same : parts ≡ c.args.path.now = c.as_slice-parts.ensures ∙ c.parts.ensures.parts in
    plain_part parts c.loop-i.i c.as_str.result.now (subst (λ (p : List Name). list_all is_name p ≡ true) (sym same) c.parts.ensures.names) c.loop-i-test.true (part_at parts c.loop-i.i c.as_str.result.now c.index-parts-i.result c.as_str.ensures c.index-parts-i.is)

pub returns-in-File-clause-file : goal.returns-in-File-clause-file
returns-in-File-clause-file g c s honest tells =
    let l = c.loop-i in
    let parts = c.as_slice-parts.result.now in
    let w = c.in_ok-inner in
    let same : parts ≡ c.args.path.now = c.as_slice-parts.ensures ∙ c.parts.ensures.parts in
    way_ends c.args.top.now parts l.i c.index-parts-i.result l.folder w.field-0 _ l.invariant.keeps l.invariant.front c.loop-i-test.true c.index-parts-i.is (inl (c.in-File.is, refl))
    (λ d st. subst (λ (n : Name). Leads (node_in n (items d)) w.field-0) c.as_str.ensures (w.ensures.way d st)) w.ensures.none l.invariant.reaches s honest tells
    ∙ ap (λ (p : List Name). is_some (file_at c.args.top.now p s.shelf)) same

pub returns-in-File-clause-keeps : goal.returns-in-File-clause-keeps
returns-in-File-clause-keeps g c = keeps_then c.loop-i.invariant.keeps c.in_ok-inner.ensures.keeps

pub returns-in-Nowhere-clause-file : goal.returns-in-Nowhere-clause-file
returns-in-Nowhere-clause-file g c s honest tells =
    let l = c.loop-i in
    let parts = c.as_slice-parts.result.now in
    let w = c.in_ok-inner in
    let same : parts ≡ c.args.path.now = c.as_slice-parts.ensures ∙ c.parts.ensures.parts in
    way_ends c.args.top.now parts l.i c.index-parts-i.result l.folder w.field-0 _ l.invariant.keeps l.invariant.front c.loop-i-test.true c.index-parts-i.is (inr (c.in-Nowhere.is, refl))
    (λ d st. subst (λ (n : Name). Leads (node_in n (items d)) w.field-0) c.as_str.ensures (w.ensures.way d st)) w.ensures.none l.invariant.reaches s honest tells
    ∙ ap (λ (p : List Name). is_some (file_at c.args.top.now p s.shelf)) same

pub returns-in-Nowhere-clause-keeps : goal.returns-in-Nowhere-clause-keeps
returns-in-Nowhere-clause-keeps g c = keeps_then c.loop-i.invariant.keeps c.in_ok-inner.ensures.keeps

pub returns-clause-file : goal.returns-clause-file
returns-clause-file g c s honest tells =
    let parts = c.as_slice-parts.result.now in
    let same : parts ≡ c.args.path.now = c.as_slice-parts.ensures ∙ c.parts.ensures.parts in
    none_left c.args.top.now parts c.loop-i.i s.shelf c.loop-i-test.false (c.loop-i.invariant.reaches s honest tells) ∙ ap (λ (p : List Name). is_some (file_at c.args.top.now p s.shelf)) same

pub returns-clause-keeps : goal.returns-clause-keeps
returns-clause-keeps g c = c.loop-i.invariant.keeps

pub returns-in_err-inner-clause-keeps : goal.returns-in_err-inner-clause-keeps
returns-in_err-inner-clause-keeps g c = keeps_then c.loop-i.invariant.keeps c.in_err-inner.ensures.keeps

pub returns-in_err-inner-clause-cause : goal.returns-in_err-inner-clause-cause
returns-in_err-inner-clause-cause g c failed =
    let p = err_from_is_err_and c.from_residual.result c.from_residual.ensures.1 in
    rose_later ((g.K.Shelf.seen c.args.k.now).faults) ((g.K.Shelf.seen c.loop-i.k).faults) ((g.K.Shelf.seen c.way_from.new.k).faults) c.loop-i.invariant.keeps.later (c.in_err-inner.ensures.cause (cc (p.1, p.2, failed)))

pub returns-in_err-inner-clause-sure : goal.returns-in_err-inner-clause-sure
returns-in_err-inner-clause-sure g c sure failed =
    let l = c.loop-i in
    let p = err_from_is_err_and c.from_residual.result c.from_residual.ensures.1 in
    c.in_err-inner.ensures.sure (l.invariant.keeps.stays.sure sure) (fits_next c.args.top.now c.as_slice-parts.result.now l.i l.folder l.invariant.keeps l.invariant.front (g.met.K.Shelf.sure_is c.args.k.now sure) l.invariant.reaches) (cc (p.1, p.2, failed))
