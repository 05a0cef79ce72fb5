use Rattle.std.proofs.Common.{◌≡◌, ◌∙◌, sym, ap, subst, true, Err, rules}
use Rattle.zi_store.specs.TreeAnswers.{ReadsWhole}
use Rattle.zi_store.proofs.KeepingLemmas.{stands_later}
use Rattle.zi_store.proofs.TreeLemmas.{whole_there, walked, unlisted}
use Rattle.zi_text.proofs.ListLaws.{some_of}
use Rattle.zi_store.proofs.trees.whole_tree.Goals as goal

pub returns-in_err-entries-clause-tree : goal.returns-in_err-entries-clause-tree
returns-in_err-entries-clause-tree g c s keeps e =
    let same : c.from_residual.result ≡ Err c.in_err-entries.field-0.0 = search rules in
    subst (λ r. ReadsWhole c.args.top.now r s.shelf) (sym same)
    (unlisted c.args.top.now s c.in_err-entries.field-0.0 (λ m. c.in_err-entries.ensures.missing s keeps e (ap (λ x. Err x) m)) (λ what m. c.in_err-entries.ensures.limit what (ap (λ x. Err x) m)))

pub returns-clause-tree : goal.returns-clause-tree
returns-clause-tree g c s keeps e =
    let w = whole_there c.root-path.result s c.root-path.ensures (λ k. g.met.K.Shelf.holds_trees c.args.k.now k) keeps e (c.in_ok-entries.ensures.there s keeps e) in
    walked w c.new-counts.result.nodes c.new-counts.result.bytes c.read_folder.new.counts.nodes c.read_folder.new.counts.bytes c.read_folder.result c.new-counts.ensures.nodes c.new-counts.ensures.bytes
    (c.read_folder.ensures.walks true w.entry.tree (stands_later c.in_ok-entries.ensures.keeps w.stands) w.tree (c.as_slice.ensures.value ∙ c.in_ok-entries.ensures.entries w.entry.tree w.stands w.tree))

pub returns-clause-sure : goal.returns-clause-sure
returns-clause-sure g c sure failed =
    let known = g.met.K.Shelf.sure_is c.args.k.now sure in
    let s = some_of ((g.K.Shelf.seen c.args.k.now).told) known.tells in
    let w = whole_there c.root-path.result s.0 c.root-path.ensures (λ k. g.met.K.Shelf.holds_trees c.args.k.now k) known.keeps s.1 (c.in_ok-entries.ensures.there s.0 known.keeps s.1) in
    c.read_folder.ensures.sure (c.in_ok-entries.ensures.keeps.stays.sure sure) true w.entry.tree (stands_later c.in_ok-entries.ensures.keeps w.stands) w.tree (c.as_slice.ensures.value ∙ c.in_ok-entries.ensures.entries w.entry.tree w.stands w.tree) failed
