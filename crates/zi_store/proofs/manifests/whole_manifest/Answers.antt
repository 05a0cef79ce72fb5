use Rattle.std.proofs.Common.{◌≡◌, ◌∙◌, sym, ap, subst, true, refl, Err, rules}
use Rattle.std.proofs.lemmas.Result.{err_from_is_err_and}
use Rattle.zi_store.specs.ManifestAnswers.{WritesWhole}
use Rattle.zi_store.proofs.KeepingLemmas.{stands_later}
use Rattle.zi_store.proofs.WalkLemmas.{failed_passed}
use Rattle.zi_store.proofs.TreeLemmas.{whole_there}
use Rattle.zi_store.proofs.ManifestLemmas.{wrote, wrote_less, not_listed}
use Rattle.zi_store.proofs.SomeTreeLemmas.{whole_some}
use Rattle.zi_text.proofs.ListLaws.{some_of}
use Rattle.zi_store.proofs.manifests.whole_manifest.Goals as goal

pub returns-in_err-entries-clause-manifest : goal.returns-in_err-entries-clause-manifest
returns-in_err-entries-clause-manifest g c s keeps e =
    let same : c.from_residual.result ≡ Err c.in_err-entries.field-0.0 = search rules in
    subst (λ r. WritesWhole c.args.a c.args.top.now r s.shelf) (sym same)
    (not_listed c.args.a c.args.top.now s c.in_err-entries.field-0.0 (λ m. c.in_err-entries.ensures.missing s keeps e (ap (λ x. Err x) m)) (λ what m. c.in_err-entries.ensures.limit what (ap (λ x. Err x) m)))

pub returns-in_err-write_folder-clause-manifest : goal.returns-in_err-write_folder-clause-manifest
returns-in_err-write_folder-clause-manifest g c s keeps e =
    let w = whole_there c.root-path.result s c.root-path.ensures (λ k. g.met.K.Shelf.holds_trees c.args.k.now k) keeps e (c.in_ok-entries.ensures.there s keeps e) in
    let p = err_from_is_err_and c.from_residual-in_err-write_folder.result c.from_residual-in_err-write_folder.ensures.1 in
    wrote_less w c.args.a c.new-written.result.counts.nodes c.new-written.result.counts.bytes _ _ c.from_residual-in_err-write_folder.result p.0 c.in_err-write_folder.field-0.0 p.1 p.2 c.new-written.ensures.nodes c.new-written.ensures.bytes
    (c.in_err-write_folder.ensures.walks true w.entry.tree (stands_later c.in_ok-entries.ensures.keeps w.stands) w.tree (c.as_slice.ensures.value ∙ c.in_ok-entries.ensures.entries w.entry.tree w.stands w.tree))

pub returns-in_err-write_folder-clause-sure : goal.returns-in_err-write_folder-clause-sure
returns-in_err-write_folder-clause-sure g c sure failed =
    let known = g.met.K.Shelf.sure_is c.args.k.now sure in
    let s = some_of ((g.K.Shelf.seen c.args.k.now).told) known.tells in
    let w = whole_there c.root-path.result s.0 c.root-path.ensures (λ k. g.met.K.Shelf.holds_trees c.args.k.now k) known.keeps s.1 (c.in_ok-entries.ensures.there s.0 known.keeps s.1) in
    let p = err_from_is_err_and c.from_residual-in_err-write_folder.result c.from_residual-in_err-write_folder.ensures.1 in
    c.in_err-write_folder.ensures.sure (c.in_ok-entries.ensures.keeps.stays.sure sure) true w.entry.tree (stands_later c.in_ok-entries.ensures.keeps w.stands) w.tree (c.as_slice.ensures.value ∙ c.in_ok-entries.ensures.entries w.entry.tree w.stands w.tree) (failed_passed c.from_residual-in_err-write_folder.result p.0 c.in_err-write_folder.field-0.0 p.1 p.2 failed)

pub returns-clause-manifest : goal.returns-clause-manifest
returns-clause-manifest g c s keeps e =
    let w = whole_there c.root-path.result s c.root-path.ensures (λ k. g.met.K.Shelf.holds_trees c.args.k.now k) keeps e (c.in_ok-entries.ensures.there s keeps e) in
    wrote w c.args.a _ c.new-written.result c.write_folder.new.written refl c.new-written.ensures.text c.new-written.ensures.bad c.new-written.ensures.nodes c.new-written.ensures.bytes
    ((c.in_ok-write_folder.ensures.walks true w.entry.tree (stands_later c.in_ok-entries.ensures.keeps w.stands) w.tree (c.as_slice.ensures.value ∙ c.in_ok-entries.ensures.entries w.entry.tree w.stands w.tree)).1) (c.in_ok-write_folder.ensures.adds true w.entry.tree (stands_later c.in_ok-entries.ensures.keeps w.stands) w.tree (c.as_slice.ensures.value ∙ c.in_ok-entries.ensures.entries w.entry.tree w.stands w.tree))

pub returns-clause-tree : goal.returns-clause-tree
returns-clause-tree g c = whole_some c.args.a _ c.new-written.result c.write_folder.new.written refl c.new-written.ensures.text c.new-written.ensures.bad c.in_ok-write_folder.ensures.tree
