use Rattle.std.proofs.Common.{◌≡◌, sym, ◌∙◌, false, Err, OnOk, w64, rules, FitsSigned}
use Rattle.std.proofs.lemmas.Int.{to_z-of_z}
use Rattle.zi_shelf.specs.declared.shelf.ShelfFault.TheVariants.{Failed}
use Rattle.zi_tree.specs.declared.tree.TreeNode.{TreeNode}
use Rattle.zi_manifest.specs.Walk.{node_text, node_bad}
use Rattle.zi_store.specs.Entries.{leaf_met, Walks}
use Rattle.zi_store.specs.Written.{Adds}
use Rattle.zi_store.specs.declared.stop.Stop.TheVariants.{Fault}
use Rattle.zi_store.proofs.LeafLemmas.{has_child, child_is, listed_at}
use Rattle.zi_store.proofs.WritingLemmas.{leaf_none, leaf_unmet, as_link, as_told}
use Rattle.zi_store.proofs.SomeTreeLemmas.{leaves_none}
use Rattle.zi_store.proofs.written.write_leaf.Goals as goal

pub returns-in_default-clause-walks : goal.returns-in_default-clause-walks
returns-in_default-clause-walks g c x l = absurd (c.in_default.not-Some _ (has_child c.args.entry.now.name c.as_str-name.result.now c.args.at.path.now _ c.as_str-name.ensures l.name c.in_ok-path.ensures))

pub returns-in_default-clause-adds : goal.returns-in_default-clause-adds
returns-in_default-clause-adds g c x l = absurd (c.in_default.not-Some _ (has_child c.args.entry.now.name c.as_str-name.result.now c.args.at.path.now _ c.as_str-name.ensures l.name c.in_ok-path.ensures))

pub returns-in-Folder-clause-walks : goal.returns-in-Folder-clause-walks
returns-in-Folder-clause-walks g c x l = leaf_unmet x c.args.entry.now.kind c.args.written.now.counts.nodes c.args.written.now.counts.bytes l.kind c.in-Folder.is

pub returns-in-Folder-clause-adds : goal.returns-in-Folder-clause-adds
returns-in-Folder-clause-adds g c x l = leaf_none c.args.a c.args.at.text.now c.args.entry.now.name x c.args.entry.now.kind c.args.written.now l.kind c.in-Folder.is

pub returns-in-Link-clause-walks : goal.returns-in-Link-clause-walks
returns-in-Link-clause-walks g c x l =
    let here = child_is c.args.entry.now.name c.as_str-name.result.now _ c.args.at.path.now _ c.as_str-name.ensures (sym c.in-Some.is ∙ c.in_ok-path.ensures) in
    as_link (λ (y : TreeNode). Walks (tt {0}) (leaf_met y) c.args.written.now.counts.nodes c.args.written.now.counts.bytes c.write_link.result c.write_link.new.written.counts.nodes c.write_link.new.written.counts.bytes) x c.args.entry.now.kind l.kind c.in-Link.is (listed_at c.args.at.path.now c.args.entry.now x _ here l) c.write_link.ensures.walks

pub returns-in-Link-clause-adds : goal.returns-in-Link-clause-adds
returns-in-Link-clause-adds g c x l =
    let here = child_is c.args.entry.now.name c.as_str-name.result.now _ c.args.at.path.now _ c.as_str-name.ensures (sym c.in-Some.is ∙ c.in_ok-path.ensures) in
    let m = c.args.entry.now.name in
    as_link (λ (y : TreeNode). OnOk c.write_link.result (Adds c.args.written.now c.write_link.new.written (node_text c.args.a false m y) (node_bad false c.args.at.text.now m y))) x c.args.entry.now.kind l.kind c.in-Link.is (listed_at c.args.at.path.now c.args.entry.now x _ here l)
    (λ target st. rw c.as_str-name.ensures at (c.write_link.ensures.adds target st))

pub returns-in-Link-clause-sure : goal.returns-in-Link-clause-sure
returns-in-Link-clause-sure g c sure x l e =
    let here = child_is c.args.entry.now.name c.as_str-name.result.now _ c.args.at.path.now _ c.as_str-name.ensures (sym c.in-Some.is ∙ c.in_ok-path.ensures) in
    as_link (λ (y : TreeNode). c.write_link.result ≡ Err (Fault Failed) → ⊥) x c.args.entry.now.kind l.kind c.in-Link.is (listed_at c.args.at.path.now c.args.entry.now x _ here l) (λ target st. c.write_link.ensures.sure sure target st) e

pub returns-clause-adds : goal.returns-clause-adds
returns-clause-adds g c x l =
    let fits : FitsSigned w64 c.in-File.mtime = search rules in
    let here = child_is c.args.entry.now.name c.as_str-name.result.now _ c.args.at.path.now _ c.as_str-name.ensures (sym c.in-Some.is ∙ c.in_ok-path.ensures) in
    let m = c.args.entry.now.name in
    as_told (λ (y : TreeNode). OnOk c.write_file.result (Adds c.args.written.now c.write_file.new.written (node_text c.args.a false m y) (node_bad false c.args.at.text.now m y))) x c.args.entry.now.kind c.in-File.exec c.in-File.mtime _ c.in-File.size (to_z-of_z w64 c.in-File.mtime fits) l.kind c.in-File.is (listed_at c.args.at.path.now c.args.entry.now x _ here l)
    (λ bytes st. rw c.as_str-name.ensures at (c.write_file.ensures.adds bytes st))

pub returns-clause-sure : goal.returns-clause-sure
returns-clause-sure g c sure x l e =
    let fits : FitsSigned w64 c.in-File.mtime = search rules in
    let here = child_is c.args.entry.now.name c.as_str-name.result.now _ c.args.at.path.now _ c.as_str-name.ensures (sym c.in-Some.is ∙ c.in_ok-path.ensures) in
    as_told (λ (y : TreeNode). c.write_file.result ≡ Err (Fault Failed) → ⊥) x c.args.entry.now.kind c.in-File.exec c.in-File.mtime _ c.in-File.size (to_z-of_z w64 c.in-File.mtime fits) l.kind c.in-File.is (listed_at c.args.at.path.now c.args.entry.now x _ here l) (λ bytes st. c.write_file.ensures.sure sure bytes st) e

pub returns-in_default-clause-tree : goal.returns-in_default-clause-tree
returns-in_default-clause-tree g c = leaves_none c.args.a c.args.at.text.now c.args.written.now

pub returns-in-Folder-clause-tree : goal.returns-in-Folder-clause-tree
returns-in-Folder-clause-tree g c = leaves_none c.args.a c.args.at.text.now c.args.written.now
