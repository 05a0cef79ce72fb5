use Rattle.std.proofs.Common.{refl, sym, ◌∙◌}
use Rattle.std.proofs.lemmas.Result.{err_from_is_err_and}
use Rattle.zi_store.specs.Entries.{bare, leaf_met}
use Rattle.zi_store.proofs.WalkLemmas.{walks_passed, failed_passed}
use Rattle.zi_store.proofs.LeafLemmas.{has_place, has_child, place_is, child_is, listed_at, put_is}
use Rattle.zi_store.proofs.leaves.add_leaf.Goals as goal

pub returns-in_default-clause-walks : goal.returns-in_default-clause-walks
returns-in_default-clause-walks g c x l free = absurd (c.in_default.not-Some _ (has_place c.args.entry.now.name c.as_str.result.now _ _ c.as_str.ensures l.name free c.in_ok-within.ensures))

pub returns-in_default-clause-tree : goal.returns-in_default-clause-tree
returns-in_default-clause-tree g c x l free = absurd (c.in_default.not-Some _ (has_place c.args.entry.now.name c.as_str.result.now _ _ c.as_str.ensures l.name free c.in_ok-within.ensures))

pub returns-in_default-2-clause-walks : goal.returns-in_default-2-clause-walks
returns-in_default-2-clause-walks g c x l free = absurd (c.in_default-2.not-Some _ (has_child c.args.entry.now.name c.as_str-2.result.now c.args.path.now _ c.as_str-2.ensures l.name c.in_ok-place.ensures))

pub returns-in_default-2-clause-tree : goal.returns-in_default-2-clause-tree
returns-in_default-2-clause-tree g c x l free = absurd (c.in_default-2.not-Some _ (has_child c.args.entry.now.name c.as_str-2.result.now c.args.path.now _ c.as_str-2.ensures l.name c.in_ok-place.ensures))

pub returns-in_err-node-clause-walks : goal.returns-in_err-node-clause-walks
returns-in_err-node-clause-walks g c x l free =
    let p = err_from_is_err_and c.from_residual-in_err-node.result c.from_residual-in_err-node.ensures.1 in
    let here = child_is c.args.entry.now.name c.as_str-2.result.now _ c.args.path.now _ c.as_str-2.ensures (sym c.in-Some-2.is ∙ c.in_ok-place.ensures) in
    walks_passed (bare x) (tt {0}) (leaf_met x) (leaf_met x) c.args.counts.now.nodes c.args.counts.now.bytes c.read_leaf.new.counts.nodes c.read_leaf.new.counts.bytes c.read_leaf.new.counts.nodes c.read_leaf.new.counts.bytes _ p.0 c.in_err-node.field-0.0 p.1 p.2 refl (c.in_err-node.ensures.walks x (listed_at c.args.path.now c.args.entry.now x _ here l) l.kind)

pub returns-in_err-node-clause-sure : goal.returns-in_err-node-clause-sure
returns-in_err-node-clause-sure g c sure x l e =
    let p = err_from_is_err_and c.from_residual-in_err-node.result c.from_residual-in_err-node.ensures.1 in
    let here = child_is c.args.entry.now.name c.as_str-2.result.now _ c.args.path.now _ c.as_str-2.ensures (sym c.in-Some-2.is ∙ c.in_ok-place.ensures) in
    c.in_err-node.ensures.sure sure x (listed_at c.args.path.now c.args.entry.now x _ here l) l.kind (failed_passed c.from_residual-in_err-node.result p.0 c.in_err-node.field-0.0 p.1 p.2 e)

pub returns-clause-walks : goal.returns-clause-walks
returns-clause-walks g c x l free =
    let here = child_is c.args.entry.now.name c.as_str-2.result.now _ c.args.path.now _ c.as_str-2.ensures (sym c.in-Some-2.is ∙ c.in_ok-place.ensures) in
    (refl, (c.in_ok-node.ensures.walks x (listed_at c.args.path.now c.args.entry.now x _ here l) l.kind).1)

pub returns-clause-tree : goal.returns-clause-tree
returns-clause-tree g c x l free =
    let here = child_is c.args.entry.now.name c.as_str-2.result.now _ c.args.path.now _ c.as_str-2.ensures (sym c.in-Some-2.is ∙ c.in_ok-place.ensures) in
    let within = place_is c.args.entry.now.name c.as_str.result.now _ _ c.as_str.ensures (sym c.in-Some.is ∙ c.in_ok-within.ensures) in
    put_is c.args.entry.now.name c.args.tree.now c.put.new.tree x c.in_ok-node.node (c.in_ok-node.ensures.walks x (listed_at c.args.path.now c.args.entry.now x _ here l) l.kind).0 (c.in_ok-put.ensures c.args.entry.now.name within free)
