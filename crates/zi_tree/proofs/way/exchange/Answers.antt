use Rattle.std.proofs.Common.{◌≡◌, ◌<◌, sym, ◌∙◌, ap, subst, None, length}
use Rattle.zi_tree.specs.Views.{items_of}
use Rattle.zi_tree.specs.Paths.{items, node_in}
use Rattle.zi_tree.specs.Places.{IsAt}
use Rattle.zi_tree.proofs.Items.{items_of_dir}
use Rattle.zi_tree.proofs.Joins.{exchanged_at, exchanged_tree, none_exchanged}
use Rattle.zi_tree.proofs.way.exchange.Goals as goal

pub returns-in-Ok : goal.returns-in-Ok
returns-in-Ok c =
    let es = c.tree.inside.entries.items in
    let at = subst (λ l. IsAt c.args.name.now l c.in-Ok.i) c.as_slice.ensures.value c.in-Ok.ensures.1 in
    exchanged_at c.args.tree.now es c.args.name.now c.in-Ok.i c.index_mut.result.now c.exchange_inside.new.node c.args.other.now c.exchange_inside.new.other c.exchange_inside.result c.tree.view_is at c.index_mut.ensures.value c.exchange_inside.ensures

pub invariant_of-tree : goal.invariant_of-tree
invariant_of-tree c =
    let es = c.tree.inside.entries.items in
    let lt : c.in-Ok.i < length es = subst (λ l. c.in-Ok.i < length l) c.as_slice.ensures.value c.in-Ok.ensures.0 in
    exchanged_tree es c.in-Ok.i c.index_mut.result.now c.exchange_inside.new.node c.args.other.now c.exchange_inside.new.other c.exchange_inside.result lt c.index_mut.ensures.value c.exchange_inside.ensures c.is_whole.ensures c.tree.invariant

pub returns-in-Err : goal.returns-in-Err
returns-in-Err c =
    let es = c.tree.inside.entries.items in
    let v : items c.args.tree.now ≡ items_of es = ap items (sym c.tree.view_is) ∙ items_of_dir (items_of es) in
    none_exchanged c.args.name.now c.args.tree.now c.args.other.now (ap (node_in c.args.name.now) v ∙ subst (λ l. node_in c.args.name.now (items_of l) ≡ None) c.as_slice.ensures.value c.in-Err.ensures.2)
