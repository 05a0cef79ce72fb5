use Rattle.std.proofs.Common.{◌≡◌, [], ◌∷◌, List, None, sym, ◌∙◌, ap, subst, arith}
use Rattle.zi_tree.specs.declared.tree.TreeNode.{TreeNode}
use Rattle.zi_tree.specs.Views.{Item, dir, items_of, node_is_tree}
use Rattle.zi_tree.specs.Paths.{items, node_in, replaced, found, changed}
use Rattle.zi_tree.specs.Places.{IsAt}
use Rattle.zi_tree.proofs.Items.{items_of_dir, node_is, replaced_is}
use Rattle.zi_tree.proofs.Order.{tree_set}
use Rattle.zi_tree.proofs.Rests.{one_is, unchanged}
use Rattle.zi_tree.proofs.change.exchange_at.Goals as goal

pub invariant_of-tree : goal.invariant_of-tree
invariant_of-tree c = tree_set c.tree.inside.entries.items c.in-Ok.i c.index_mut.result.now c.swap.new.x c.index_mut.ensures.value (ap node_is_tree c.swap.ensures.x_after ∙ c.whole_node.ensures) c.tree.invariant

pub returns-in-Ok-clause-there : goal.returns-in-Ok-clause-there
returns-in-Ok-clause-there c =
    let es = c.tree.inside.entries.items in
    let n = c.name-item.result in
    let v : items c.args.tree.now ≡ items_of es = ap items (sym c.tree.view_is) ∙ items_of_dir (items_of es) in
    let one : c.args.rest.now ≡ n ∷ [] = one_is c.args.rest.now n (omega arith) (omega arith) c.name-item.is in
    let at = subst (λ l. IsAt n l c.in-Ok.i) c.as_slice.ensures.value (subst (λ m. IsAt m c.as_slice.result.now c.in-Ok.i) c.as_str.ensures c.in-Ok.ensures.1) in
    λ h. ap (λ r. found r c.args.tree.now) one ∙ ap (node_in n) v ∙ node_is es n c.in-Ok.i c.index_mut.result.now c.swap.new.y at c.index_mut.ensures.value (sym c.swap.ensures.y_after)

pub returns-in-Ok-clause-after : goal.returns-in-Ok-clause-after
returns-in-Ok-clause-after c =
    let es = c.tree.inside.entries.items in
    let n = c.name-item.result in
    let v : items c.args.tree.now ≡ items_of es = ap items (sym c.tree.view_is) ∙ items_of_dir (items_of es) in
    let one : c.args.rest.now ≡ n ∷ [] = one_is c.args.rest.now n (omega arith) (omega arith) c.name-item.is in
    let at = subst (λ l. IsAt n l c.in-Ok.i) c.as_slice.ensures.value (subst (λ m. IsAt m c.as_slice.result.now c.in-Ok.i) c.as_str.ensures c.in-Ok.ensures.1) in
    ap dir (replaced_is es n c.in-Ok.i c.index_mut.result.now c.swap.new.x at c.index_mut.ensures.value) ∙ ap (λ (x : TreeNode). dir (replaced n x (items_of es))) c.swap.ensures.x_after
    ∙ ap (λ (l : List Item). dir (replaced n c.args.node.now l)) (sym v) ∙ ap (λ r. changed r c.args.node.now c.args.tree.now) (sym one)

pub returns-in-Err-clause-after : goal.returns-in-Err-clause-after
returns-in-Err-clause-after c =
    let es = c.tree.inside.entries.items in
    let n = c.name-item.result in
    let v : items c.args.tree.now ≡ items_of es = ap items (sym c.tree.view_is) ∙ items_of_dir (items_of es) in
    let one : c.args.rest.now ≡ n ∷ [] = one_is c.args.rest.now n (omega arith) (omega arith) c.name-item.is in
    let free : node_in n (items_of es) ≡ None = subst (λ l. node_in n (items_of l) ≡ None) c.as_slice.ensures.value (subst (λ m. node_in m (items_of c.as_slice.result.now) ≡ None) c.as_str.ensures c.in-Err.ensures.2) in
    unchanged n c.args.node.now c.args.tree.now (ap (node_in n) v ∙ free) ∙ ap (λ r. changed r c.args.node.now c.args.tree.now) (sym one)

pub returns-in-Err-clause-none : goal.returns-in-Err-clause-none
returns-in-Err-clause-none c =
    let es = c.tree.inside.entries.items in
    let n = c.name-item.result in
    let v : items c.args.tree.now ≡ items_of es = ap items (sym c.tree.view_is) ∙ items_of_dir (items_of es) in
    let one : c.args.rest.now ≡ n ∷ [] = one_is c.args.rest.now n (omega arith) (omega arith) c.name-item.is in
    let free : node_in n (items_of es) ≡ None = subst (λ l. node_in n (items_of l) ≡ None) c.as_slice.ensures.value (subst (λ m. node_in m (items_of c.as_slice.result.now) ≡ None) c.as_str.ensures c.in-Err.ensures.2) in
    λ h. ap (λ r. found r c.args.tree.now) one ∙ ap (node_in n) v ∙ free
