use Rattle.std.proofs.Common.{◌≡◌, List, None, sym, ◌∙◌, ap, subst}
use Rattle.zi_tree.specs.declared.tree.Entry.{Entry}
use Rattle.zi_tree.specs.Order.{is_tree}
use Rattle.zi_tree.specs.Views.{dir, dir_of, items_of}
use Rattle.zi_tree.specs.Paths.{items, node_in, placed}
use Rattle.zi_tree.specs.Places.{IsPlace}
use Rattle.zi_tree.proofs.Items.{items_of_dir, placed_at}
use Rattle.zi_tree.proofs.Order.{tree_insert}
use Rattle.zi_tree.proofs.change.put_under.Goals as goal

pub invariant_of-tree-2 : goal.invariant_of-tree-2
invariant_of-tree-2 c =
    let es = c.tree.inside.entries.items in
    let n = c.args.name in
    let v : items c.args.tree.now ≡ items_of es = ap items (sym c.tree.view_is) ∙ items_of_dir (items_of es) in
    let at = subst (λ l. IsPlace n l c.in-Err.i) c.as_slice.ensures.value (subst (λ m. IsPlace m c.as_slice.result.now c.in-Err.i) c.as_str.ensures c.in-Err.ensures.1) in
    let free : node_in n (items_of es) ≡ None = sym (ap (node_in n) v) ∙ c.requires.free in
    ap (λ (l : List Entry). is_tree (dir_of l)) c.in-Ok.ensures.items ∙ tree_insert es n c.in-Err.i c.args.node at free c.requires.name c.whole_node.ensures c.tree.invariant

pub returns-clause-ok : goal.returns-clause-ok
returns-clause-ok c =
    let es = c.tree.inside.entries.items in
    let n = c.args.name in
    let v : items c.args.tree.now ≡ items_of es = ap items (sym c.tree.view_is) ∙ items_of_dir (items_of es) in
    let at = subst (λ l. IsPlace n l c.in-Err.i) c.as_slice.ensures.value (subst (λ m. IsPlace m c.as_slice.result.now c.in-Err.i) c.as_str.ensures c.in-Err.ensures.1) in
    ap (λ (l : List Entry). dir (items_of l)) c.in-Ok.ensures.items ∙ ap dir (sym (placed_at es n c.in-Err.i c.args.node at) ∙ ap (placed n c.args.node) (sym v))
