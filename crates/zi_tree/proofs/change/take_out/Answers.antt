use Rattle.std.proofs.Common.{◌≡◌, [], ◌∷◌, List, None, refl, sym, ◌∙◌, ap, subst, arith}
use Rattle.zi_tree.specs.declared.tree.Entry.{Entry}
use Rattle.zi_tree.specs.Order.{is_tree}
use Rattle.zi_tree.specs.Views.{Item, dir, dir_of, items_of}
use Rattle.zi_tree.specs.Paths.{items, node_in, without, found, removed}
use Rattle.zi_tree.specs.Places.{IsAt}
use Rattle.zi_tree.proofs.Items.{items_of_dir, node_is}
use Rattle.zi_tree.proofs.Order.{tree_remove}
use Rattle.zi_tree.proofs.Rests.{one_is, without_at, taken_none}
use Rattle.zi_tree.proofs.change.take_out.Goals as goal

pub invariant_of-tree : goal.invariant_of-tree
invariant_of-tree c = ap (λ (l : List Entry). is_tree (dir_of l)) c.remove-name.ensures.items ∙ tree_remove c.tree.inside.entries.items c.in-Ok.i c.tree.invariant

pub returns-in-Ok-clause-taken : goal.returns-in-Ok-clause-taken
returns-in-Ok-clause-taken c =
    let es = c.tree.inside.entries.items in
    let n = c.name-item.result in
    let v : items c.args.tree.now ≡ items_of es = ap items (sym c.tree.view_is) ∙ items_of_dir (items_of es) in
    let one : c.args.rest.now ≡ n ∷ [] = one_is c.args.rest.now n (omega arith) (omega arith) c.name-item.is in
    let at = subst (λ l. IsAt n l c.in-Ok.i) c.as_slice.ensures.value (subst (λ m. IsAt m c.as_slice.result.now c.in-Ok.i) c.as_str.ensures c.in-Ok.ensures.1) in
    sym (ap (λ r. found r c.args.tree.now) one ∙ ap (node_in n) v ∙ node_is es n c.in-Ok.i c.remove-name.result c.remove-name.result.node at c.remove-name.ensures.value refl)

pub returns-in-Ok-clause-left : goal.returns-in-Ok-clause-left
returns-in-Ok-clause-left c =
    let es = c.tree.inside.entries.items in
    let n = c.name-item.result in
    let v : items c.args.tree.now ≡ items_of es = ap items (sym c.tree.view_is) ∙ items_of_dir (items_of es) in
    let one : c.args.rest.now ≡ n ∷ [] = one_is c.args.rest.now n (omega arith) (omega arith) c.name-item.is in
    let at = subst (λ l. IsAt n l c.in-Ok.i) c.as_slice.ensures.value (subst (λ m. IsAt m c.as_slice.result.now c.in-Ok.i) c.as_str.ensures c.in-Ok.ensures.1) in
    ap (λ (l : List Entry). dir (items_of l)) c.remove-name.ensures.items ∙ ap dir (sym (without_at es n c.in-Ok.i at)) ∙ ap (λ (l : List Item). dir (without n l)) (sym v) ∙ ap (λ r. removed r c.args.tree.now) (sym one)

pub returns-in-Err-clause-taken : goal.returns-in-Err-clause-taken
returns-in-Err-clause-taken c =
    let es = c.tree.inside.entries.items in
    let n = c.name-item.result in
    let v : items c.args.tree.now ≡ items_of es = ap items (sym c.tree.view_is) ∙ items_of_dir (items_of es) in
    let one : c.args.rest.now ≡ n ∷ [] = one_is c.args.rest.now n (omega arith) (omega arith) c.name-item.is in
    let free : node_in n (items_of es) ≡ None = subst (λ l. node_in n (items_of l) ≡ None) c.as_slice.ensures.value (subst (λ m. node_in m (items_of c.as_slice.result.now) ≡ None) c.as_str.ensures c.in-Err.ensures.2) in
    sym (ap (λ r. found r c.args.tree.now) one ∙ ap (node_in n) v ∙ free)

pub returns-in-Err-clause-left : goal.returns-in-Err-clause-left
returns-in-Err-clause-left c =
    let es = c.tree.inside.entries.items in
    let n = c.name-item.result in
    let v : items c.args.tree.now ≡ items_of es = ap items (sym c.tree.view_is) ∙ items_of_dir (items_of es) in
    let one : c.args.rest.now ≡ n ∷ [] = one_is c.args.rest.now n (omega arith) (omega arith) c.name-item.is in
    let free : node_in n (items_of es) ≡ None = subst (λ l. node_in n (items_of l) ≡ None) c.as_slice.ensures.value (subst (λ m. node_in m (items_of c.as_slice.result.now) ≡ None) c.as_str.ensures c.in-Err.ensures.2) in
    taken_none n c.args.tree.now (ap (node_in n) v ∙ free) ∙ ap (λ r. removed r c.args.tree.now) (sym one)
