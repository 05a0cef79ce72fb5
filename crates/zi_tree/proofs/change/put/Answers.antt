use Rattle.std.proofs.Common.{◌≡◌, ◌∷◌, None, Some, is_some, sym, ◌∙◌, ap, ◌-◌, length, drop, length-drop, arith}
use Rattle.std.proofs.lemmas.List.{take_all}
use Rattle.zi_tree.specs.declared.tree.TreeNode.{TreeNode}
use Rattle.zi_tree.specs.Views.{dir}
use Rattle.zi_tree.specs.Paths.{items, node_in, placed, inserted, nested}
use Rattle.zi_tree.proofs.Rests.{first_is, none_is, put_rest}
use Rattle.zi_tree.proofs.change.put.Goals as goal

pub returns-in-Ok-put_under-clause-ok : goal.returns-in-Ok-put_under-clause-ok
returns-in-Ok-put_under-clause-ok c =
    let d = c.args.tree.now in
    let n = c.name-item.result in
    let rest : c.args.rest.now ≡ n ∷ drop 1 c.args.rest.now = first_is c.args.rest.now n (omega arith) c.name-item.is in
    let free : node_in n (items d) ≡ None = none_is (node_in n (items d)) (ap (λ m. is_some (node_in m (items d))) (sym c.as_str.ensures) ∙ sym c.has.ensures ∙ c.if-has.false) in
    let made : c.in-Ok.made ≡ nested (drop 1 c.args.rest.now) c.args.node = c.in-Ok.ensures ∙ ap (λ ns. nested ns c.args.node) (take_all (length c.args.rest.now - 1) (drop 1 c.args.rest.now) (omega (arith, length-drop 1 c.args.rest.now))) in
    let new : c.put_under.new.tree ≡ dir (placed n (nested (drop 1 c.args.rest.now) c.args.node) (items d)) =
    c.in-Ok-put_under.ensures.ok ∙ ap (λ m. dir (placed m c.in-Ok.made (items d))) c.in-Ok-copy.ensures ∙ ap (λ (x : TreeNode). dir (placed n x (items d))) made in
    ap (λ r. inserted r c.args.node d) rest ∙ put_rest n (drop 1 c.args.rest.now) c.args.node d free ∙ ap Some (sym new)
