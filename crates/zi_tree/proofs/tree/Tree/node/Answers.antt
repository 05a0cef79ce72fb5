use Rattle.std.proofs.Common.{◌≡◌, Some, sym, ◌∙◌, ap, subst, None}
use Rattle.zi_tree.specs.declared.tree.Entry.{Entry}
use Rattle.zi_tree.specs.Views.{items_of}
use Rattle.zi_tree.specs.Paths.{items, node_in}
use Rattle.zi_tree.specs.Places.{IsAt}
use Rattle.zi_tree.proofs.Items.{items_of_dir, node_at_place}
use Rattle.zi_tree.proofs.tree.Tree.node.Goals as goal

pub returns-in-Ok : goal.returns-in-Ok
returns-in-Ok c =
    let es = c.self.inside.entries.items in
    let v : items c.args.self.now ≡ items_of es = ap items (sym c.self.view_is) ∙ items_of_dir (items_of es) in
    let at = subst (λ l. IsAt c.args.name.now l c.in-Ok.i) c.as_slice.ensures.value c.in-Ok.ensures.1 in
    ap (λ (t : Entry). Some t.node) c.index.ensures ∙ sym (node_at_place es c.args.name.now c.in-Ok.i c.index.result.now at) ∙ ap (node_in c.args.name.now) (sym v)

pub returns-in-Err : goal.returns-in-Err
returns-in-Err c =
    let es = c.self.inside.entries.items in
    let v : items c.args.self.now ≡ items_of es = ap items (sym c.self.view_is) ∙ items_of_dir (items_of es) in
    sym (ap (node_in c.args.name.now) v ∙ subst (λ l. node_in c.args.name.now (items_of l) ≡ None) c.as_slice.ensures.value c.in-Err.ensures.2)
