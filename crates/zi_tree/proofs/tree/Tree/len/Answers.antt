use Rattle.std.proofs.Common.{◌≡◌, sym, ◌∙◌, ap, length}
use Rattle.zi_tree.specs.Views.{items_of}
use Rattle.zi_tree.specs.Paths.{items}
use Rattle.zi_tree.proofs.Items.{items_of_dir, length_items}
use Rattle.zi_tree.proofs.tree.Tree.len.Goals as goal

pub returns : goal.returns
returns c =
    let es = c.self.inside.entries.items in
    let v : items c.args.self.now ≡ items_of es = ap items (sym c.self.view_is) ∙ items_of_dir (items_of es) in
    ap length c.as_slice.ensures.value ∙ sym (ap length v ∙ length_items es)
