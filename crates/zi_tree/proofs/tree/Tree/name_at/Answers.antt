use Rattle.std.proofs.Common.{rules, ◌≡◌, ◌<◌, ◌∙◌, sym, ap, subst, length, option_map, get_or, Some, List}
use Rattle.zi_tree.specs.declared.tree.Entry.{Entry}
use Rattle.zi_tree.specs.Views.{items_of, Item}
use Rattle.zi_tree.specs.Paths.{items, name_in}
use Rattle.zi_tree.proofs.Items.{items_of_dir, length_items, entry_at}
use Rattle.zi_tree.proofs.tree.Tree.name_at.Goals as goal

pub returns : goal.returns
returns c =
    let es = c.self.inside.entries.items in
    let v : items c.args.self.now ≡ items_of es = ap items (sym c.self.view_is) ∙ items_of_dir (items_of es) in
    let lt : c.args.i < length es = subst (λ n. c.args.i < n) (ap length v ∙ length_items es) c.requires in
    ap (λ (l : List Item). name_in l c.args.i) v ∙ ap (option_map (λ (i : Item). i.0)) (entry_at es c.args.i c.index-entries-i.result lt) ∙ ap (λ (t : List Entry). Some (get_or t c.args.i c.index-entries-i.result).name) (sym c.as_slice-entries.ensures.value)

pub bounds-entries-i : goal.bounds-entries-i
bounds-entries-i c =
    let es = c.self.inside.entries.items in
    let v : items c.args.self.now ≡ items_of es = ap items (sym c.self.view_is) ∙ items_of_dir (items_of es) in
    subst (λ n. c.args.i < n) (ap length v ∙ length_items es ∙ sym (ap length c.as_slice-entries.ensures.value)) c.requires

pub offset_bounds-entries-i : goal.offset_bounds-entries-i
offset_bounds-entries-i c =
    let es = c.self.inside.entries.items in
    let v : items c.args.self.now ≡ items_of es = ap items (sym c.self.view_is) ∙ items_of_dir (items_of es) in
    let b : c.args.i < length c.as_slice-entries.result.now = subst (λ n. c.args.i < n) (ap length v ∙ length_items es ∙ sym (ap length c.as_slice-entries.ensures.value)) c.requires in
    search (rules, b)
