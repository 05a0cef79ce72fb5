use Rattle.std.proofs.Common.{◌≡◌, ◌-◌, length, Some, None, sym, ◌∙◌, ap, arith}
use Rattle.zi_tree.specs.Paths.{items, node_in, found, holder, last_name}
use Rattle.zi_tree.proofs.Holders.{found_held, last_is, node_held}
use Rattle.zi_tree.proofs.tree.Tree.find.Goals as goal

pub returns-in-Some : goal.returns-in-Some
returns-in-Some c =
    let parts = c.as_slice-parts.result.now in
    let d = c.args.self.now in
    let name : c.name-item.result ≡ last_name parts = last_is parts (length parts - 1) c.name-item.result (omega arith) c.name-item.is in
    let held : Some c.in-Some.folder.now ≡ holder parts d = c.in-Some.ensures in
    c.node.ensures ∙ ap (λ m. node_in m (items c.in-Some.folder.now)) (c.as_str.ensures ∙ name) ∙ ap (node_held (last_name parts)) held ∙ sym (found_held parts d)
    ∙ ap (λ l. found l d) (c.as_slice-parts.ensures ∙ c.parts.ensures.parts)

pub returns-in-None : goal.returns-in-None
returns-in-None c =
    let parts = c.as_slice-parts.result.now in
    let d = c.args.self.now in
    let none : None ≡ holder parts d = c.in-None.ensures in
    ap (node_held (last_name parts)) none ∙ sym (found_held parts d) ∙ ap (λ l. found l d) (c.as_slice-parts.ensures ∙ c.parts.ensures.parts)
