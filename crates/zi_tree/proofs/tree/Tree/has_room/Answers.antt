use Rattle.std.proofs.Common.{◌≡◌, ◌-◌, length, Some, is_none, ◌∙◌, ap, arith}
use Rattle.zi_tree.specs.Paths.{items, node_in, holder, last_name, is_free, has_room}
use Rattle.zi_tree.proofs.Holders.{last_is, none_copied}
use Rattle.zi_tree.proofs.tree.Tree.has_room.Goals as goal

pub returns-in-Some : goal.returns-in-Some
returns-in-Some c =
    let parts = c.as_slice-parts.result.now in
    let d = c.args.self.now in
    let name : c.name-item.result ≡ last_name parts = last_is parts (length parts - 1) c.name-item.result (omega arith) c.name-item.is in
    let held : Some c.in-Some.folder.now ≡ holder parts d = c.in-Some.ensures in
    none_copied c.node.result c.is_none.result c.is_none.ensures ∙ ap is_none (c.node.ensures ∙ ap (λ m. node_in m (items c.in-Some.folder.now)) (c.as_str.ensures ∙ name)) ∙ ap (is_free (last_name parts)) held
    ∙ ap (λ l. has_room l d) (c.as_slice-parts.ensures ∙ c.parts.ensures.parts)
