use Rattle.std.proofs.Common.{◌≡◌, ◌++◌, [], ◌∷◌, true, sym, ◌∙◌, ap}
use Rattle.std.specs.List.{list_all}
use Rattle.std.proofs.lemmas.Str.{is_utf8-from_IsUtf8}
use Rattle.zi_tree.specs.Order.{is_name, is_plain}
use Rattle.zi_tree.proofs.Pieces.{names_more, plain_name}
use Rattle.zi_tree.proofs.path.RelPath.child.Goals as goal

pub invariant_of-result : goal.invariant_of-result
invariant_of-result c =
    let parts = c.self.inside.parts in
    let name = c.args.name.now in
    let pushed : c.push.new.self ≡ parts ++ name ∷ [] = c.in_ok-push.ensures.ok ∙ ap (λ n. c.in_ok-parts.parts ++ n ∷ []) c.in_ok-from_str.ensures ∙ ap (λ l. l ++ name ∷ []) c.in_ok-parts.ensures in
    let plain : is_plain name ≡ true = sym c.is_plain_name.ensures ∙ c.if-not-is_plain_name.false in
    ap (list_all is_name) pushed ∙ names_more parts name c.self.invariant (plain_name name (is_utf8-from_IsUtf8 name c.utf8.name) plain)
