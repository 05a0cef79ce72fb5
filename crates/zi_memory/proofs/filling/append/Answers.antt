use Rattle.std.proofs.Common.{◌≡◌, Some, false, pos, sym, ◌∙◌, ap}
use Rattle.zi_tree.specs.declared.tree.TreeNode.TheVariants.{File}
use Rattle.zi_tree.specs.Paths.{inserted}
use Rattle.zi_shelf.specs.Fillings.{grown_file}
use Rattle.zi_shelf.proofs.FillingLemmas.{on_ok_then, on_err_then, file_made, file_grown, put_back, put_same}
use Rattle.zi_memory.proofs.filling.append.Goals as goal

pub returns-then-is_there-clause-ok : goal.returns-then-is_there-clause-ok
returns-then-is_there-clause-ok c =
    let path = c.args.path.now in
    let bytes = c.args.bytes.now in
    let x = c.exchange-is_there.new.node in
    on_ok_then c.grow-grown.result c.grow-grown.ensures.ok (λ e. file_grown path bytes c.args.tree.now x (c.exchange-is_there.ensures.there c.if-is_there.true) c.requires
    ∙ ap Some (sym (put_back path c.args.tree.now c.exchange-is_there.new.self c.exchange.new.self c.empty_file-file.result c.grow-grown.new.node (grown_file bytes x) c.exchange-is_there.ensures.after c.exchange.ensures.after e)))

pub returns-then-is_there-clause-err : goal.returns-then-is_there-clause-err
returns-then-is_there-clause-err c =
    let path = c.args.path.now in
    let x = c.exchange-is_there.new.node in
    on_err_then c.grow-grown.result c.grow-grown.ensures.err (λ e. put_same path c.args.tree.now c.exchange-is_there.new.self c.exchange.new.self c.empty_file-file.result c.grow-grown.new.node x (c.exchange-is_there.ensures.there c.if-is_there.true)
    c.exchange-is_there.ensures.after c.exchange.ensures.after e)

pub returns-in-Ok-clause-ok : goal.returns-in-Ok-clause-ok
returns-in-Ok-clause-ok c =
    let path = c.args.path.now in
    let bytes = c.args.bytes.now in
    let d = c.args.tree.now in
    let same = c.exchange-is_there.ensures.same c.if-is_there.false in
    let file : c.grow-grown.new.node ≡ File bytes false (pos 0) = c.in-Ok.ensures.ok ∙ ap (grown_file bytes) (same.1 ∙ c.empty_file-file.ensures) in
    on_ok_then c.make.result c.make.ensures.ok (λ e. file_made path bytes d (c.exchange-is_there.ensures.none c.if-is_there.false) c.requires
    ∙ ap (λ z. inserted path z d) (sym file) ∙ ap (inserted path c.grow-grown.new.node) (sym same.0) ∙ e)
