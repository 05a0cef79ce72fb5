use Rattle.std.proofs.Common.{subst, Err}
use Rattle.zi_store.specs.TreeAnswers.{ReadsWhole}
use Rattle.zi_store.proofs.trees.read_tree.Goals as goal

pub returns-in-Err-Missing-clause-tree : goal.returns-in-Err-Missing-clause-tree
returns-in-Err-Missing-clause-tree g c s keeps e = subst (λ x. ReadsWhole c.args.top.now (Err x) s.shelf) c.in-Err-Missing.field-0-is (c.in-Err-Missing.ensures.tree s keeps e)

pub returns-in-Err-TooLarge-clause-tree : goal.returns-in-Err-TooLarge-clause-tree
returns-in-Err-TooLarge-clause-tree g c s keeps e =
    let r = subst (λ x. ReadsWhole c.args.top.now (Err x) s.shelf) c.in-Err-TooLarge.field-0-is (c.in-Err-TooLarge.ensures.tree s keeps e) in
    (r.0, r.1, r.2, c.most.ensures)
