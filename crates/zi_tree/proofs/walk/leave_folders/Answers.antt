use Rattle.std.proofs.Common.{◌≡◌, ◌++◌, ◌∙◌, ap, arith}
use Rattle.zi_tree.specs.Paths.{after}
use Rattle.zi_tree.specs.Walk.{folder_places}
use Rattle.zi_tree.specs.Waiting.{waiting_places}
use Rattle.zi_tree.proofs.After.{after_none}
use Rattle.zi_tree.proofs.walk.leave_folders.Goals as goal

pub returns : goal.returns
returns c =
    let first = waiting_places c.args.waiting.now.items in
    let none : c.loop-left.left ≡ 0 = omega (arith, c.loop-left-test.false) in
    c.loop-left.invariant.1 ∙ ap (λ i. folder_places c.args.path.now (after i c.args.tree.now) ++ first) none ∙ ap (λ d. folder_places c.args.path.now d ++ first) (after_none c.args.tree.now)
