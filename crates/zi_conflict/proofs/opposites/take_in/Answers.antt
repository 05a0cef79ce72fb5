use Rattle.std.proofs.Common.{◌++◌, ◌∷◌, [], ◌∙◌, ap, sym, arith}
use Rattle.zi_walk.proofs.PartLaws.{longer_length, take_item}
use Rattle.zi_conflict.proofs.opposites.take_in.Goals as goal

pub overflow_step-n : goal.overflow_step-n
overflow_step-n c =
    let l = longer_length c.args.taken.now.items c.args.t.now.entries c.requires in
    let a = c.len-n.ensures in
    let b = c.len-end.ensures in
    let d = c.len-end.type_inv in
    omega (arith, l, a, b, d)

pub loop-n-preserved : goal.loop-n-preserved
loop-n-preserved c =
    c.in_ok-push.ensures.items ∙ ap (λ xs. xs ++ c.at.result ∷ []) c.loop-n.invariant ∙ sym (take_item c.args.t.now.entries c.loop-n.n c.at.result c.at.ensures)
