use Rattle.std.proofs.Common.{◌∙◌, ◌++◌, ◌∷◌, [], cond, false, get_or, ap, sym, refl}
use Rattle.zi_conflict.proofs.PartLaws.{picked_start, picked_next, picked_end}
use Rattle.zi_conflict.proofs.cores.picked.Goals as goal

pub loop-k-init : goal.loop-k-init
loop-k-init c = c.new-found.ensures.items ∙ picked_start c.args.marks.now c.args.numbers.now

pub loop-k-preserved : goal.loop-k-preserved
loop-k-preserved c =
    c.in_ok-pick.ensures ∙ ap (λ xs. xs ++ cond (get_or c.args.marks.now c.loop-k.k false) (get_or c.args.numbers.now c.loop-k.k 0 ∷ []) []) c.loop-k.invariant
    ∙ sym (picked_next c.args.marks.now c.args.numbers.now c.loop-k.k (get_or c.args.numbers.now c.loop-k.k 0) (get_or c.args.marks.now c.loop-k.k false) c.loop-k-test.true c.requires refl refl)

pub returns : goal.returns
returns c = picked_end c.args.marks.now c.args.numbers.now c.loop-k.found.items c.loop-k.k c.loop-k-test.false c.loop-k.invariant
