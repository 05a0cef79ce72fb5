use Rattle.std.proofs.Common.{◌≡◌, ◌∙◌, ◌++◌, ◌∷◌, [], ap, sym, arith}
use Rattle.zi_conflict.specs.Resting.{numbers_to}
use Rattle.zi_conflict.proofs.PartLaws.{to_push}
use Rattle.zi_conflict.proofs.cores.numbers_to.Goals as goal

pub loop-n-preserved : goal.loop-n-preserved
loop-n-preserved c = c.in_ok-push.ensures.items ∙ ap (λ xs. xs ++ c.loop-n.n ∷ []) c.loop-n.invariant ∙ sym (to_push c.loop-n.n)
