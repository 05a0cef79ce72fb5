use Rattle.std.proofs.Common.{◌∙◌, length, ap, subst}
use Rattle.zi_conflict.specs.Resting.{Rests, picked}
use Rattle.zi_conflict.proofs.PartLaws.{rest_is}
use Rattle.zi_conflict.proofs.cores.rest_of.Goals as goal

pub returns : goal.returns
returns c =
    let ns = c.args.numbers.now in
    let marks = c.in_ok-marks.marks.items in
    rest_is c.args.p.now ns c.in_ok-rest.rest.items marks (subst (λ ms. Rests (length ns) ms marks) c.as_slice.ensures c.in_ok-marks.ensures) (c.in_ok-rest.ensures ∙ ap (λ ms. picked ms ns) c.as_slice-2.ensures.value)
