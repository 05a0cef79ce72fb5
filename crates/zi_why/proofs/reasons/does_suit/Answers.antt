use Rattle.zi_why.proofs.SuitLaws.{suits_not, suits_so}
use Rattle.zi_why.proofs.reasons.does_suit.Goals as goal

pub returns-then-not-is_admitted : goal.returns-then-not-is_admitted
returns-then-not-is_admitted c = suits_not c.args.dep.now c.args.p.now.is.now c.is_admitted.result c.is_admitted.ensures c.if-not-is_admitted.true

pub returns : goal.returns
returns c =
    suits_so c.args.dep.now c.args.p.now.is.now c.is_admitted.result c.is_none.result c.named_by.result.now c.first_lacked-lacked.result c.is_admitted.ensures c.if-not-is_admitted.false c.named_by.ensures c.first_lacked-lacked.ensures c.is_none.ensures
