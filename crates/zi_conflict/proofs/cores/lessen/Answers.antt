use Rattle.std.proofs.Common.{List, ℕ, length, sym, subst}
use Rattle.std.specs.Prelude.{IfSome, Vec}
use Rattle.std.specs.declared.alloc.Global.{Global}
use Rattle.zi_conflict.specs.Ground.{formula_of}
use Rattle.zi_conflict.specs.Resting.{numbers_to, IsPart, IsCoreOf}
use Rattle.zi_conflict.proofs.PartLaws.{part_whole}
use Rattle.zi_conflict.proofs.cores.lessen.Goals as goal

pub less-requires-clause-own : goal.less-requires-clause-own
less-requires-clause-own c = subst (λ xs. IsPart xs (numbers_to (length (formula_of c.args.on.now).constraints))) (sym c.as_slice.ensures.value) c.requires.core.0

pub returns-in_default : goal.returns-in_default
returns-in_default c = (part_whole c.args.kept.now.items, c.requires.core.1)

pub returns : goal.returns
returns c =
    let f = formula_of c.args.on.now in
    subst (λ xs. IsCoreOf f xs c.in-Some.fewer.items) c.as_slice.ensures.value
    (subst (λ o. IfSome o (λ (v : Vec ℕ Global). IsCoreOf f c.as_slice.result.now v.items)) c.in-Some.is c.in_ok-fewer.ensures)
