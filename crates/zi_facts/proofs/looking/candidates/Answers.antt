use Rattle.std.proofs.Common.{◌∙◌, ◌<◌, length, subst}
use Rattle.zi_build.proofs.WriteLaws.{candidates_there}
use Rattle.zi_facts.proofs.LookLaws.{none_there}
use Rattle.zi_facts.proofs.looking.candidates.Goals as goal

pub returns-in-None-clause-is : goal.returns-in-None-clause-is
returns-in-None-clause-is c =
    none_there c.args.names.now c.interfaces.result.now c.args.i (c.interfaces.ensures.interfaces ∙ c.universe.ensures) c.in-None.ensures.lookup.3

pub returns-in-Some-clause-is : goal.returns-in-Some-clause-is
returns-in-Some-clause-is c =
    let e = c.interfaces.ensures.interfaces ∙ c.universe.ensures in
    candidates_there c.args.names.now c.interfaces.result.now c.args.i c.in-Some.x.now c.as_slice.result.now e (subst (λ u. c.args.i < length u) e c.in-Some.ensures.lookup.3.0) c.in-Some.ensures.lookup.1 c.as_slice.ensures
