use Rattle.std.proofs.Common.{◌∙◌, sym, subst, length, ◌<◌}
use Rattle.zi_build.proofs.WriteLaws.{candidates_there}
use Rattle.zi_numbering.proofs.FirstLaws.{none_there}
use Rattle.zi_numbering.proofs.numbering.Numbering.candidates.Goals as goal

pub returns-in-None-clause-is : goal.returns-in-None-clause-is
returns-in-None-clause-is c =
    none_there c.args.self.now c.interfaces.result.now c.args.interface (c.interfaces.ensures.interfaces ∙ c.self.view_is) c.in-None.ensures.lookup.3

pub returns-in-Some-clause-is : goal.returns-in-Some-clause-is
returns-in-Some-clause-is c =
    let e = c.interfaces.ensures.interfaces ∙ c.self.view_is in
    candidates_there c.args.self.now c.interfaces.result.now c.args.interface c.in-Some.x.now c.as_slice.result.now e (subst (λ u. c.args.interface < length u) e c.in-Some.ensures.lookup.3.0) c.in-Some.ensures.lookup.1 c.as_slice.ensures
