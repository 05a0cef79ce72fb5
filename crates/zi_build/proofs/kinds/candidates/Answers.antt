use Rattle.std.proofs.Common.{◌≤◌, ◌∙◌, ap, length, subst, sym}
use Rattle.zi_universe.specs.declared.types.Interface.{Interface}
use Rattle.zi_build.specs.Writing.{plan_of}
use Rattle.zi_build.proofs.WriteLaws.{candidates_there, candidates_few}
use Rattle.zi_build.proofs.kinds.candidates.Goals as goal

pub returns-clause-is : goal.returns-clause-is
returns-clause-is c =
    candidates_there (plan_of c.args.plan.now) c.interfaces.result.now c.args.j c.index-interfaces-j.result c.as_slice.result.now c.interfaces.ensures.interfaces c.requires c.index-interfaces-j.is (c.as_slice.ensures ∙ ap (λ (x : Interface). x.candidates) (sym c.index-interfaces-j.is))

pub returns-clause-few : goal.returns-clause-few
returns-clause-few c =
    subst (λ cs. length cs ≤ 65536) (sym (candidates_there (plan_of c.args.plan.now) c.interfaces.result.now c.args.j c.index-interfaces-j.result c.as_slice.result.now c.interfaces.ensures.interfaces c.requires c.index-interfaces-j.is (c.as_slice.ensures ∙ ap (λ (x : Interface). x.candidates) (sym c.index-interfaces-j.is))))
    (candidates_few (plan_of c.args.plan.now) c.args.j c.interfaces.ensures.whole)
