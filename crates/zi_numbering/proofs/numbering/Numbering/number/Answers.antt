use Rattle.std.proofs.Common.{◌≡◌, ◌+◌, ◌∙◌, ap, arith, subst, sym, length, ◌<◌}
use Rattle.zi_universe.specs.Whole.{IsWhole}
use Rattle.zi_choice.specs.Vars.{candidates_of, before, own_candidates}
use Rattle.zi_build.specs.Writing.{starts}
use Rattle.zi_numbering.proofs.FirstLaws.{first_there, first_is, sum_few}
use Rattle.zi_numbering.proofs.numbering.Numbering.number.Goals as goal

pub at-requires : goal.at-requires
at-requires c =
    first_there c.args.self.now c.self.inside.firsts c.args.interface c.args.candidate (c.self.invariant ∙ ap (starts own_candidates 1) c.self.view_is) c.requires

pub overflow_add-result : goal.overflow_add-result
overflow_add-result c =
    let n = first_is c.args.self.now c.self.inside.firsts c.args.interface c.args.candidate c.at.result.now (c.self.invariant ∙ ap (starts own_candidates 1) c.self.view_is) c.requires c.at.ensures in
    let few = sum_few c.args.self.now c.args.interface c.args.candidate (subst IsWhole c.self.view_is c.interfaces-interfaces.ensures.whole) c.requires in
    omega (arith, n, few)

pub returns : goal.returns
returns c =
    let n = first_is c.args.self.now c.self.inside.firsts c.args.interface c.args.candidate c.at.result.now (c.self.invariant ∙ ap (starts own_candidates 1) c.self.view_is) c.requires c.at.ensures in
    omega (arith, n)
