use Rattle.std.proofs.Common.{◌∙◌, ◌<◌, arith}
use Rattle.zi_formula.specs.declared.constraints.End.TheVariants as end
use Rattle.zi_formula.proofs.Flat.{before_place}
use Rattle.zi_formula.proofs.constraints.lits_before.Goals as goal

pub returns-else-i-eq0 : goal.returns-else-i-eq0
returns-else-i-eq0 c =
    let some : 0 < c.args.i = omega arith in
    c.lits_to.ensures ∙ before_place c.args.groups.now c.args.ends.now c.args.i (end.Clause 0) some c.requires.place
