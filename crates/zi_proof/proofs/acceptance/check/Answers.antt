use Rattle.std.proofs.Common.{◌∙◌, sym, arith, ◌<◌, length}
use Rattle.std.proofs.lemmas.Bool.Decides.{nat_tests}
use Rattle.zi_proof.proofs.Cites.{check_value}
use Rattle.zi_proof.proofs.acceptance.check.Goals as goal

pub returns-clause-value : goal.returns-clause-value
returns-clause-value c =
    let some : 0 < length c.as_slice-lemmas.result.now = grind (arith, nat_tests) in
    check_value c.args.f.now c.args.p.now.lemmas c.as_slice-lemmas.result.now c.args.goal.now c.as_slice-last.result.now c.index-lemmas-lemmas.result _ (sym c.follow.ensures.value ∙ c.if-not-follow.false) c.as_slice-lemmas.ensures some c.as_slice-last.ensures c.have_same.ensures
