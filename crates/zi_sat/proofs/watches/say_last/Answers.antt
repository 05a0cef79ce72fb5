use Rattle.std.proofs.Common.{◌-◌, length, arith}
use Rattle.zi_proof.specs.Accepted.{citable}
use Rattle.zi_sat.proofs.CiteLaws.{cited_zs, lemma_ok_zs}
use Rattle.zi_sat.proofs.watches.say_last.Goals as goal

pub say-requires-clause-within : goal.say-requires-clause-within
say-requires-clause-within c =
    lemma_ok_zs c.args.t.now.variables c.args.lemmas.now (length c.args.lemmas.now - 1) c.index-lemmas-last.result c.as_slice-lits.result.now c.requires.within (omega (arith, c.requires.some)) c.as_slice-lits.ensures

pub returns-clause-added : goal.returns-clause-added
returns-clause-added c =
    c.say.ensures.added (citable c.args.f.now.constraints c.args.lemmas.now) (cited_zs c.args.f.now.constraints c.args.lemmas.now (length c.args.lemmas.now - 1) c.len-count.result c.index-lemmas-last.result c.as_slice-lits.result.now c.len-count.ensures (omega (arith, c.requires.some)) c.as_slice-lits.ensures)
