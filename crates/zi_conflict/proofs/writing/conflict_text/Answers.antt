use Rattle.std.proofs.Common.{sym, subst}
use Rattle.zi_universe.specs.Whole.{BeginsWith}
use Rattle.zi_build.specs.Answers.{IsBuilt}
use Rattle.zi_certificate.specs.Certificates.{Refutes}
use Rattle.zi_conflict.proofs.ConflictLaws.{text_is}
use Rattle.zi_conflict.proofs.writing.conflict_text.Goals as goal

pub conflict-requires-clause-rooted : goal.conflict-requires-clause-rooted
conflict-requires-clause-rooted c = subst (λ u. BeginsWith u c.args.req.now.interface) (sym c.in_ok-names.ensures) c.requires.rooted

pub conflict-requires-clause-built : goal.conflict-requires-clause-built
conflict-requires-clause-built c = subst (λ u. IsBuilt u c.args.req.now c.in_ok-f.f) (sym c.in_ok-names.ensures) c.in_ok-f.ensures

pub conflict-requires-clause-refutes : goal.conflict-requires-clause-refutes
conflict-requires-clause-refutes c = subst (λ u. Refutes u c.args.req.now c.args.p.now) (sym c.in_ok-names.ensures) c.requires.refutes

pub returns : goal.returns
returns c =
    text_is c.args.u.now c.in_ok-names.names c.args.req.now c.args.p.now c.in_ok-facts.facts c.as_slice.result.now c.in_ok-text.text c.in_ok-names.ensures c.as_slice.ensures c.in_ok-facts.ensures c.in_ok-text.ensures
