use Rattle.std.proofs.Common.{subst, Err}
use Rattle.zi_store.specs.ManifestAnswers.{WritesWhole}
use Rattle.zi_store.proofs.ManifestLemmas.{ended}
use Rattle.zi_store.proofs.SomeTreeLemmas.{ended_some}
use Rattle.zi_store.proofs.manifests.manifest_of.Goals as goal

pub returns-in-Ok-clause-manifest : goal.returns-in-Ok-clause-manifest
returns-in-Ok-clause-manifest g c s keeps e = ended c.args.a c.args.top.now c.in-Ok.written c.read_of.result s.shelf c.read_of.ensures (c.in-Ok.ensures.manifest s keeps e)

pub returns-in-Err-Missing-clause-manifest : goal.returns-in-Err-Missing-clause-manifest
returns-in-Err-Missing-clause-manifest g c s keeps e = subst (λ x. WritesWhole c.args.a c.args.top.now (Err x) s.shelf) c.in-Err-Missing.field-0-is (c.in-Err-Missing.ensures.manifest s keeps e)

pub returns-in-Err-TooLarge-clause-manifest : goal.returns-in-Err-TooLarge-clause-manifest
returns-in-Err-TooLarge-clause-manifest g c s keeps e =
    let r = subst (λ x. WritesWhole c.args.a c.args.top.now (Err x) s.shelf) c.in-Err-TooLarge.field-0-is (c.in-Err-TooLarge.ensures.manifest s keeps e) in
    (r.0, r.1, r.2, c.most.ensures)

pub returns-in-Ok-clause-tree : goal.returns-in-Ok-clause-tree
returns-in-Ok-clause-tree g c = ended_some c.args.a c.in-Ok.written c.read_of.result c.read_of.ensures c.in-Ok.ensures.tree
