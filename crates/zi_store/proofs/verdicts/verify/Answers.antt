use Rattle.std.proofs.Common.{◌≡◌, ◌∙◌, ap, subst}
use Rattle.zi_digest.specs.Name.{algorithm_of, name_of}
use Rattle.zi_store.specs.Verdicts.{Compares}
use Rattle.zi_store.proofs.VerdictLemmas.{as_named, verified}
use Rattle.zi_store.proofs.verdicts.verify.Goals as goal

pub returns-in-Missing-clause-verdict : goal.returns-in-Missing-clause-verdict
returns-in-Missing-clause-verdict g c s honest tells =
    as_named c.args.name.now c.algorithm.result c.as_str.result.now _ _ s.shelf (c.as_str.ensures ∙ c.in_ok-spelled.ensures) c.algorithm.ensures c.in-Missing.is (c.in_ok-manifest_of.ensures.manifest s honest tells)

pub returns-in-TooLarge-clause-verdict : goal.returns-in-TooLarge-clause-verdict
returns-in-TooLarge-clause-verdict g c s honest tells =
    as_named c.args.name.now c.algorithm.result c.as_str.result.now _ _ s.shelf (c.as_str.ensures ∙ c.in_ok-spelled.ensures) c.algorithm.ensures c.in-TooLarge.is (c.in_ok-manifest_of.ensures.manifest s honest tells)

pub returns-in-BadName-clause-verdict : goal.returns-in-BadName-clause-verdict
returns-in-BadName-clause-verdict g c s honest tells =
    as_named c.args.name.now c.algorithm.result c.as_str.result.now _ _ s.shelf (c.as_str.ensures ∙ c.in_ok-spelled.ensures) c.algorithm.ensures c.in-BadName.is (c.in_ok-manifest_of.ensures.manifest s honest tells)

pub returns-clause-verdict : goal.returns-clause-verdict
returns-clause-verdict g c s honest tells =
    let r = as_named c.args.name.now c.algorithm.result c.as_str.result.now _ _ s.shelf (c.as_str.ensures ∙ c.in_ok-spelled.ensures) c.algorithm.ensures c.in-Read.is (c.in_ok-manifest_of.ensures.manifest s honest tells) in
    verified c.args.name.now c.in-Read.text c.judge.result s.shelf r (subst (λ t. Compares c.args.name.now (name_of (algorithm_of c.args.name.now) t) c.judge.result) c.as_slice.ensures c.judge.ensures)
