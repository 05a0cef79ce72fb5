use Rattle.std.proofs.Common.{◌≡◌, [], Some, None, sym, ◌∙◌, ap, option_copied}
use Rattle.zi_manifest.specs.Manifest.{leaf_bad, first_bad}
use Rattle.zi_session.proofs.BeginLemmas.{read_good}
use Rattle.zi_session.proofs.begin.manifest_of.Goals as goal

pub returns-in-Ok-clause-text : goal.returns-in-Ok-clause-text
returns-in-Ok-clause-text c =
    let none : leaf_bad [] c.args.tree.now ≡ None = sym c.bad_leaf.ensures ∙ ap option_copied c.in_default.is in
    (ap first_bad (sym (read_good c.args.tree.now none)) ∙ c.in-Ok.ensures.text.0, c.in-Ok.ensures.text.1)

pub returns-in-Err-BadName-clause-bad : goal.returns-in-Err-BadName-clause-bad
returns-in-Err-BadName-clause-bad c = λ p e.
    let none : leaf_bad [] c.args.tree.now ≡ None = sym c.bad_leaf.ensures ∙ ap option_copied c.in_default.is in
    let same : c.in-Err-BadName.path ≡ p = cc e in
    ap first_bad (sym (read_good c.args.tree.now none)) ∙ c.write.ensures.bad c.in-Err-BadName.path (cc (c.in-Err-BadName.is, c.in-Err-BadName.field-0-is)) ∙ ap Some same
