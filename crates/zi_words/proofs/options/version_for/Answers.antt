use Rattle.std.proofs.Common.{[], ◌∷◌, Some, ap, ◌∙◌}
use Rattle.zi_words.proofs.options.version_for.Goals as goal
use Rattle.zi_version.specs.Range.{range_of}
use Rattle.zi_words.proofs.TakenLemmas.{range_is, limited, with_limits}

pub returns : goal.returns
returns c =
    let e = c.in_ok-range.ensures in
    let r = c.in_ok-range.range in
    let uri = c.in_ok-uri.uri.now in
    let a = c.args.asked.now in (
      uri ∷ e.0 ∷ [],
      c.in_ok-uri.ensures.0 ∙ ap (λ v. uri ∷ v) e.1,
      (c.in_ok-uri.ensures.1, (range_is e.0 r e.2, tt)),
      ap (with_limits a) (limited a.limits c.push.new.self (Some c.in_ok-uri-2.uri) (Some uri) r (range_of e.0) c.in_ok-push.ensures.ok (ap (λ v. Some v) c.in_ok-uri-2.ensures) e.2),
    )
