use Rattle.std.proofs.Common.{[], ◌∷◌, None, ap, refl}
use Rattle.zi_words.proofs.options.version.Goals as goal
use Rattle.zi_version.specs.Range.{range_of}
use Rattle.zi_words.proofs.TakenLemmas.{range_is, limited, with_version}

pub returns : goal.returns
returns c =
    let e = c.in_ok-range.ensures in
    let r = c.in_ok-range.range in
    let a = c.args.asked.now in (
      e.0 ∷ [],
      e.1,
      (range_is e.0 r e.2, tt),
      ap (with_version a) (limited a.limits c.push.new.self None None r (range_of e.0) c.in_ok-push.ensures.ok refl e.2),
    )
