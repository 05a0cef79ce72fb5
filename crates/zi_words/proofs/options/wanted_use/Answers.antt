use Rattle.std.proofs.Common.{[], ◌∷◌, ap}
use Rattle.zi_words.proofs.options.wanted_use.Goals as goal
use Rattle.zi_words.proofs.TakenLemmas.{with_uses, pushed}

pub returns : goal.returns
returns c =
    let word = c.in_ok-wanted.wanted.now in
    let a = c.args.asked.now in (
      word ∷ [],
      c.in_ok-wanted.ensures.0,
      (c.in_ok-wanted.ensures.1, tt),
      ap (with_uses a) (pushed a.uses c.push.new.self c.in_ok-wanted-2.wanted word c.in_ok-push.ensures.ok c.in_ok-wanted-2.ensures),
    )
