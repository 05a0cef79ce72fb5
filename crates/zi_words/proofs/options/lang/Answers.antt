use Rattle.std.proofs.Common.{[], ◌∷◌, ap}
use Rattle.zi_words.proofs.options.lang.Goals as goal
use Rattle.zi_words.proofs.TakenLemmas.{with_langs, pushed}

pub returns : goal.returns
returns c =
    let word = c.in_ok-tag.tag.now in
    let a = c.args.asked.now in (
      word ∷ [],
      c.in_ok-tag.ensures.0,
      (c.in_ok-tag.ensures.1, tt),
      ap (with_langs a) (pushed a.langs c.push.new.self c.in_ok-tag-2.tag word c.in_ok-push.ensures.ok c.in_ok-tag-2.ensures),
    )
