use Rattle.std.proofs.Common.{[], ◌∷◌}
use Rattle.zi_words.proofs.options.level.Goals as goal
use Rattle.zi_words.specs.Forms.{level_of}
use Rattle.zi_words.proofs.TakenLemmas.{is_there}

pub returns : goal.returns
returns c =
    let e = c.in_ok-level.ensures in
    (e.0 ∷ [], e.1, (is_there (level_of e.0) c.in_ok-level.level e.2, tt), cc)
