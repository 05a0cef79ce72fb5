use Rattle.std.proofs.Common.{[], ◌∷◌}
use Rattle.zi_words.proofs.options.network.Goals as goal
use Rattle.zi_words.specs.Forms.{network_of}
use Rattle.zi_words.proofs.TakenLemmas.{is_there}

pub returns : goal.returns
returns c =
    let e = c.in_ok-network.ensures in
    (e.0 ∷ [], e.1, (is_there (network_of e.0) c.in_ok-network.network e.2, tt), cc)
