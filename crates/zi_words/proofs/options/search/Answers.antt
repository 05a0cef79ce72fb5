use Rattle.std.proofs.Common.{[], ◌∷◌}
use Rattle.zi_words.proofs.options.search.Goals as goal
use Rattle.zi_words.specs.Forms.{budget_of}
use Rattle.zi_words.proofs.TakenLemmas.{is_there}

pub returns : goal.returns
returns c =
    let e = c.in_ok-budget.ensures in
    (e.0 ∷ [], e.1, (is_there (budget_of e.0) c.in_ok-budget.budget e.2, tt), cc)
