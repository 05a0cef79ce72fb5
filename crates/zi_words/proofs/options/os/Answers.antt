use Rattle.std.proofs.Common.{[], ◌∷◌, ap}
use Rattle.zi_words.proofs.options.os.Goals as goal
use Rattle.zi_words.proofs.TakenLemmas.{with_os}

pub returns : goal.returns
returns c = (c.in_ok-os.os.now ∷ [], c.in_ok-os.ensures.0, (c.in_ok-os.ensures.1, tt), ap (with_os c.args.asked.now) c.in_ok-os-2.ensures)
