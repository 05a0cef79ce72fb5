use Rattle.std.proofs.Common.{[], ◌∷◌, ap}
use Rattle.zi_words.proofs.options.cpu.Goals as goal
use Rattle.zi_words.proofs.TakenLemmas.{with_cpu}

pub returns : goal.returns
returns c = (c.in_ok-cpu.cpu.now ∷ [], c.in_ok-cpu.ensures.0, (c.in_ok-cpu.ensures.1, tt), ap (with_cpu c.args.asked.now) c.in_ok-cpu-2.ensures)
