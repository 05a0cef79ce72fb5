use Rattle.std.proofs.Common.{[], ◌∷◌, ap}
use Rattle.zi_words.proofs.options.command.Goals as goal
use Rattle.zi_words.proofs.TakenLemmas.{with_command}

pub returns : goal.returns
returns c = (c.in_ok-command.command.now ∷ [], c.in_ok-command.ensures.0, (c.in_ok-command.ensures.1, tt), ap (with_command c.args.asked.now) c.in_ok-command-2.ensures)
