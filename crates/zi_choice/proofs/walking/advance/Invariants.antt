use Rattle.zi_choice.specs.Tasks.{Moves, IsSame, sizes}
use Rattle.zi_choice.proofs.walking.advance.Given as goal

abbrev pub invariant-loop-task : goal.invariant-loop-task
invariant-loop-task l = record {
  moves : Moves l.on l.initial.tasks.items l.initial.way l.tasks.items l.way;
  same : IsSame l.initial.way l.way;
}

abbrev pub decreases-loop-task : goal.decreases-loop-task
decreases-loop-task l = sizes l.tasks.items
