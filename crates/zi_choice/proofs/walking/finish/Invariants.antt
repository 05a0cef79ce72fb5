use Rattle.std.proofs.Common.{◌≡◌, ◌+◌, cond, false, []}
use Rattle.zi_choice.specs.Tasks.{Moves, left_of}
use Rattle.zi_choice.proofs.walking.finish.Given as goal

abbrev pub invariant-loop-more : goal.invariant-loop-more
invariant-loop-more l = record {
  moves : Moves l.on l.initial.tasks.items l.initial.way l.tasks.items l.way;
  done : l.more ≡ false → l.tasks.items ≡ [];
}

abbrev pub decreases-loop-more : goal.decreases-loop-more
decreases-loop-more l = left_of l.on l.way + cond l.more 1 0
