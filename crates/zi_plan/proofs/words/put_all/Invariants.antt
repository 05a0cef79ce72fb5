use Rattle.std.proofs.Common.{◌≡◌, ◌++◌}
use Rattle.zi_plan.proofs.words.put_all.Given as goal

abbrev pub invariant-loop-text : goal.invariant-loop-text
invariant-loop-text l = l.out ≡ l.initial.out ++ l.yielded
