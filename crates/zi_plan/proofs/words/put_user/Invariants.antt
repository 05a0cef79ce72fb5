use Rattle.std.proofs.Common.{◌≡◌, ◌++◌, take}
use Rattle.zi_plan.proofs.words.put_user.Given as goal

abbrev pub invariant-loop-word : goal.invariant-loop-word
invariant-loop-word l = l.out ≡ l.initial.out ++ take l.word-index l.user
