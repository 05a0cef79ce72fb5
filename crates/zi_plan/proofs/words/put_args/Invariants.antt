use Rattle.zi_outside.specs.Vars.{value_of}
use Rattle.zi_bind.specs.Expansion.{expanded}
use Rattle.zi_bind.proofs.EachLaws.{IsEachSoFar}
use Rattle.zi_plan.proofs.words.put_args.Given as goal

abbrev pub invariant-loop-word : goal.invariant-loop-word
invariant-loop-word l = IsEachSoFar (expanded (value_of l.vars)) l.words l.word-index l.initial.out l.out
