use Rattle.std.proofs.Common.{◌≡◌, ◌++◌, take, flat_map}
use Rattle.zi_refused.specs.Words.{refusal_text}
use Rattle.zi_refused.proofs.writing.put_each.Given as goal

abbrev pub invariant-loop-one : goal.invariant-loop-one
invariant-loop-one l = l.out ≡ l.initial.out ++ flat_map (refusal_text l.interface) (take l.one-index l.refusals)
