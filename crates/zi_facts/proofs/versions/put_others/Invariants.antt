use Rattle.std.proofs.Common.{◌≡◌, ◌++◌, take, flat_map}
use Rattle.zi_facts.specs.Lines.{next_text}
use Rattle.zi_facts.proofs.versions.put_others.Given as goal

abbrev pub invariant-loop-n : goal.invariant-loop-n
invariant-loop-n l = l.out ≡ l.initial.out ++ flat_map (next_text l.all) (take l.n-index l.numbers)
