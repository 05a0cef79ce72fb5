use Rattle.std.proofs.Common.{◌≡◌, ◌++◌, map, take}
use Rattle.std.specs.Prelude.{decimal}
use Rattle.zi_proof.specs.ProofText.{behind}
use Rattle.zi_proof.proofs.writer.put_items.Given as goal

abbrev pub invariant-loop-n : goal.invariant-loop-n
invariant-loop-n l = l.into.items ≡ l.initial.into.items ++ behind 32 (map decimal (take l.n-index l.items))
