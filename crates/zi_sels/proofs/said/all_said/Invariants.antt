use Rattle.std.proofs.Common.{◌≡◌, take}
use Rattle.std.specs.List.{flat_map}
use Rattle.zi_sels.proofs.said.all_said.Given as goal

abbrev pub invariant-loop-names : goal.invariant-loop-names
invariant-loop-names l = l.all.items ≡ flat_map (λ ds. ds) (take l.names-index l.said)
