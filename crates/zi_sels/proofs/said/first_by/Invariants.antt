use Rattle.std.proofs.Common.{◌≡◌, drop}
use Rattle.std.specs.List.{find}
use Rattle.zi_sels.specs.Written.{is_by}
use Rattle.zi_sels.proofs.said.first_by.Given as goal

abbrev pub invariant-loop-name : goal.invariant-loop-name
invariant-loop-name l = find (is_by l.algorithm) (drop l.name-index l.names) ≡ find (is_by l.algorithm) l.names
