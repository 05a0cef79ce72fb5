use Rattle.std.proofs.Common.{◌≡◌, drop}
use Rattle.zi_proof.specs.Accepted.{lits_within}
use Rattle.zi_proof.proofs.acceptance.are_within.Given as goal

abbrev pub invariant-loop-l : goal.invariant-loop-l
invariant-loop-l l =
    lits_within l.variables (drop l.l-index l.lits) ≡ lits_within l.variables l.lits
