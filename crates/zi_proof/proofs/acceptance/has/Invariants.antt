use Rattle.std.proofs.Common.{◌≡◌, drop}
use Rattle.zi_formula.specs.Form.{has_lit}
use Rattle.zi_proof.proofs.acceptance.has.Given as goal

abbrev pub invariant-loop-m : goal.invariant-loop-m
invariant-loop-m l =
    has_lit (drop l.m-index l.lits) l.l ≡ has_lit l.lits l.l
