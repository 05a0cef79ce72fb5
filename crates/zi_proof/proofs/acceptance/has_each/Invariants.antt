use Rattle.std.proofs.Common.{◌≡◌, drop}
use Rattle.zi_formula.specs.Form.{has_all}
use Rattle.zi_proof.proofs.acceptance.has_each.Given as goal

abbrev pub invariant-loop-l : goal.invariant-loop-l
invariant-loop-l l =
    has_all l.lits (drop l.l-index l.wanted) ≡ has_all l.lits l.wanted
