use Rattle.std.proofs.Common.{◌≡◌, ◌+◌, true, rules, arith}
use Rattle.zi_proof.specs.Known.{is_open}
use Rattle.zi_sat.specs.Trail.{known_from}
use Rattle.zi_sat.proofs.LeastLaws.{least_next}
use Rattle.zi_reach.proofs.rule.least_open.Goals as goal

pub returns-then-is_none-clause-is : goal.returns-then-is_none-clause-is
returns-then-is_none-clause-is c =
    let o : is_open (known_from c.args.t.now.entries (c.loop-x.x + 1)) ≡ true = search rules in
    least_next (known_from c.args.t.now.entries) c.loop-x.x c.args.t.now.variables c.loop-x.invariant.0 o (grind arith)
