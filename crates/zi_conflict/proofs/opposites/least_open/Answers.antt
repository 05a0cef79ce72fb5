use Rattle.std.proofs.Common.{◌≡◌, ◌+◌, true, sym, arith}
use Rattle.zi_proof.specs.Known.{is_open}
use Rattle.zi_sat.specs.Trail.{known_from}
use Rattle.zi_sat.proofs.LeastLaws.{least_next}
use Rattle.zi_walk.proofs.OpenLaws.{open_none, none_least}
use Rattle.zi_conflict.proofs.opposites.least_open.Goals as goal

pub returns-then-is_none-clause-is : goal.returns-then-is_none-clause-is
returns-then-is_none-clause-is c =
    let o : is_open (known_from c.args.t.now.entries (c.loop-x.x + 1)) ≡ true = open_none (known_from c.args.t.now.entries (c.loop-x.x + 1)) _ c.value.result c.is_none.result c.value.ensures c.is_none.ensures c.if-is_none.true in
    least_next (known_from c.args.t.now.entries) c.loop-x.x c.args.t.now.variables (none_least (known_from c.args.t.now.entries) c.loop-x.x c.loop-x.invariant) o (grind arith)

pub returns-clause-is : goal.returns-clause-is
returns-clause-is c =
    let past = c.loop-x-test.false in
    let end = c.variables.ensures in
    sym (none_least (known_from c.args.t.now.entries) c.args.t.now.variables (λ x l m. c.loop-x.invariant x l (omega (arith, m, past, end))))
