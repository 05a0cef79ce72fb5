use Rattle.std.proofs.Common.{◌≡◌, ◌≤◌, arith}
use Rattle.zi_choice.specs.Vars.{Cand, candidates_of, var_number, var_count}
use Rattle.zi_build.proofs.Numbers.{number_high}
use Rattle.zi_walk.proofs.Passed.{candidate_below}
use Rattle.zi_walk.proofs.open.known_of.Goals as goal

pub value-requires-clause-high : goal.value-requires-clause-high
value-requires-clause-high c =
    let k = candidate_below (candidates_of c.args.n.now c.args.i) c.args.c c.requires.there in
    let high : var_number c.args.n.now (Cand c.args.i c.args.c) ≤ var_count c.args.n.now = number_high c.args.n.now (Cand c.args.i c.args.c) k in
    let e : c.number-variable.result ≡ var_number c.args.n.now (Cand c.args.i c.args.c) = c.number-variable.ensures in
    let room = c.requires.room in
    omega (arith, high, e, room)
