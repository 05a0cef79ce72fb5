use Rattle.std.proofs.Common.{◌≡◌, ◌≤◌, true, arith, sym, subst}
use Rattle.zi_proof.specs.Known.{is_open}
use Rattle.zi_sat.specs.Trail.{known_from}
use Rattle.zi_choice.specs.Vars.{Cand, candidates_of, var_number, var_count}
use Rattle.zi_build.proofs.Numbers.{number_low, number_high}
use Rattle.zi_walk.proofs.Passed.{candidate_below}
use Rattle.zi_walk.proofs.open.lit_at.Goals as goal

pub returns-clause-undecided : goal.returns-clause-undecided
returns-clause-undecided c =
    let k = candidate_below (candidates_of c.args.n.now c.args.p.now.interface) c.in_ok-c.c c.in_ok-c.ensures.there in
    let high : var_number c.args.n.now (Cand c.args.p.now.interface c.in_ok-c.c) ≤ var_count c.args.n.now = number_high c.args.n.now (Cand c.args.p.now.interface c.in_ok-c.c) k in
    let room = c.requires.room in
    subst (λ x. (1 ≤ x) × (x ≤ c.args.t.now.variables) × (is_open (known_from c.args.t.now.entries x) ≡ true)) (sym c.number-variable.ensures)
    (number_low c.args.n.now (Cand c.args.p.now.interface c.in_ok-c.c), omega (arith, high, room), c.in_ok-c.ensures.undecided)
