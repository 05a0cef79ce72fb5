use Rattle.std.proofs.Common.{subst}
use Rattle.zi_proof.specs.Known.{nothing}
use Rattle.zi_sat.specs.Trail.{lits_of, OpenAll}
use Rattle.zi_sat.specs.View.{Seen}
use Rattle.zi_solve.proofs.EndLaws.{needed, nothing_taken, few_constraints, ended}
use Rattle.zi_solve.proofs.seeking.by_walk.Goals as goal

pub run-requires-clause-needs : goal.run-requires-clause-needs
run-requires-clause-needs c =
    needed c.args.u.now c.args.req.now c.args.search.now.formula c.requires.formula c.in_ok-walk.walk c.in_ok-walk.ensures

pub run-requires-clause-taken : goal.run-requires-clause-taken
run-requires-clause-taken c =
    nothing_taken c.args.u.now c.args.req.now c.args.search.now.formula c.requires.formula c.in_ok-walk.walk c.in_ok-walk.ensures

pub run-requires-clause-few : goal.run-requires-clause-few
run-requires-clause-few c =
    few_constraints c.args.u.now c.args.req.now c.args.search.now.formula c.requires.formula c.args.limit c.requires.few c.requires.limit

pub returns-clause-end : goal.returns-clause-end
returns-clause-end c =
    ended c.args.u.now c.args.req.now c.args.search.now c.run.new.self c.in_ok-walk.walk c.args.limit c.in_ok-found.found c.requires.formula c.in_ok-walk.ensures c.run.ensures.log c.run.ensures.fresh c.run.ensures.lean c.run.ensures.moves
    (subst (λ (t : Seen). OpenAll nothing (lits_of t.entries)) c.trail.ensures.value c.are_new.ensures.undecided)
    c.in_ok-found.ensures.end
