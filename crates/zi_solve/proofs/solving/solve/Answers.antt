use Rattle.zi_solve.proofs.EndLaws.{found_in}
use Rattle.zi_solve.proofs.solving.solve.Goals as goal

pub chosen_of-requires-clause-found : goal.chosen_of-requires-clause-found
chosen_of-requires-clause-found c =
    found_in c.args.u.now c.args.req.now c.seek.new.search c.log.result.now c.trail.result.now c.args.budget c.in_ok-found.found c.log.ensures c.trail.ensures.value c.in-Model.is c.in_ok-found.ensures.end
