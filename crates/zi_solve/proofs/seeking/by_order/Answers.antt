use Rattle.zi_solve.proofs.EndLaws.{few_constraints, come}
use Rattle.zi_solve.proofs.seeking.by_order.Goals as goal

pub run-requires-clause-few : goal.run-requires-clause-few
run-requires-clause-few c =
    few_constraints c.args.over.now.universe.now c.args.over.now.requirement.now c.args.search.now.formula c.requires.formula c.args.limit c.requires.few c.requires.limit

pub returns-clause-end : goal.returns-clause-end
returns-clause-end c =
    come c.args.over.now.universe.now c.args.over.now.requirement.now c.args.search.now c.run.new.self c.args.limit c.in_ok-found.found c.requires.formula c.run.ensures.log c.run.ensures.fresh c.run.ensures.lean c.in_ok-found.ensures.end
