use Rattle.std.proofs.Common.{◌≡◌, subst, arith}
use Rattle.zi_solve.specs.Answers.{HasEnded}
use Rattle.zi_solve.proofs.EndLaws.{begun, is_model, is_refuted}
use Rattle.zi_solve.proofs.seeking.walk_turn.Goals as goal

pub returns-in-Model-clause-turn : goal.returns-in-Model-clause-turn
returns-in-Model-clause-turn c =
    is_model c.args.u.now c.args.req.now c.by_walk.new.search c.args.limit c.args.budget c.in_ok-found.found c.in-Model.is c.in_ok-found.ensures.end

pub returns-in-Refuted-clause-turn : goal.returns-in-Refuted-clause-turn
returns-in-Refuted-clause-turn c =
    is_refuted c.args.u.now c.args.req.now c.by_walk.new.search c.args.limit c.args.budget c.in_ok-found.found c.in-Refuted.is c.in_ok-found.ensures.end

pub returns-then-limit-budget-clause-turn : goal.returns-then-limit-budget-clause-turn
returns-then-limit-budget-clause-turn c =
    begun c.args.u.now c.args.req.now c.args.search.now c.by_walk.new.search c.args.limit c.args.budget _ c.in_ok-found.found c.in-Spent.is c.requires.formula c.by_walk.ensures.formula c.requires.limit c.in_ok-found.ensures.goes_on c.in_ok-found.ensures.end

pub returns-else-limit-budget-clause-turn : goal.returns-else-limit-budget-clause-turn
returns-else-limit-budget-clause-turn c =
    let same : c.args.limit ≡ c.args.budget = omega (arith, c.requires.limit, c.if-limit-budget.false) in
    subst (λ b. HasEnded c.args.u.now c.args.req.now b c.by_walk.new.search c.in_ok-found.found) same c.in_ok-found.ensures.end
