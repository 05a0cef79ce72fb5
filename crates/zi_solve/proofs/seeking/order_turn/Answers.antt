use Rattle.std.proofs.Common.{◌≡◌, ◌≤◌, ◌∙◌, length, sym, subst, arith}
use Rattle.zi_proof.specs.declared.proof.Proof.{Proof}
use Rattle.zi_solve.proofs.EndLaws.{goes_on, has_refuted, has_spent, room_in}
use Rattle.zi_solve.proofs.seeking.order_turn.Goals as goal

pub limit_of-limit-requires : goal.limit_of-limit-requires
limit_of-limit-requires c = subst (λ (p : Proof). length p.lemmas ≤ c.args.budget) (sym c.log.ensures) c.requires.between.bound

pub by_order-requires-clause-bound : goal.by_order-requires-clause-bound
by_order-requires-clause-bound c = subst (λ (p : Proof). length p.lemmas ≤ c.limit_of-limit.result) c.log.ensures c.limit_of-limit.ensures.low

pub by_order-requires-clause-limit : goal.by_order-requires-clause-limit
by_order-requires-clause-limit c = omega (arith, c.limit_of-limit.ensures.high, c.requires.budget)

pub walk_of-requires : goal.walk_of-requires
walk_of-requires c =
    room_in c.args.over.now.universe.now c.args.over.now.numbering.now c.args.over.now.requirement.now c.by_order.new.search c.trail.result.now c.requires.numbered (c.by_order.ensures.formula ∙ c.requires.between.formula) c.trail.ensures.variables

pub returns-in-Refuted-clause-turn : goal.returns-in-Refuted-clause-turn
returns-in-Refuted-clause-turn c =
    has_refuted c.args.over.now.universe.now c.args.over.now.requirement.now c.by_order.new.search c.limit_of-limit.result c.args.budget c.in_ok-found.found c.in-Refuted.is c.in_ok-found.ensures.end

pub returns-in-Model-clause-turn : goal.returns-in-Model-clause-turn
returns-in-Model-clause-turn c =
    goes_on c.args.over.now.universe.now c.args.over.now.requirement.now c.args.search.now c.by_order.new.search c.limit_of-limit.result c.args.budget c.requires.between c.by_order.ensures.formula c.limit_of-limit.ensures.high (rw c.in-Model.is at c.in_ok-found.ensures.goes_on)

pub returns-then-limit-budget-clause-turn : goal.returns-then-limit-budget-clause-turn
returns-then-limit-budget-clause-turn c =
    goes_on c.args.over.now.universe.now c.args.over.now.requirement.now c.args.search.now c.by_order.new.search c.limit_of-limit.result c.args.budget c.requires.between c.by_order.ensures.formula c.limit_of-limit.ensures.high (rw c.in-Spent.is at c.in_ok-found.ensures.goes_on)

pub returns-clause-turn : goal.returns-clause-turn
returns-clause-turn c =
    let same : c.limit_of-limit.result ≡ c.args.budget = omega (arith, c.limit_of-limit.ensures.high, c.if-limit-budget.false) in
    has_spent c.args.over.now.universe.now c.args.over.now.requirement.now c.by_order.new.search c.limit_of-limit.result c.args.budget _ c.in_ok-found.found c.in-Spent.is same c.requires.between.not_first c.in_ok-found.ensures.end
