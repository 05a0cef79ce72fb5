use Rattle.zi_check.proofs.ValidLaws.{right_root, right_met, right_narrow, right_wide}
use Rattle.zi_check.proofs.validity.is_right.Goals as goal

pub returns-then-not-is_root_right : goal.returns-then-not-is_root_right
returns-then-not-is_root_right c = right_root c.args.on.now c.args.req.now c.args.interfaces c.is_root_right.result c.is_root_right.ensures c.if-not-is_root_right.true

pub returns-then-not-are_candidates_met : goal.returns-then-not-are_candidates_met
returns-then-not-are_candidates_met c = right_met c.args.on.now c.args.req.now c.args.interfaces c.are_candidates_met.result c.are_candidates_met.ensures c.if-not-are_candidates_met.true

pub returns-then-not-some_are : goal.returns-then-not-some_are
returns-then-not-some_are c =
    right_narrow c.args.on.now c.args.req.now c.args.interfaces c.is_root_right.result c.are_candidates_met.result c.some_are.result c.is_root_right.ensures c.if-not-is_root_right.false c.are_candidates_met.ensures c.if-not-are_candidates_met.false c.some_are.ensures c.if-not-some_are.true

pub returns : goal.returns
returns c =
    right_wide c.args.on.now c.args.req.now c.args.interfaces c.is_root_right.result c.are_candidates_met.result c.some_are.result c.some_are-2.result c.is_root_right.ensures c.if-not-is_root_right.false c.are_candidates_met.ensures c.if-not-are_candidates_met.false c.some_are.ensures c.if-not-some_are.false c.some_are-2.ensures
