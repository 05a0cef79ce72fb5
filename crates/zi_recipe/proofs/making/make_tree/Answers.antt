use Rattle.std.proofs.lemmas.Result.{err_from_is_err_and}
use Rattle.zi_recipe.specs.Limits.{said_size}
use Rattle.zi_recipe.proofs.MakingLemmas.{small, says_too_much, stops_making, makes_too_much, makes}
use Rattle.zi_recipe.proofs.MadeLemmas.{tree_is_made, fault_is_first}
use Rattle.zi_recipe.proofs.making.make_tree.Goals as goal

pub returns-then-says_too_much-clause-refuses : goal.returns-then-says_too_much-clause-refuses
returns-then-says_too_much-clause-refuses g c =
    says_too_much c.args.m.now c.as_slice-steps.result.now c.says_too_much.result c.too_large.result (g.W.Web.seen c.args.web.now)
    c.as_slice-steps.ensures c.says_too_much.ensures c.if-says_too_much.true c.too_large.ensures

pub do_steps-requires : goal.do_steps-requires
do_steps-requires g c = small (said_size c.as_slice-steps.result.now) c.says_too_much.result c.says_too_much.ensures c.if-says_too_much.false

pub returns-in_err-tree-clause-refuses : goal.returns-in_err-tree-clause-refuses
returns-in_err-tree-clause-refuses g c =
    let q = err_from_is_err_and c.from_residual.result c.from_residual.ensures.1 in
    rw (q.1, q.2)
    (stops_making c.args.m.now c.as_slice-steps.result.now c.says_too_much.result (g.W.Web.seen c.args.web.now) (g.W.Web.seen c.do_steps.new.web)
    c.as_slice-steps.ensures c.says_too_much.ensures c.if-says_too_much.false c.in_err-tree.field-0.0 c.in_err-tree.ensures.does)

pub returns-in_err-check_counts-clause-refuses : goal.returns-in_err-check_counts-clause-refuses
returns-in_err-check_counts-clause-refuses g c =
    let q = err_from_is_err_and c.from_residual-in_err-check_counts.result c.from_residual-in_err-check_counts.ensures.1 in
    rw (q.1, q.2)
    (makes_too_much c.args.m.now c.as_slice-steps.result.now c.says_too_much.result (g.W.Web.seen c.args.web.now) (g.W.Web.seen c.do_steps.new.web)
    c.as_slice-steps.ensures c.says_too_much.ensures c.if-says_too_much.false c.in_ok-tree.tree c.in_err-check_counts.field-0.0
    c.in_ok-tree.ensures.does c.in_ok-tree.ensures.asks c.in_err-check_counts.ensures)

pub returns-clause-makes : goal.returns-clause-makes
returns-clause-makes g c =
    makes c.args.m.now c.as_slice-steps.result.now c.says_too_much.result (g.W.Web.seen c.args.web.now) (g.W.Web.seen c.do_steps.new.web)
    c.as_slice-steps.ensures c.says_too_much.ensures c.if-says_too_much.false c.in_ok-tree.tree c.in_ok-tree.ensures.does c.in_ok-tree.ensures.asks c.in_ok-check_counts.ensures

-- the same, where the web tells what it holds
pub returns-then-says_too_much-clause-made : goal.returns-then-says_too_much-clause-made
returns-then-says_too_much-clause-made g c =
    fault_is_first c.args.m.now (g.W.Web.seen c.args.web.now) (g.W.Web.seen c.args.web.now) c.too_large.result
    (says_too_much c.args.m.now c.as_slice-steps.result.now c.says_too_much.result c.too_large.result (g.W.Web.seen c.args.web.now)
    c.as_slice-steps.ensures c.says_too_much.ensures c.if-says_too_much.true c.too_large.ensures)

pub returns-in_err-tree-clause-made : goal.returns-in_err-tree-clause-made
returns-in_err-tree-clause-made g c =
    let old = g.W.Web.seen c.args.web.now in
    let new = g.W.Web.seen c.do_steps.new.web in
    let q = err_from_is_err_and c.from_residual.result c.from_residual.ensures.1 in
    rw (q.1, q.2)
    (fault_is_first c.args.m.now old new c.in_err-tree.field-0.0
    (stops_making c.args.m.now c.as_slice-steps.result.now c.says_too_much.result old new
    c.as_slice-steps.ensures c.says_too_much.ensures c.if-says_too_much.false c.in_err-tree.field-0.0 c.in_err-tree.ensures.does))

pub returns-in_err-check_counts-clause-made : goal.returns-in_err-check_counts-clause-made
returns-in_err-check_counts-clause-made g c =
    let old = g.W.Web.seen c.args.web.now in
    let new = g.W.Web.seen c.do_steps.new.web in
    let q = err_from_is_err_and c.from_residual-in_err-check_counts.result c.from_residual-in_err-check_counts.ensures.1 in
    rw (q.1, q.2)
    (fault_is_first c.args.m.now old new c.in_err-check_counts.field-0.0
    (makes_too_much c.args.m.now c.as_slice-steps.result.now c.says_too_much.result old new
    c.as_slice-steps.ensures c.says_too_much.ensures c.if-says_too_much.false c.in_ok-tree.tree c.in_err-check_counts.field-0.0
    c.in_ok-tree.ensures.does c.in_ok-tree.ensures.asks c.in_err-check_counts.ensures))

pub returns-clause-made : goal.returns-clause-made
returns-clause-made g c =
    let old = g.W.Web.seen c.args.web.now in
    let new = g.W.Web.seen c.do_steps.new.web in
    tree_is_made c.args.m.now old new c.in_ok-tree.tree
    (makes c.args.m.now c.as_slice-steps.result.now c.says_too_much.result old new
    c.as_slice-steps.ensures c.says_too_much.ensures c.if-says_too_much.false c.in_ok-tree.tree c.in_ok-tree.ensures.does c.in_ok-tree.ensures.asks c.in_ok-check_counts.ensures)
