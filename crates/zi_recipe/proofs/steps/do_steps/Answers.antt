use Rattle.std.proofs.Common.{Option, take, ap, subst, arith}
use Rattle.std.proofs.lemmas.Result.{err_from_is_err_and}
use Rattle.std.proofs.lemmas.List.Sums.{get_or-le-sum_by}
use Rattle.zi_outside.specs.Views.{Holding, holding}
use Rattle.zi_outside.proofs.AskingLemmas.{holding_asked}
use Rattle.zi_recipe.specs.Limits.{said_by}
use Rattle.zi_recipe.specs.Steps.{Does}
use Rattle.zi_recipe.specs.Asking.{addresses}
use Rattle.zi_recipe.proofs.AskedLemmas.{asked_none, asked_next}
use Rattle.zi_recipe.proofs.StepLemmas.{done_next, stops}
use Rattle.zi_recipe.proofs.steps.do_steps.Goals as goal

pub loop-step-init : goal.loop-step-init
loop-step-init g c = record { done = c.new-tree.ensures; asked = asked_none (g.W.Web.seen c.args.web.now) }

pub do_step-requires : goal.do_step-requires
do_step-requires g c =
    omega (arith, get_or-le-sum_by said_by c.args.steps.now c.loop-step.step-index c.step-item.result c.loop-step-test.true, ap said_by c.step-item.is)

pub loop-step-preserved : goal.loop-step-preserved
loop-step-preserved g c =
    let ss = c.args.steps.now in
    let i = c.loop-step.step-index in
    let s = c.step-item.result in
    let old = g.W.Web.seen c.args.web.now in
    let mid = g.W.Web.seen c.loop-step.web in
    let new = g.W.Web.seen c.do_step.new.web in
    let same = holding_asked (addresses (take i ss)) old mid c.loop-step.invariant.asked.asks in
    record {
      done = done_next (holding old) ss i s c.loop-step.tree c.do_step.new.tree c.loop-step-test.true c.step-item.is c.loop-step.invariant.done
          (subst (λ (told : Option Holding). Does told c.loop-step.tree s c.do_step.new.tree) same c.in_ok-do_step.ensures.does);
      asked = asked_next ss i s old mid new c.loop-step-test.true c.step-item.is c.loop-step.invariant.asked c.in_ok-do_step.ensures.asks;
    }

pub returns-in_err-do_step-clause-does : goal.returns-in_err-do_step-clause-does
returns-in_err-do_step-clause-does g c =
    let old = g.W.Web.seen c.args.web.now in
    let mid = g.W.Web.seen c.loop-step.web in
    let new = g.W.Web.seen c.do_step.new.web in
    let q = err_from_is_err_and c.from_residual.result c.from_residual.ensures.1 in
    rw (q.1, q.2)
    (stops c.args.steps.now c.loop-step.step-index c.step-item.result c.loop-step.tree old mid new c.in_err-do_step.field-0.0 c.loop-step-test.true c.step-item.is
    c.loop-step.invariant.done c.loop-step.invariant.asked c.in_err-do_step.ensures.does c.in_err-do_step.ensures.asks)
