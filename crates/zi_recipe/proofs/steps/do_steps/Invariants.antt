use Rattle.std.proofs.Common.{take}
use Rattle.zi_outside.specs.Views.{holding}
use Rattle.zi_tree.specs.Dir.{Nothing}
use Rattle.zi_recipe.specs.Steps.{DoesAll}
use Rattle.zi_recipe.specs.Asking.{addresses, AreAsked}
use Rattle.zi_recipe.proofs.steps.do_steps.Given as goal

abbrev pub invariant-loop-step : goal.invariant-loop-step
invariant-loop-step g l = record {
  done : DoesAll (holding (g.W.Web.seen l.initial.web)) Nothing (take l.step-index l.steps) l.tree;
  asked : AreAsked (addresses (take l.step-index l.steps)) (g.W.Web.seen l.initial.web) (g.W.Web.seen l.web);
}
