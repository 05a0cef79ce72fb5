use Rattle.std.proofs.Common.{◌≡◌, ◌+◌, take}
use Rattle.zi_tree.specs.Limits.{size_limit}
use Rattle.zi_recipe.specs.Limits.{said_size}
use Rattle.zi_recipe.proofs.limits.says_too_much.Given as goal

abbrev pub invariant-loop-step : goal.invariant-loop-step
invariant-loop-step l = l.left + said_size (take l.step-index l.steps) ≡ size_limit
