use Rattle.std.proofs.Common.{◌≡◌, map, take}
use Rattle.zi_plan.specs.Launches.{shimmed}
use Rattle.zi_plan.specs.Shims.{empty_texts}
use Rattle.zi_plan.specs.Steps.{bound_seen}
use Rattle.zi_plan.proofs.applying.empty_texts.Given as goal

abbrev pub invariant-loop-bound : goal.invariant-loop-bound
invariant-loop-bound l = l.texts ≡ empty_texts (shimmed (map bound_seen (take l.bound-index l.bounds)))
