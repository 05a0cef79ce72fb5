-- What was copied is a front of the variables.
use Rattle.std.proofs.Common.{◌≡◌, take}
use Rattle.zi_outside.proofs.vars.Vars.copy.Given as goal

abbrev pub invariant-loop-var : goal.invariant-loop-var
invariant-loop-var l = l.all.items ≡ take l.var-index l.var-items
