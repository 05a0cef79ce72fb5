use Rattle.std.proofs.Common.{◌≡◌, map}
use Rattle.zi_choosing.specs.Wanted.{limit_of}
use Rattle.zi_choosing.proofs.wanted.limits.Given as goal

abbrev pub invariant-loop-wanted : goal.invariant-loop-wanted
invariant-loop-wanted l = l.limits ≡ map limit_of l.yielded
