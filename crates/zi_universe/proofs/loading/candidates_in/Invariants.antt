use Rattle.std.proofs.Common.{◌≡◌}
use Rattle.zi_universe.specs.Offering.{candidates_of}
use Rattle.zi_universe.proofs.loading.candidates_in.Given as goal

abbrev pub invariant-loop-one : goal.invariant-loop-one
invariant-loop-one l = l.candidates.items ≡ candidates_of l.yielded
