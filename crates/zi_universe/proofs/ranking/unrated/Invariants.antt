use Rattle.std.proofs.Common.{◌≡◌, map}
use Rattle.zi_universe.proofs.ranking.unrated.Given as goal

abbrev pub invariant-loop-candidate : goal.invariant-loop-candidate
invariant-loop-candidate l = l.offered.items ≡ map (λ r. r.one) l.yielded
