use Rattle.std.proofs.Common.{◌≡◌, take, map, get_or}
use Rattle.zi_universe.specs.Offering.{least}
use Rattle.zi_universe.proofs.ranking.numbers_at.Given as goal

abbrev pub invariant-loop-place : goal.invariant-loop-place
invariant-loop-place l = l.found.items ≡ map (λ n. get_or l.numbers n least) (take l.place-index l.places)
