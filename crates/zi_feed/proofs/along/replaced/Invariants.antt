use Rattle.std.proofs.Common.{◌≡◌, ◌++◌, map, drop}
use Rattle.std.specs.List.{flat_map}
use Rattle.zi_feed.proofs.along.replaced.Given as goal

abbrev pub invariant-loop-piece : goal.invariant-loop-piece
invariant-loop-piece l = map (λ r. r.now) l.lent.items ++ flat_map (λ s. s.now) (drop l.piece-index l.piece-items) ≡ flat_map (λ s. s.now) l.piece-items
