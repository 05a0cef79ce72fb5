use Rattle.std.proofs.Common.{◌≡◌, ◌++◌, drop}
use Rattle.std.specs.List.{find, filter_map}
use Rattle.zi_parts.specs.Digests.{algorithms}
use Rattle.zi_sels.specs.Written.{is_by}
use Rattle.zi_sels.proofs.said.in_order_of_use.Given as goal

abbrev pub invariant-loop-algorithm : goal.invariant-loop-algorithm
invariant-loop-algorithm l =
    l.digests ++ filter_map (λ a. find (is_by a) l.all.items) (drop l.algorithm-index l.algorithm-items) ≡ filter_map (λ a. find (is_by a) l.all.items) algorithms
