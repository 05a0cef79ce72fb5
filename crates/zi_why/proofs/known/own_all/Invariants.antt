use Rattle.std.proofs.Common.{◌≡◌, ◌++◌, List, length, map, take}
use Rattle.zi_why.specs.Reasons.{Owned, owned_by}
use Rattle.zi_why.specs.Known.{RowsAre}
use Rattle.zi_why.proofs.known.own_all.Given as goal

abbrev pub invariant-loop-n : goal.invariant-loop-n
invariant-loop-n l = record {
  len : length l.rows.items ≡ length l.initial.rows.items;
  rows : (os : List Owned) → RowsAre l.names l.initial.rows.items os → RowsAre l.names l.rows.items (os ++ map (owned_by l.owner) (take l.n l.deps));
}
