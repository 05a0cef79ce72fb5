use Rattle.std.proofs.Common.{take}
use Rattle.zi_packages.specs.Picks.{FindsRows}
use Rattle.zi_packages.proofs.by_package.by_package.Given as goal

abbrev pub invariant-loop-row : goal.invariant-loop-row
invariant-loop-row l = FindsRows (take l.row-index l.rows) l.found.entries
