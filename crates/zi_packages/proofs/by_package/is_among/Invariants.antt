use Rattle.std.proofs.Common.{◌≡◌, drop}
use Rattle.zi_packages.specs.Table.{is_listed}
use Rattle.zi_packages.proofs.by_package.is_among.Given as goal

abbrev pub invariant-loop-name : goal.invariant-loop-name
invariant-loop-name l = is_listed l.distribution (drop l.name-index l.names) ≡ is_listed l.distribution l.names
