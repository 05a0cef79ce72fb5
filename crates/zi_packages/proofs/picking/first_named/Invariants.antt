use Rattle.zi_packages.specs.Picks.{HasNamed}
use Rattle.zi_packages.proofs.picking.first_named.Given as goal

abbrev pub invariant-loop-at : goal.invariant-loop-at
invariant-loop-at l = HasNamed l.rows l.natives l.at l.seen.keys l.named.items
