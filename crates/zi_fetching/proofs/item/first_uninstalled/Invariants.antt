use Rattle.std.proofs.Common.{◌≡◌, drop}
use Rattle.zi_fetching.specs.Fetching.{first_uninstalled}
use Rattle.zi_fetching.proofs.item.first_uninstalled.Given as goal

abbrev pub invariant-loop-item : goal.invariant-loop-item
invariant-loop-item l =
    first_uninstalled (record { universe = l.names; picks = l.picks }) (drop l.item-index l.items) ≡ first_uninstalled (record { universe = l.names; picks = l.picks }) l.items
