use Rattle.std.proofs.Common.{◌≡◌, take}
use Rattle.zi_universe.specs.Whole.{uris_of}
use Rattle.zi_choice.proofs.names.addresses_of.Given as goal

abbrev pub invariant-loop-x : goal.invariant-loop-x
invariant-loop-x l = l.names.keys ≡ uris_of (take l.x-index l.x-items)
