use Rattle.std.proofs.Common.{◌≡◌, map, take}
use Rattle.zi_choosing.specs.Named.{named_by}
use Rattle.zi_choosing.proofs.named.choice_of.Given as goal

abbrev pub invariant-loop-interface : goal.invariant-loop-interface
invariant-loop-interface l = l.picks ≡ map (named_by l.items) (take l.interface-index l.interface-items)
