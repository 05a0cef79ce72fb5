use Rattle.std.proofs.Common.{◌≡◌, take}
use Rattle.zi_choosing.specs.Knowing.{all_names}
use Rattle.zi_choosing.proofs.known.all_names.Given as goal

abbrev pub invariant-loop-digests : goal.invariant-loop-digests
invariant-loop-digests l = l.names ≡ all_names (take l.digests-index l.each)
