use Rattle.std.proofs.Common.{◌≡◌, take}
use Rattle.zi_reading.specs.Views.{views}
use Rattle.zi_sels.specs.Refused.{clear_among}
use Rattle.zi_sels.proofs.own.clear_commands.Given as goal

abbrev pub invariant-loop-e : goal.invariant-loop-e
invariant-loop-e l = views l.found.items ≡ clear_among (views (take l.e-index l.parts))
