use Rattle.std.proofs.Common.{◌≡◌, drop}
use Rattle.zi_policy.specs.Platform.{listed}
use Rattle.zi_policy.proofs.platform.is_among.Given as goal

abbrev pub invariant-loop-u : goal.invariant-loop-u
invariant-loop-u l = listed l.t (drop l.u-index l.ts) ≡ listed l.t l.ts
