use Rattle.std.proofs.Common.{◌≡◌, false, drop}
use Rattle.zi_address.proofs.SettledLaws.{scan}
use Rattle.zi_address.proofs.address.is_settled.Given as goal

abbrev pub invariant-loop-b : goal.invariant-loop-b
invariant-loop-b l = scan false l.b-items ≡ scan l.is_behind (drop l.b-index l.b-items)
