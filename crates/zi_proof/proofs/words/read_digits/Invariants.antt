use Rattle.std.proofs.Common.{◌≡◌, ◌<◌, ◌^◌, drop}
use Rattle.zi_proof.specs.Reading.{digits_on}
use Rattle.zi_proof.proofs.words.read_digits.Given as goal

abbrev pub invariant-loop-b : goal.invariant-loop-b
invariant-loop-b l = (digits_on l.n (drop l.b-index l.digits) ≡ digits_on 0 l.digits) × (l.n < 2 ^ 32)
