use Rattle.std.proofs.Common.{◌<◌, ◌^◌}
use Rattle.zi_text.proofs.NumeralLaws.{ReadTo}
use Rattle.zi_text.proofs.numerals.number_on.Given as goal

abbrev pub invariant-loop-digit : goal.invariant-loop-digit
invariant-loop-digit l = ReadTo l.text l.digit-index l.number × (l.number < 2 ^ 64)
