use Rattle.std.proofs.Common.{refl, ◌∙◌, get_or}
use Rattle.zi_text.proofs.NumeralLaws.{none_fits, product_great, sum_great, read_all}
use Rattle.zi_text.proofs.numerals.number_on.Goals as goal

pub returns-in_err-checked_mul : goal.returns-in_err-checked_mul
returns-in_err-checked_mul c =
    c.from_residual.ensures
    ∙ none_fits c.args.text.now c.loop-digit.digit-index c.loop-digit.number (get_or c.args.text.now c.loop-digit.digit-index 0) c.loop-digit-test.true refl
    (product_great c.checked_mul.result c.loop-digit.number _ c.checked_mul.ensures c.in_err-checked_mul.was) c.loop-digit.invariant.0

pub returns-in_err-number : goal.returns-in_err-number
returns-in_err-number c =
    c.from_residual-in_err-number.ensures
    ∙ none_fits c.args.text.now c.loop-digit.digit-index c.loop-digit.number (get_or c.args.text.now c.loop-digit.digit-index 0) c.loop-digit-test.true refl
    (sum_great c.loop-digit.number (get_or c.args.text.now c.loop-digit.digit-index 0) c.in_ok-checked_mul.field-0 c.from.result c.in_ok-checked_mul.ensures.1 c.from.ensures c.in_err-number.ensures)
    c.loop-digit.invariant.0

pub returns : goal.returns
returns c = read_all c.args.text.now c.loop-digit.digit-index c.loop-digit.number c.loop-digit-test.false c.loop-digit.invariant.1 c.loop-digit.invariant.0
