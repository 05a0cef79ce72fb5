use Rattle.std.proofs.Common.{sym, ap, ◌∙◌}
use Rattle.zi_words.specs.Forms.{demo_number}
use Rattle.zi_words.proofs.DemoLemmas.{demo_none, demo_wrong, demo_ended}
use Rattle.zi_words.proofs.demo.demo.Goals as goal

pub returns-in_default : goal.returns-in_default
returns-in_default c = demo_none c.args.words.now c.in_default.ensures.cases

pub returns-in_default-demo_number : goal.returns-in_default-demo_number
returns-in_default-demo_number c =
    demo_wrong c.args.words.now c.in-Some.behind.now c.in-Some.word.now c.in-Some.ensures.cases.0 (ap demo_number (sym c.as_str.ensures) ∙ sym c.in_default-demo_number.ensures)

pub returns : goal.returns
returns c =
    demo_ended c.args.words.now c.in-Some.behind.now c.in-Some.word.now c.in-Some-demo_number.n c.ended.result c.in-Some.ensures.cases.0
    (ap demo_number (sym c.as_str.ensures) ∙ sym c.in-Some-demo_number.ensures) c.ended.ensures
