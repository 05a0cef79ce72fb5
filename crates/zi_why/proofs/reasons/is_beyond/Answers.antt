use Rattle.std.proofs.Common.{sym, ◌∙◌}
use Rattle.zi_why.specs.Known.{universe_of}
use Rattle.zi_why.proofs.SuitLaws.{beyond_no, beyond_nowhere, beyond_there}
use Rattle.zi_why.proofs.reasons.is_beyond.Goals as goal

pub returns-then-not-is_essential : goal.returns-then-not-is_essential
returns-then-not-is_essential c = beyond_no (universe_of c.args.on.now) c.args.dep.now c.is_essential.result c.is_essential.ensures c.if-not-is_essential.true

pub returns-in_default : goal.returns-in_default
returns-in_default c = beyond_nowhere (universe_of c.args.on.now) c.args.dep.now c.is_essential.result c.is_essential.ensures c.if-not-is_essential.false (sym c.number.ensures.is ∙ c.in_default.is)

pub returns : goal.returns
returns c = beyond_there (universe_of c.args.on.now) c.args.dep.now c.is_essential.result c.in-Some.j c.some_suits.result c.is_essential.ensures c.if-not-is_essential.false (sym c.number.ensures.is ∙ c.in-Some.is) c.some_suits.ensures
