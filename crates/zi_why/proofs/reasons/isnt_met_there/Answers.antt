use Rattle.std.proofs.Common.{sym, ap, ◌∙◌, not}
use Rattle.zi_why.specs.Reasons.{isnt_met_by}
use Rattle.zi_why.proofs.reasons.isnt_met_there.Goals as goal

pub returns-in_default : goal.returns-in_default
returns-in_default c = c.is_essential.ensures ∙ ap (isnt_met_by c.args.dep.now) (sym c.in_default.ensures)

pub does_suit-requires : goal.does_suit-requires
does_suit-requires c = record { there = c.in-Some.ensures.0 }

pub returns : goal.returns
returns c = ap not c.does_suit.ensures ∙ ap (isnt_met_by c.args.dep.now) (sym c.in-Some.ensures.1)
