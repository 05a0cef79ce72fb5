use Rattle.std.proofs.Common.{sym, ◌∙◌}
use Rattle.zi_why.specs.Known.{universe_of, picks_of, before}
use Rattle.zi_why.proofs.SuitLaws.{against_nowhere, against_itself, against_later, against_there}
use Rattle.zi_why.proofs.KnownLaws.{eq_so, eq_not}
use Rattle.zi_why.proofs.reasons.is_against.Goals as goal

pub returns-in_default : goal.returns-in_default
returns-in_default c =
    against_nowhere (universe_of c.args.on.now) (picks_of c.args.on.now) (before c.args.on.now c.args.at) c.args.p.now.interface c.args.p.now.is.now c.args.dep.now (sym c.number.ensures.is ∙ c.in_default.is)

pub returns-then-j-p : goal.returns-then-j-p
returns-then-j-p c =
    against_itself (universe_of c.args.on.now) (picks_of c.args.on.now) (before c.args.on.now c.args.at) c.args.p.now.interface c.args.p.now.is.now c.args.dep.now c.in-Some.j c.does_suit.result (sym c.number.ensures.is ∙ c.in-Some.is) (eq_so c.in-Some.j c.args.p.now.interface c.if-j-p.true) c.does_suit.ensures

pub returns-then-not-contains : goal.returns-then-not-contains
returns-then-not-contains c =
    against_later (universe_of c.args.on.now) (picks_of c.args.on.now) (before c.args.on.now c.args.at) c.args.p.now.interface c.args.p.now.is.now c.args.dep.now c.in-Some.j c.contains.result (sym c.number.ensures.is ∙ c.in-Some.is) (eq_not c.in-Some.j c.args.p.now.interface c.if-j-p.false)
    (c.contains.ensures ∙ c.requires.knows.came c.in-Some.j) c.if-not-contains.true

pub returns : goal.returns
returns c =
    against_there (universe_of c.args.on.now) (picks_of c.args.on.now) (before c.args.on.now c.args.at) c.args.p.now.interface c.args.p.now.is.now c.args.dep.now c.in-Some.j c.contains.result c.isnt_met_there.result (sym c.number.ensures.is ∙ c.in-Some.is) (eq_not c.in-Some.j c.args.p.now.interface c.if-j-p.false)
    (c.contains.ensures ∙ c.requires.knows.came c.in-Some.j) c.if-not-contains.false c.isnt_met_there.ensures
