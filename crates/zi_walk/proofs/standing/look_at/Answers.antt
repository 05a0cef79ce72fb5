use Rattle.std.proofs.Common.{◌∙◌, sym}
use Rattle.zi_sat.specs.Trail.{known_from}
use Rattle.zi_walk.proofs.FirmLaws.{blocked_there, none_settled, settled_all, settled_before}
use Rattle.zi_walk.proofs.standing.look_at.Goals as goal

pub returns-in-Some : goal.returns-in-Some
returns-in-Some c =
    (blocked_there c.args.n.now (known_from c.args.t.now.entries) c.args.i c.chosen_at-pick.result c.chosen_at-pick.ensures c.in-Some.l c.in-Some.ensures.is, c.in-Some.ensures.undecided)

pub returns-in_default-pick : goal.returns-in_default-pick
returns-in_default-pick c =
    none_settled c.args.n.now (known_from c.args.t.now.entries) c.args.i c.chosen_at-pick.result c.chosen_at-pick.ensures c.in_default-pick.is c.in_default.ensures.is

pub returns-in_default-undecided_at : goal.returns-in_default-undecided_at
returns-in_default-undecided_at c =
    settled_all c.args.n.now (known_from c.args.t.now.entries) c.args.i c.in-Some-pick.c (sym c.chosen_at-pick.ensures ∙ c.in-Some-pick.is) (sym c.undecided_at.ensures.is ∙ c.in_default-undecided_at.is)

pub returns : goal.returns
returns c =
    settled_before c.args.n.now (known_from c.args.t.now.entries) c.args.i c.in-Some-pick.c c.in-Some-undecided_at.o (sym c.chosen_at-pick.ensures ∙ c.in-Some-pick.is) (sym c.undecided_at.ensures.is ∙ c.in-Some-undecided_at.is) c.if-o-c.false
