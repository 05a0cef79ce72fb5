use Rattle.std.proofs.Common.{◌∙◌, sym, subst}
use Rattle.zi_sat.specs.Trail.{known_from}
use Rattle.zi_walk.specs.Kept.{stand_of}
use Rattle.zi_walk.specs.Firm.{Firm}
use Rattle.zi_walk.proofs.OnLaws.{followed_way, followed_ready}
use Rattle.zi_walk.proofs.kept.pass.Goals as goal

pub returns-in_ok-follow-in-Settled-clause-way : goal.returns-in_ok-follow-in-Settled-clause-way
returns-in_ok-follow-in-Settled-clause-way c =
    followed_way c.args.on.now.names.now c.args.on.now.requirement.now c.args.t.now.variables c.args.t.now.entries (stand_of c.args.path.now) c.are_new.ensures.undecided c.requires.way
    (stand_of c.follow.new.self) c.in-Some.i c.len.result c.in-Settled.pick c.len.ensures (sym c.waits_at.ensures ∙ c.in-Some.is)
    (subst (λ v. Firm v (known_from c.args.t.now.entries) c.in-Some.i c.in-Settled.pick) c.requires.numbered c.in-Settled.ensures)
    c.in_ok-follow-in-Settled.ensures.followed c.in_ok-follow-in-Settled.ensures.goes

pub returns-in_ok-follow-in-Settled-clause-ready : goal.returns-in_ok-follow-in-Settled-clause-ready
returns-in_ok-follow-in-Settled-clause-ready c =
    followed_ready c.args.on.now.names.now c.args.on.now.requirement.now c.args.t.now.variables c.args.t.now.entries (stand_of c.args.path.now) c.are_new.ensures.undecided c.requires.way
    (stand_of c.follow.new.self) c.in-Some.i c.len.result c.in-Settled.pick (sym c.waits_at.ensures ∙ c.in-Some.is) c.in_ok-follow-in-Settled.ensures.followed
