use Rattle.std.proofs.Common.{refl}
use Rattle.zi_choice.proofs.TaskLaws.{lent_none, lent_some}
use Rattle.zi_why.specs.Known.{universe_of, picks_of}
use Rattle.zi_why.proofs.KnownLaws.{need_none, need_some}
use Rattle.zi_why.proofs.known.Known.need.Goals as goal

pub returns-in_default : goal.returns-in_default
returns-in_default c xs h =
    need_none (universe_of c.args.on.now) (picks_of c.args.on.now) xs c.args.i c.args.name.now c.args.self.now (lent_none c.command_at.result _ c.command_at.ensures c.in_default.is) h

pub returns : goal.returns
returns c xs h =
    need_some (universe_of c.args.on.now) (picks_of c.args.on.now) xs c.args.i c.args.name.now c.in-Some.command.now c.args.self.now (record c.args.self.now { bearing = c.own_needs.new.rows })
    (lent_some c.command_at.result c.in-Some.command _ c.command_at.ensures c.in-Some.is) c.own_needs.ensures.len c.in_ok-own_needs.ensures.ok refl refl refl h
