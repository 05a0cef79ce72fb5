use Rattle.zi_choice.proofs.TaskLaws.{lent_none, lent_some}
use Rattle.zi_walk.specs.Kept.{stand_of, stop_at}
use Rattle.zi_walk.proofs.PathLaws.{with_last, follow_none, follow_some}
use Rattle.zi_walk.proofs.path.Path.follow.Goals as goal

pub returns-in_default-clause-goes : goal.returns-in_default-clause-goes
returns-in_default-clause-goes c =
    let y = stand_of c.args.self.now in
    follow_none c.args.names.now y (stop_at y c.args.i c.args.pick c.args.known) c.push.new.self.items c.requires.waits c.requires.last
    (with_last y c.push.new.self.items c.args.i c.args.known c.len.result c.len-2.result c.args.pick c.in_ok-push.ensures.items c.len.ensures c.len-2.ensures.len)
    (lent_none c.candidate.result _ c.candidate.ensures c.in_default.is)

pub returns-clause-goes : goal.returns-clause-goes
returns-clause-goes c =
    let y = stand_of c.args.self.now in
    follow_some c.args.names.now y (stop_at y c.args.i c.args.pick c.args.known) c.push.new.self.items c.in-Some.k.now c.add_follows.new.tasks c.in_ok-self.field-0 c.requires.waits c.requires.last
    (with_last y c.push.new.self.items c.args.i c.args.known c.len.result c.len-2.result c.args.pick c.in_ok-push.ensures.items c.len.ensures c.len-2.ensures.len)
    (lent_some c.candidate.result c.in-Some.k _ c.candidate.ensures c.in-Some.is) c.in_ok-self.ensures.follows
