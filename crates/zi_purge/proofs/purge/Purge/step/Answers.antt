use Rattle.std.proofs.Common.{refl}
use Rattle.zi_purge.specs.Stepping.{standing}
use Rattle.zi_purge.proofs.KeepingLemmas.{step_keeps, none_keeps}
use Rattle.zi_purge.proofs.ProgressLemmas.{step_advances, over_now}
use Rattle.zi_purge.proofs.purge.Purge.step.Goals as goal

pub returns-in-Moves-clause-keeps : goal.returns-in-Moves-clause-keeps
returns-in-Moves-clause-keeps g c = step_keeps (standing c.args.self.now) (standing c.take_away.new.self) (g.K.Shelf.seen c.args.k.now) (g.K.Shelf.seen c.take_away.new.k) c.take_away.result c.take_away.ensures.steps

pub returns-in-Seals-clause-keeps : goal.returns-in-Seals-clause-keeps
returns-in-Seals-clause-keeps g c = step_keeps (standing c.args.self.now) (standing c.seal.new.self) (g.K.Shelf.seen c.args.k.now) (g.K.Shelf.seen c.seal.new.k) c.seal.result c.seal.ensures.steps

pub returns-in-Clears-clause-keeps : goal.returns-in-Clears-clause-keeps
returns-in-Clears-clause-keeps g c = step_keeps (standing c.args.self.now) (standing c.clear.new.self) (g.K.Shelf.seen c.args.k.now) (g.K.Shelf.seen c.clear.new.k) c.clear.result c.clear.ensures.steps

pub returns-in-Closes-clause-keeps : goal.returns-in-Closes-clause-keeps
returns-in-Closes-clause-keeps g c = step_keeps (standing c.args.self.now) (standing c.close.new.self) (g.K.Shelf.seen c.args.k.now) (g.K.Shelf.seen c.close.new.k) c.close.result c.close.ensures.steps

pub returns-in_default-clause-keeps : goal.returns-in_default-clause-keeps
returns-in_default-clause-keeps g c = none_keeps _ _ _ refl

pub returns-in-Moves-clause-advances : goal.returns-in-Moves-clause-advances
returns-in-Moves-clause-advances g c = step_advances c.args.self.now (standing c.take_away.new.self) (g.K.Shelf.seen c.args.k.now) (g.K.Shelf.seen c.take_away.new.k) c.take_away.result c.take_away.ensures.steps

pub returns-in-Seals-clause-advances : goal.returns-in-Seals-clause-advances
returns-in-Seals-clause-advances g c = step_advances c.args.self.now (standing c.seal.new.self) (g.K.Shelf.seen c.args.k.now) (g.K.Shelf.seen c.seal.new.k) c.seal.result c.seal.ensures.steps

pub returns-in-Clears-clause-advances : goal.returns-in-Clears-clause-advances
returns-in-Clears-clause-advances g c = step_advances c.args.self.now (standing c.clear.new.self) (g.K.Shelf.seen c.args.k.now) (g.K.Shelf.seen c.clear.new.k) c.clear.result c.clear.ensures.steps

pub returns-in-Closes-clause-advances : goal.returns-in-Closes-clause-advances
returns-in-Closes-clause-advances g c = step_advances c.args.self.now (standing c.close.new.self) (g.K.Shelf.seen c.args.k.now) (g.K.Shelf.seen c.close.new.k) c.close.result c.close.ensures.steps

pub returns-in_default-clause-advances : goal.returns-in_default-clause-advances
returns-in_default-clause-advances g c =
    let x = c.args.self.now in (over_now x.phase x.place x.number c.in_default.not-Moves c.in_default.not-Seals c.in_default.not-Clears c.in_default.not-Closes, refl)

pub returns-in_default-clause-steps : goal.returns-in_default-clause-steps
returns-in_default-clause-steps g c =
    let x = c.args.self.now in
    let over = over_now x.phase x.place x.number c.in_default.not-Moves c.in_default.not-Seals c.in_default.not-Clears c.in_default.not-Closes in
    λ going. absurd (cc (going, over))
