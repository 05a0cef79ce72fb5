use Rattle.std.proofs.Common.{refl}
use Rattle.zi_session.specs.Standing.{standing}
use Rattle.zi_session.proofs.KeepingLemmas.{step_keeps, none_keeps}
use Rattle.zi_session.proofs.session.Session.step.Goals as goal

pub returns-in-Makes-clause-keeps : goal.returns-in-Makes-clause-keeps
returns-in-Makes-clause-keeps g c = step_keeps (standing c.args.self.now) (standing c.make.new.self) (g.K.Shelf.seen c.args.k.now) (g.K.Shelf.seen c.make.new.k) c.make.result c.args.self.now.fit c.make.ensures.steps

pub returns-in-Fills-clause-keeps : goal.returns-in-Fills-clause-keeps
returns-in-Fills-clause-keeps g c = step_keeps (standing c.args.self.now) (standing c.fill.new.self) (g.K.Shelf.seen c.args.k.now) (g.K.Shelf.seen c.fill.new.k) c.fill.result c.args.self.now.fit c.fill.ensures.steps

pub returns-in-Settles-clause-keeps : goal.returns-in-Settles-clause-keeps
returns-in-Settles-clause-keeps g c = step_keeps (standing c.args.self.now) (standing c.settle.new.self) (g.K.Shelf.seen c.args.k.now) (g.K.Shelf.seen c.settle.new.k) c.settle.result c.args.self.now.fit c.settle.ensures.steps

pub returns-in-Renames-clause-keeps : goal.returns-in-Renames-clause-keeps
returns-in-Renames-clause-keeps g c = step_keeps (standing c.args.self.now) (standing c.rename.new.self) (g.K.Shelf.seen c.args.k.now) (g.K.Shelf.seen c.rename.new.k) c.rename.result c.args.self.now.fit c.rename.ensures.steps

pub returns-in-Stores-clause-keeps : goal.returns-in-Stores-clause-keeps
returns-in-Stores-clause-keeps g c = step_keeps (standing c.args.self.now) (standing c.store.new.self) (g.K.Shelf.seen c.args.k.now) (g.K.Shelf.seen c.store.new.k) c.store.result c.args.self.now.fit c.store.ensures.steps

pub returns-in-Removes-clause-keeps : goal.returns-in-Removes-clause-keeps
returns-in-Removes-clause-keeps g c = step_keeps (standing c.args.self.now) (standing c.remove.new.self) (g.K.Shelf.seen c.args.k.now) (g.K.Shelf.seen c.remove.new.k) c.remove.result c.args.self.now.fit c.remove.ensures.steps

pub returns-in-Leaves-clause-keeps : goal.returns-in-Leaves-clause-keeps
returns-in-Leaves-clause-keeps g c = step_keeps (standing c.args.self.now) (standing c.leave.new.self) (g.K.Shelf.seen c.args.k.now) (g.K.Shelf.seen c.leave.new.k) c.leave.result c.args.self.now.fit c.leave.ensures.steps

pub returns-in_default-clause-keeps : goal.returns-in_default-clause-keeps
returns-in_default-clause-keeps g c = none_keeps _ _ _ refl
