use Rattle.std.proofs.Common.{ap}
use Rattle.zi_shelf.specs.Shelved.{MakeTop}
use Rattle.zi_session.specs.Machine.{next_call}
use Rattle.zi_session.specs.Phases.{tmp_name, phase_of}
use Rattle.zi_session.specs.Standing.{standing}
use Rattle.zi_session.proofs.KeepingLemmas.{waits}
use Rattle.zi_session.proofs.session.Session.make.Goals as goal

pub returns-in_default-clause-steps : goal.returns-in_default-clause-steps
returns-in_default-clause-steps g c =
    let s = c.args.self.now in
    waits (standing s) (g.K.Shelf.seen c.args.k.now) (MakeTop (tmp_name s.number)) (ap (λ p. next_call tmp_name (standing s).works s.name (phase_of p s.number s.done)) c.requires)
