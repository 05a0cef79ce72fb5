use Rattle.zi_walk.specs.Kept.{stand_of}
use Rattle.zi_walk.proofs.StepLaws.{visit_steps}
use Rattle.zi_walk.proofs.path.Path.visit.Goals as goal

pub returns-clause-steps : goal.returns-clause-steps
returns-clause-steps c =
    visit_steps c.args.names.now c.args.i (stand_of c.args.self.now) c.insert.new.self.keys c.in_ok-new.new c.requires.ready c.requires.there (record { added = c.in_ok-new.ensures.added; keys = c.in_ok-new.ensures.keys })
