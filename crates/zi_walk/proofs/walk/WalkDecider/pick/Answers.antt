use Rattle.zi_walk.proofs.walk.WalkDecider.pick.Goals as goal

pub invariant_of-self-in-Err : goal.invariant_of-self-in-Err
invariant_of-self-in-Err c = (c.self.invariant.0, c.new.ensures.is c.self.inside.names c.self.inside.requirement.now)
