use Rattle.zi_walk.proofs.walk.WalkDecider.go_back.Goals as goal

pub invariant_of-self : goal.invariant_of-self
invariant_of-self c = (c.self.invariant.0, c.go_back.ensures.kept c.self.inside.names c.self.inside.requirement.now c.self.invariant.1)
