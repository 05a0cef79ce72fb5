use Rattle.std.proofs.Common.{◌≡◌, ◌+◌, ◌∙◌, [], ◌∷◌, length, ap, sym, arith}
use Rattle.zi_choice.specs.Walk.{Follows}
use Rattle.zi_walk.specs.Lists.{list_at}
use Rattle.zi_walk.specs.Kept.{stand_of, left_of, sizes}
use Rattle.zi_walk.proofs.InverseLaws.{follow_passes}
use Rattle.zi_walk.proofs.StepLaws.{stays, not_grown, along_steps, added_ready, added_grown, added_sizes, stays_added}
use Rattle.zi_walk.proofs.path.Path.along.Goals as goal

pub returns-in_default-clause-grown : goal.returns-in_default-clause-grown
returns-in_default-clause-grown c = not_grown (stand_of c.args.self.now) c.requires

pub returns-in_default-clause-steps : goal.returns-in_default-clause-steps
returns-in_default-clause-steps c =
    stays c.args.names.now (λ s. Follows c.args.names.now s (c.args.dep.now ∷ [])) (stand_of c.args.self.now) c.requires
    (λ s b agrees f. follow_passes (sym c.leads_to.ensures.is ∙ c.in_default.is) f)

pub visit-requires : goal.visit-requires
visit-requires c = record { ready = added_ready (stand_of c.args.self.now) c.in_ok-self.ensures.added c.requires; there = c.in-Some.ensures.within }

pub returns-clause-grown : goal.returns-clause-grown
returns-clause-grown c = added_grown (stand_of c.args.self.now) (stand_of c.visit.new.self) c.in_ok-self.ensures.added c.in_ok-new.ensures.grown

pub returns-clause-steps : goal.returns-clause-steps
returns-clause-steps c =
    along_steps c.args.names.now c.args.dep.now c.in-Some.i c.as_slice.result (stand_of c.args.self.now) (stand_of c.visit.new.self) c.add.new.self c.in_ok-self.field-0 c.in_ok-new.new
    (sym c.in-Some.ensures.is) c.as_slice.ensures c.in_ok-self.ensures.added c.in_ok-new.ensures.steps

pub returns-clause-old : goal.returns-clause-old
returns-clause-old c is =
    let y = stand_of c.args.self.now in
    let old = c.in_ok-new.ensures.old is in
    let n : length c.as_slice.result.now ≡ length c.args.dep.now.commands = ap length c.as_slice.ensures in
    let e : sizes (left_of (stand_of c.visit.new.self)) ≡ sizes (list_at c.add.new.self c.in_ok-self.field-0) = ap sizes old.0 in
    let f : sizes (list_at c.add.new.self c.in_ok-self.field-0) ≡ (1 + length c.as_slice.result.now) + sizes (left_of y) = added_sizes c.in_ok-self.ensures.added in
    (omega (arith, n, e, f), stays_added y (stand_of c.visit.new.self) c.add.new.self c.in_ok-self.field-0 old.1)
