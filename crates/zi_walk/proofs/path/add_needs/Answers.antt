use Rattle.std.proofs.Common.{◌∙◌, ap, refl, subst}
use Rattle.zi_walk.specs.declared.tasks.Task.TheVariants.{Follow}
use Rattle.zi_walk.specs.Lists.{list_at, IsAdded}
use Rattle.zi_walk.specs.Kept.{NeedsFirst}
use Rattle.zi_walk.proofs.StepLaws.{needs_first, needs_runner_first}
use Rattle.zi_walk.proofs.path.add_needs.Goals as goal
use Rattle.zi_walk.proofs.path.add_needs.Goals.{in-None, in-Some+in_ok-later-in-Some}

pub returns-clause-needs : goal.returns-clause-needs
returns-clause-needs c =
    let ds = c.as_slice.result in
    let left = c.in_ok-first.first in
    elim c.match-m.branch [
      | in-None w ↦
          subst (λ ts. NeedsFirst c.args.m.now ts (list_at c.add-2.new.self left)) (ap (λ ls. list_at ls c.match-m.later) w.tasks-is ∙ ap (list_at c.args.tasks.now) w.later-is)
          (needs_first c.args.m.now c.match-m.tasks c.match-m.later ds c.add-2.new.self left w.in-None.is c.as_slice.ensures c.in_ok-first.ensures.added)
      | in-Some+in_ok-later-in-Some w ↦
          let later = w.in_ok-later-in-Some.later in
          let added : IsAdded w.add.new.self later (Follow ds) c.add-2.new.self left = subst (λ n. IsAdded w.add.new.self n (Follow ds) c.add-2.new.self left) w.later-is (subst (λ ls. IsAdded ls c.match-m.later (Follow ds) c.add-2.new.self left) w.tasks-is c.in_ok-first.ensures.added) in
          needs_runner_first c.args.m.now w.in-Some.runner c.args.tasks.now c.args.left _ ds w.add.new.self later c.add-2.new.self left w.in-Some.is refl c.as_slice.ensures w.in_ok-later-in-Some.ensures.added added
    ]
