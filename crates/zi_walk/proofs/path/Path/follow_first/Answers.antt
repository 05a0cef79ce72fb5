use Rattle.std.proofs.Common.{◌≡◌, ◌+◌, ◌-◌, length, take, drop, ap, subst, arith}
use Rattle.zi_choice.specs.Walk.{Follows}
use Rattle.zi_choice.specs.Tasks.{dep_size, deps_size}
use Rattle.zi_choice.proofs.TaskLaws.{front, empty}
use Rattle.zi_walk.specs.Lists.{list_at}
use Rattle.zi_walk.specs.Kept.{stand_of, left_of, walk_to, sizes}
use Rattle.zi_walk.proofs.InverseLaws.{follow_same}
use Rattle.zi_walk.proofs.StepLaws.{stays, not_grown, follow_steps, added_ready, added_grown, added_sizes, stays_added}
use Rattle.zi_walk.proofs.path.Path.follow_first.Goals as goal

pub returns-in_default-clause-grown : goal.returns-in_default-clause-grown
returns-in_default-clause-grown c = not_grown (stand_of c.args.self.now) c.requires

pub returns-in_default-clause-steps : goal.returns-in_default-clause-steps
returns-in_default-clause-steps c =
    stays c.args.names.now (λ s. Follows c.args.names.now s c.args.deps.now) (stand_of c.args.self.now) c.requires
    (λ s b agrees f. follow_same (subst (λ ds. Follows c.args.names.now s ds (walk_to s (stand_of c.args.self.now)) b) (empty c.args.deps.now c.in_default.len_below) f))

pub along-requires : goal.along-requires
along-requires c = added_ready (stand_of c.args.self.now) c.in_ok-self.ensures.added c.requires

pub returns-clause-grown : goal.returns-clause-grown
returns-clause-grown c = added_grown (stand_of c.args.self.now) (stand_of c.along.new.self) c.in_ok-self.ensures.added c.in_ok-new.ensures.grown

pub returns-clause-steps : goal.returns-clause-steps
returns-clause-steps c =
    follow_steps c.args.names.now c.args.deps.now c.dep-item.result _ (stand_of c.args.self.now) (stand_of c.along.new.self) c.add.new.self c.in_ok-self.field-0 c.in_ok-new.new
    (front c.args.deps.now c.dep-item.result c.in-len1-up.len_at_least c.dep-item.is) c.in_ok-self.ensures.added c.in_ok-new.ensures.steps

pub returns-clause-old : goal.returns-clause-old
returns-clause-old c is =
    let old = c.in_ok-new.ensures.old is in
    let ds = c.args.deps.now in
    let d = c.dep-item.result in
    let e : deps_size ds ≡ dep_size d + deps_size (take (length ds - 1) (drop 1 ds)) = ap deps_size (front ds d c.in-len1-up.len_at_least c.dep-item.is) in
    let f : sizes (list_at c.add.new.self c.in_ok-self.field-0) ≡ (1 + deps_size (take (length ds - 1) (drop 1 ds))) + sizes (left_of (stand_of c.args.self.now)) = added_sizes c.in_ok-self.ensures.added in
    (omega (arith, old.0, e, f), stays_added (stand_of c.args.self.now) (stand_of c.along.new.self) c.add.new.self c.in_ok-self.field-0 old.1)
