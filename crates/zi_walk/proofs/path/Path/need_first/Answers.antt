use Rattle.std.proofs.Common.{◌≡◌, ◌+◌, ◌-◌, ◌∙◌, length, take, drop, ap, subst, arith}
use Rattle.zi_choice.specs.Walk.{NeedsEach}
use Rattle.zi_choice.proofs.TaskLaws.{front, empty}
use Rattle.zi_walk.specs.Lists.{list_at}
use Rattle.zi_walk.specs.Kept.{stand_of, left_of, walk_to, sizes}
use Rattle.zi_walk.proofs.InverseLaws.{each_same}
use Rattle.zi_walk.proofs.StepLaws.{NeedsEachThere, stays, not_grown, each_steps, added_ready, added_grown, added_sizes, stays_added}
use Rattle.zi_walk.proofs.path.Path.need_first.Goals as goal

pub returns-in_default-clause-grown : goal.returns-in_default-clause-grown
returns-in_default-clause-grown c = not_grown (stand_of c.args.self.now) c.requires

pub returns-in_default-clause-steps : goal.returns-in_default-clause-steps
returns-in_default-clause-steps c =
    stays c.args.names.now (NeedsEachThere c.args.names.now c.args.i c.args.commands.now) (stand_of c.args.self.now) c.requires
    (λ s b agrees f. each_same (subst (λ ns. NeedsEach c.args.names.now s c.args.i ns (walk_to s (stand_of c.args.self.now)) b) (empty c.args.commands.now c.in_default.len_below) f.1))

pub need-requires : goal.need-requires
need-requires c = added_ready (stand_of c.args.self.now) c.in_ok-self.ensures.added c.requires

pub returns-clause-grown : goal.returns-clause-grown
returns-clause-grown c = added_grown (stand_of c.args.self.now) (stand_of c.need.new.self) c.in_ok-self.ensures.added c.in_ok-new.ensures.grown

pub returns-clause-steps : goal.returns-clause-steps
returns-clause-steps c =
    each_steps c.args.names.now c.args.i c.args.commands.now c.name-item.result _ (stand_of c.args.self.now) (stand_of c.need.new.self) c.add.new.self c.in_ok-self.field-0 c.in_ok-new.new
    (front c.args.commands.now c.name-item.result c.in-len1-up.len_at_least c.name-item.is) c.in_ok-self.ensures.added c.in_ok-new.ensures.steps

pub returns-clause-old : goal.returns-clause-old
returns-clause-old c is =
    let old = c.in_ok-new.ensures.old is in
    let ns = c.args.commands.now in
    let n : length ns ≡ 1 + length (take (length ns - 1) (drop 1 ns)) = ap length (front ns c.name-item.result c.in-len1-up.len_at_least c.name-item.is) ∙ omega arith in
    let e : sizes (left_of (stand_of c.need.new.self)) ≡ sizes (list_at c.add.new.self c.in_ok-self.field-0) = ap sizes old.0 in
    let f : sizes (list_at c.add.new.self c.in_ok-self.field-0) ≡ (1 + length (take (length ns - 1) (drop 1 ns))) + sizes (left_of (stand_of c.args.self.now)) = added_sizes c.in_ok-self.ensures.added in
    (omega (arith, n, e, f), stays_added (stand_of c.args.self.now) (stand_of c.need.new.self) c.add.new.self c.in_ok-self.field-0 old.1)
