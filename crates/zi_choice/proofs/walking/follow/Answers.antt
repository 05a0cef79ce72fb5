use Rattle.std.proofs.Common.{ap, arith, ◌≡◌, ◌∙◌, ◌+◌, ◌-◌, length, take, drop}
use Rattle.zi_choice.specs.Tasks.{universe_of, picks_of, stops_of, sizes, deps_size, dep_size}
use Rattle.zi_choice.proofs.TaskLaws.{follow_none, follow_some, sizes_last, front, empty}
use Rattle.zi_choice.proofs.walking.follow.Goals as goal

pub returns-in_default-clause-steps : goal.returns-in_default-clause-steps
returns-in_default-clause-steps c =
    follow_none (universe_of c.args.on.now) (picks_of c.args.on.now) c.args.deps.now c.args.tasks.now.items (stops_of c.args.way.now) (empty c.args.deps.now c.in_default.len_below)

pub returns-clause-steps : goal.returns-clause-steps
returns-clause-steps c v r =
    follow_some (universe_of c.args.on.now) (picks_of c.args.on.now) c.dep-item.result c.args.deps.now _ c.args.tasks.now.items c.push.new.self.items (stops_of c.args.way.now)
    (front c.args.deps.now c.dep-item.result c.in-len1-up.len_at_least c.dep-item.is) c.in_ok-push.ensures.items v (c.in_ok-new.ensures.steps v r)

pub returns-clause-old : goal.returns-clause-old
returns-clause-old c is =
    let h = c.in_ok-new.ensures.old is in
    let ds = c.args.deps.now in
    let d = c.dep-item.result in
    let e : deps_size ds ≡ dep_size d + deps_size (take (length ds - 1) (drop 1 ds)) = ap deps_size (front ds d c.in-len1-up.len_at_least c.dep-item.is) in
    let f : sizes c.push.new.self.items ≡ sizes c.args.tasks.now.items + (1 + deps_size (take (length ds - 1) (drop 1 ds))) = ap sizes c.in_ok-push.ensures.items ∙ sizes_last c.args.tasks.now.items _ in
    (omega (arith, h.0, e, f), h.1)
