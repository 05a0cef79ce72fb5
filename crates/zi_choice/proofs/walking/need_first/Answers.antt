use Rattle.std.proofs.Common.{ap, arith, ◌≡◌, ◌∙◌, ◌+◌, ◌-◌, length, take, drop}
use Rattle.zi_choice.specs.Tasks.{universe_of, picks_of, stops_of, sizes}
use Rattle.zi_choice.proofs.TaskLaws.{each_none, each_some, sizes_last, front, empty}
use Rattle.zi_choice.proofs.walking.need_first.Goals as goal

pub returns-in_default-clause-steps : goal.returns-in_default-clause-steps
returns-in_default-clause-steps c =
    each_none (universe_of c.args.on.now) (picks_of c.args.on.now) c.args.i c.args.names.now c.args.tasks.now.items (stops_of c.args.way.now) (empty c.args.names.now c.in_default.len_below)

pub returns-clause-steps : goal.returns-clause-steps
returns-clause-steps c v r =
    each_some (universe_of c.args.on.now) (picks_of c.args.on.now) c.args.i c.name-item.result c.args.names.now _ c.args.tasks.now.items c.push.new.self.items (stops_of c.args.way.now)
    (front c.args.names.now c.name-item.result c.in-len1-up.len_at_least c.name-item.is) c.in_ok-push.ensures.items v (c.in_ok-new.ensures.steps v r)

pub returns-clause-old : goal.returns-clause-old
returns-clause-old c is =
    let h = c.in_ok-new.ensures.old is in
    let ns = c.args.names.now in
    let e : length ns ≡ 1 + length (take (length ns - 1) (drop 1 ns)) = ap length (front ns c.name-item.result c.in-len1-up.len_at_least c.name-item.is) ∙ omega arith in
    let g : sizes c.need.new.tasks.items ≡ sizes c.push.new.self.items = ap sizes h.0 in
    let f : sizes c.push.new.self.items ≡ sizes c.args.tasks.now.items + (1 + length (take (length ns - 1) (drop 1 ns))) = ap sizes c.in_ok-push.ensures.items ∙ sizes_last c.args.tasks.now.items _ in
    (omega (arith, e, f, g), h.1)
