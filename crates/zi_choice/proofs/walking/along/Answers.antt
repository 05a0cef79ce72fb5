use Rattle.std.proofs.Common.{sym, ap, arith, ◌≡◌, ◌∙◌, ◌+◌, length}
use Rattle.zi_choice.specs.Tasks.{universe_of, picks_of, stops_of, sizes}
use Rattle.zi_choice.specs.declared.walking.Task.TheVariants.{Need}
use Rattle.zi_choice.proofs.TaskLaws.{along_none, along_some, sizes_last}
use Rattle.zi_choice.proofs.walking.along.Goals as goal

pub returns-in_default-clause-steps : goal.returns-in_default-clause-steps
returns-in_default-clause-steps c =
    along_none (universe_of c.args.on.now) (picks_of c.args.on.now) c.args.dep.now c.args.tasks.now.items (stops_of c.args.way.now) (sym c.leads_to.ensures.is ∙ c.in_default.is)

pub visit-requires : goal.visit-requires
visit-requires c = c.in-Some.ensures.within

pub returns-clause-steps : goal.returns-clause-steps
returns-clause-steps c v r =
    along_some (universe_of c.args.on.now) (picks_of c.args.on.now) c.args.dep.now c.in-Some.i c.args.tasks.now.items c.push.new.self.items c.as_slice.result (stops_of c.args.way.now) (sym c.in-Some.ensures.is) c.as_slice.ensures c.in_ok-push.ensures.items v (c.in_ok-new.ensures.steps v r)

pub returns-clause-old : goal.returns-clause-old
returns-clause-old c is =
    let h = c.in_ok-new.ensures.old is in
    let n : length c.as_slice.result.now ≡ length c.args.dep.now.commands = ap length c.as_slice.ensures in
    let e : sizes c.visit.new.tasks.items ≡ sizes c.push.new.self.items = ap sizes h.0 in
    let f : sizes c.push.new.self.items ≡ sizes c.args.tasks.now.items + (1 + length c.as_slice.result.now) = ap sizes c.in_ok-push.ensures.items ∙ sizes_last c.args.tasks.now.items (Need c.in-Some.i c.as_slice.result) in
    (omega (arith, n, e, f), h.1)
