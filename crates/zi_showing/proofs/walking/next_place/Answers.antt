use Rattle.std.proofs.Common.{refl, ap, arith}
use Rattle.zi_showing.specs.Steps.{left_in, asked_in}
use Rattle.zi_showing.proofs.PieceLaws.{no_items, passes_none, next_found, next_passed, none_found}
use Rattle.zi_showing.proofs.walking.next_place.Goals as goal

pub loop-asked-init : goal.loop-asked-init
loop-asked-init c = (refl, passes_none (left_in c.args.left.now.entries) (asked_in c.args.pending.now.items))

pub returns-in-Some-take : goal.returns-in-Some-take
returns-in-Some-take c =
    next_found c.args.left.now.entries c.loop-asked.left.entries c.take.new.left.entries (asked_in c.args.pending.now.items) (asked_in c.loop-asked.pending.items) (asked_in c.pop_front.new.self.items)
    c.in-Some.asked.interface.now c.in-Some.asked.level c.in-Some-take.item.now c.loop-asked.invariant.0 (ap asked_in c.in-Some.ensures.items) c.loop-asked.invariant.1 c.in-Some-take.ensures

pub loop-asked-smaller : goal.loop-asked-smaller
loop-asked-smaller c = omega (arith, c.in-Some.ensures.len)

pub loop-asked-preserved : goal.loop-asked-preserved
loop-asked-preserved c =
    next_passed c.args.left.now.entries c.loop-asked.left.entries c.take.new.left.entries (asked_in c.args.pending.now.items) (asked_in c.loop-asked.pending.items) (asked_in c.pop_front.new.self.items)
    c.in-Some.asked.interface.now c.in-Some.asked.level c.loop-asked.invariant.0 (ap asked_in c.in-Some.ensures.items) c.loop-asked.invariant.1 c.in_default-take.ensures

pub returns : goal.returns
returns c =
    none_found c.args.left.now.entries c.loop-asked.left.entries (asked_in c.args.pending.now.items) (asked_in c.loop-asked.pending.items) (asked_in c.pop_front.new.self.items)
    (ap asked_in (no_items c.loop-asked.pending.items (omega (arith, c.in_default.ensures.cases.0))))
    (ap asked_in (no_items c.pop_front.new.self.items (omega (arith, c.in_default.ensures.cases.1)))) c.loop-asked.invariant.1
