use Rattle.std.proofs.Common.{map, sym, ap, ◌∙◌, subst, arith, ◌∷◌, []}
use Rattle.std.proofs.lemmas.List.{map-append}
use Rattle.zi_showing.specs.Steps.{asked_in, place_seen}
use Rattle.zi_showing.proofs.WalkLaws.{begins, shows_next, shows_all}
use Rattle.zi_showing.proofs.walking.walk.Goals as goal

pub loop-place-init : goal.loop-place-init
loop-place-init c =
    begins c.args.sels.now c.in_ok-left.left.entries (asked_in c.in_ok-pending.pending.items) (map place_seen c.new-places.result) (rw c.as_slice.ensures at c.in_ok-left.ensures) c.in_ok-pending.ensures
    (ap (map place_seen) c.new-places.ensures)

pub loop-place-smaller : goal.loop-place-smaller
loop-place-smaller c = omega (arith, c.in-Some.ensures.4)

pub loop-place-preserved : goal.loop-place-preserved
loop-place-preserved c =
    shows_next c.args.sels.now c.loop-place.left.entries c.next_place.new.left.entries (asked_in c.loop-place.pending.items) (asked_in c.next_place.new.pending.items) (asked_in c.ask_needs.new.pending.items)
    (map place_seen c.loop-place.places) (map place_seen c.push.new.self) c.in-Some.place.item.now c.in-Some.place.level c.in-Some.ensures (rw c.deeper.ensures at c.in_ok-ask_needs.ensures)
    (ap (map place_seen) c.in_ok-push.ensures.ok ∙ map-append place_seen c.loop-place.places (c.in-Some.place ∷ [])) c.loop-place.invariant

pub returns : goal.returns
returns c =
    shows_all c.args.sels.now c.loop-place.left.entries c.next_place.new.left.entries (asked_in c.loop-place.pending.items) (asked_in c.next_place.new.pending.items) (map place_seen c.loop-place.places)
    c.in_default.ensures c.loop-place.invariant
