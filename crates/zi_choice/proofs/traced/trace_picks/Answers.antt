use Rattle.std.proofs.Common.{◌∙◌, ap, map}
use Rattle.zi_choice.specs.Traces.{as_place, as_use}
use Rattle.zi_choice.specs.Stops.{places_of, uses_of}
use Rattle.zi_choice.proofs.StopLaws.{walk_told}
use Rattle.zi_choice.proofs.traced.trace_picks.Goals as goal

pub returns : goal.returns
returns c =
    let h = c.in_ok-way.ensures in
    walk_told c.universe.result.now c.args.names.now c.args.req.now c.args.picks.now c.in_ok-way.way.stops.keys (map as_place c.in_ok-places.places) (map as_use c.in_ok-used.used)
    (record { from_root = h.from_root; visit = h.visit; need = h.need }) c.universe.ensures
    (c.in_ok-places.ensures ∙ ap (places_of c.args.picks.now) c.as_slice.ensures.keys) (c.in_ok-used.ensures ∙ ap uses_of c.as_slice-2.ensures.keys)
