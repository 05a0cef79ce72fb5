use Rattle.std.proofs.Common.{◌∙◌, sym, subst}
use Rattle.zi_choice.specs.Stops.{AreStops}
use Rattle.zi_choice.proofs.traced.stops.Goals as goal

pub returns : goal.returns
returns c =
    let h = c.in_ok-way.ensures in
    let are : AreStops c.universe.result.now c.args.req.now c.args.picks.now c.in_ok-way.way.stops.keys = record { from_root = h.from_root; visit = h.visit; need = h.need } in
    subst (λ v. AreStops v c.args.req.now c.args.picks.now c.in_ok-stops.stops) c.universe.ensures
    (subst (AreStops c.universe.result.now c.args.req.now c.args.picks.now) (sym (c.in_ok-stops.ensures ∙ c.as_slice.ensures.keys)) are)
