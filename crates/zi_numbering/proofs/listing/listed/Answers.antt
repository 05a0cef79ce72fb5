use Rattle.std.proofs.Common.{None, map, take, get_or, subst, sym, refl}
use Rattle.zi_choice.specs.Traces.{as_place}
use Rattle.zi_choice.specs.declared.traced.Place.{Place}
use Rattle.zi_numbering.specs.Listing.{AreListed}
use Rattle.zi_numbering.proofs.ListingLaws.{none_listed, places_more}
use Rattle.zi_numbering.proofs.listing.listed.Goals as goal

pub loop-p-init : goal.loop-p-init
loop-p-init c = none_listed c.args.interfaces c.in_ok-marks.marks.items c.in_ok-marks.ensures

pub loop-p-preserved : goal.loop-p-preserved
loop-p-preserved c =
    let d : Place = record { interface = 0; pick = None } in
    subst (λ ps. AreListed c.args.interfaces ps c.mark.new.marks.items) (sym (places_more c.args.places.now c.loop-p.p-index d c.loop-p-test.true))
    (c.mark.ensures c.args.interfaces (map as_place (take c.loop-p.p-index c.args.places.now)) (as_place (get_or c.args.places.now c.loop-p.p-index d)) refl c.loop-p.invariant)
