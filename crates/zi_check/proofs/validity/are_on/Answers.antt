use Rattle.std.proofs.Common.{◌∙◌, length, map, sym, ap, subst}
use Rattle.zi_choice.specs.Traces.{as_place}
use Rattle.zi_numbering.specs.Listing.{AreListed}
use Rattle.zi_check.specs.Parts.{IsOn}
use Rattle.zi_check.proofs.ValidLaws.{below_none, below_more, below_fails, below_holds, tells_listed}
use Rattle.zi_check.proofs.validity.are_on.Goals as goal

pub loop-i-init : goal.loop-i-init
loop-i-init c = below_none (IsOn (map as_place c.args.places.now) c.args.picks.now)

pub is_on-requires-clause-same : goal.is_on-requires-clause-same
is_on-requires-clause-same c = ap length c.as_slice.ensures.value ∙ c.in_ok-marks.ensures.each

pub returns-then-not-is_on : goal.returns-then-not-is_on
returns-then-not-is_on c =
    below_fails (IsOn (map as_place c.args.places.now) c.args.picks.now) (length c.args.picks.now) c.loop-i.i c.is_on.result c.loop-i-test.true
    (tells_listed (length c.args.picks.now) (map as_place c.args.places.now) c.args.picks.now c.as_slice.result.now c.loop-i.i c.is_on.result (subst (AreListed (length c.args.picks.now) (map as_place c.args.places.now)) (sym c.as_slice.ensures.value) c.in_ok-marks.ensures) c.loop-i-test.true c.is_on.ensures)
    c.if-not-is_on.true

pub loop-i-preserved : goal.loop-i-preserved
loop-i-preserved c =
    below_more (IsOn (map as_place c.args.places.now) c.args.picks.now) c.loop-i.i c.is_on.result c.loop-i.invariant
    (tells_listed (length c.args.picks.now) (map as_place c.args.places.now) c.args.picks.now c.as_slice.result.now c.loop-i.i c.is_on.result (subst (AreListed (length c.args.picks.now) (map as_place c.args.places.now)) (sym c.as_slice.ensures.value) c.in_ok-marks.ensures) c.loop-i-test.true c.is_on.ensures)
    c.if-not-is_on.false

pub returns : goal.returns
returns c = below_holds (IsOn (map as_place c.args.places.now) c.args.picks.now) (length c.args.picks.now) c.loop-i.i c.loop-i.invariant c.loop-i-test.false
