use Rattle.std.proofs.Common.{refl}
use Rattle.zi_check.proofs.ValidLaws.{walk_unfit, walk_wrong, walk_unmet, walk_off, walk_right}
use Rattle.zi_check.proofs.validity.valid_walk.Goals as goal

pub returns-then-not-fits : goal.returns-then-not-fits
returns-then-not-fits c =
    walk_unfit c.args.u.now c.interfaces-interfaces.result.now c.args.req.now c.args.c.now.picks c.as_slice-picks.result.now c.fits.result c.interfaces-interfaces.ensures.interfaces c.as_slice-picks.ensures c.fits.ensures c.if-not-fits.true

pub returns-then-not-is_right : goal.returns-then-not-is_right
returns-then-not-is_right c =
    walk_wrong _ c.args.u.now c.args.req.now c.args.c.now.picks _ c.is_right.result c.in_ok-names.ensures c.as_slice-picks.ensures c.is_right.ensures c.if-not-is_right.true

pub returns-then-not-are_uses_met : goal.returns-then-not-are_uses_met
returns-then-not-are_uses_met c =
    walk_unmet _ c.args.u.now c.args.req.now c.args.c.now.picks _ c.is_right.result c.are_uses_met.result c.in_ok-traced.traced c.as_slice.result.now c.is_right.ensures c.in_ok-names.ensures c.as_slice-picks.ensures c.in_ok-traced.ensures c.as_slice.ensures c.are_uses_met.ensures c.if-not-are_uses_met.true

pub returns-then-not-is_walked : goal.returns-then-not-is_walked
returns-then-not-is_walked c =
    walk_off _ c.args.u.now c.args.req.now c.args.c.now.picks _ c.is_right.result c.in_ok-is_walked.is_walked c.in_ok-traced.traced c.as_slice-2.result.now c.is_right.ensures c.in_ok-names.ensures c.as_slice-picks.ensures c.in_ok-traced.ensures c.as_slice-2.ensures c.in_ok-is_walked.ensures c.if-not-is_walked.true

pub returns : goal.returns
returns c =
    walk_right _ c.args.u.now c.interfaces-interfaces.result.now c.args.req.now c.args.c.now.picks _ c.in_ok-traced.traced c.as_slice.result.now c.as_slice-2.result.now c.fits.result c.is_right.result c.are_uses_met.result _ c.in_ok-names.ensures c.as_slice-picks.ensures c.interfaces-interfaces.ensures.interfaces refl c.fits.ensures c.if-not-fits.false c.is_right.ensures c.if-not-is_right.false c.in_ok-traced.ensures c.as_slice.ensures c.are_uses_met.ensures c.if-not-are_uses_met.false c.as_slice-2.ensures c.in_ok-is_walked.ensures c.if-not-is_walked.false
