use Rattle.std.proofs.Common.{length, refl}
use Rattle.zi_check.specs.Parts.{IsThere}
use Rattle.zi_check.proofs.ValidLaws.{below_none, below_more, fits_not, fits_fails, fits_holds}
use Rattle.zi_check.proofs.validity.fits.Goals as goal

pub returns-then-picks-u : goal.returns-then-picks-u
returns-then-picks-u c = fits_not c.args.u.now c.args.picks.now (length c.args.picks.now) (length c.args.u.now) refl refl c.if-picks-u.true

pub loop-i-init : goal.loop-i-init
loop-i-init c = below_none (IsThere c.args.u.now c.args.picks.now)

pub returns-then-not-is_there : goal.returns-then-not-is_there
returns-then-not-is_there c = fits_fails c.args.u.now c.args.picks.now c.loop-i.i c.is_there.result c.is_there.ensures c.if-not-is_there.true

pub loop-i-preserved : goal.loop-i-preserved
loop-i-preserved c = below_more (IsThere c.args.u.now c.args.picks.now) c.loop-i.i c.is_there.result c.loop-i.invariant c.is_there.ensures c.if-not-is_there.false

pub returns : goal.returns
returns c = fits_holds c.args.u.now c.args.picks.now (length c.args.picks.now) (length c.args.u.now) c.loop-i.i refl refl c.if-picks-u.false c.loop-i.invariant c.loop-i-test.false
