use Rattle.zi_check.specs.Parts.{Below, IsThere}
use Rattle.zi_check.proofs.validity.fits.Given as goal

abbrev pub invariant-loop-i : goal.invariant-loop-i
invariant-loop-i l = Below l.i (IsThere l.u l.picks)
